-- The trails that a `Work` keeps.
use Rattle.std.specs.Prelude.{List}
use Rattle.cgm_trail.specs.declared.works.Work.TheInside.{Inside}
use Rattle.cgm_trail.specs.TrailState.{TrailState}

abbrev pub kept_trails : Inside → List TrailState
kept_trails w = w.trails.items
