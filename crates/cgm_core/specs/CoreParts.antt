-- The state that the fields of a `Core` keep.
use Rattle.std.specs.Prelude.{◌≡◌, length}
use Rattle.cgm_atom.specs.Limits.{max_workers}
use Rattle.cgm_core.specs.declared.cores.Core.TheInside.{Inside}
use Rattle.cgm_log.specs.Events.{AreFronts, CoreState}

abbrev pub core_state : Inside → CoreState
core_state c =
    record { problem = c.log.problem; log = c.log.entries; fronts_seen = c.fronts_seen.items }

pub record IsCore (s : CoreState) : Type 0 where
  pub fronts_seen : length s.fronts_seen ≡ max_workers
  pub fronts : AreFronts s

abbrev pub IsCoreInside : Inside → Type 0
IsCoreInside c = IsCore (core_state c)
