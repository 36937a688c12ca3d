-- A log as contracts see it: a problem, and entries that are accepted for it and that a certificate can write.
use Rattle.std.specs.Prelude.{◌^◌, ◌<◌, List, length}
use Rattle.std.specs.List.{All}
use Rattle.cgm_atom.specs.declared.entries.Entry.{Entry}
use Rattle.cgm_atom.specs.Acceptance.{IsAccepted}
use Rattle.cgm_atom.specs.Instance.{Instance}
use Rattle.cgm_atom.specs.Limits.{IsWellFormedProblem}
use Rattle.cgm_atom.specs.Ranges.{IsPrintable}

pub record LogBook : Type 0 where
  pub problem : Instance
  pub entries : List Entry

-- what holds of every log
pub record IsLog (l : LogBook) : Type 0 where
  pub problem : IsWellFormedProblem l.problem
  pub accepted : IsAccepted l.problem l.entries
  pub printable : All IsPrintable l.entries
  pub count : length l.entries < 2 ^ 63
