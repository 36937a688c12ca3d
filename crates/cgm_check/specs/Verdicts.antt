-- What a list of entries tells of a problem: its least solution, that there is none, nothing yet, or its first fault.
use Rattle.std.specs.Prelude.{◌≡◌, ℕ, zero, suc, List, take, slice_get, Some, None, IsSomeAnd, IsTrue}
use Rattle.cgm_atom.specs.declared.entries.BadStep.{BadStep}
use Rattle.cgm_atom.specs.declared.entries.Entry.{Entry}
use Rattle.cgm_atom.specs.Acceptance.{IsAccepted, IsClosed, first_fault}
use Rattle.cgm_atom.specs.Instance.{HasNoSolution, Instance, IsLeast, IsSolution}
use Rattle.cgm_atom.specs.LogState.{LogState, last_best, state_of}
use Rattle.cgm_check.specs.declared.Verdict.{Verdict}
use Rattle.cgm_check.specs.declared.Verdict.TheVariants.{Least, NoSolution, Open, Refused}

-- the entries before this step, which counts from 1, are accepted, and this is the fault of the entry there
abbrev pub IsRefusedAt : Instance → List Entry → ℕ → BadStep → Type 0
IsRefusedAt p entries zero why = ⊥
IsRefusedAt p entries (suc i) why =
    IsAccepted p (take i entries)
    × IsSomeAnd (slice_get entries i) (λ e. first_fault p (state_of (take i entries)) e ≡ Some why)

abbrev pub IsVerdictOf : Instance → List Entry → Verdict → Type 0
IsVerdictOf p entries (Least values) =
    IsAccepted p entries
    × IsClosed entries
    × (last_best (state_of entries) ≡ Some values)
    × IsSolution p values
    × IsLeast p values
IsVerdictOf p entries NoSolution =
    IsAccepted p entries × IsClosed entries × (last_best (state_of entries) ≡ None) × HasNoSolution p
IsVerdictOf p entries (Open best) =
    IsAccepted p entries × ¬ IsClosed entries × (last_best (state_of entries) ≡ best)
IsVerdictOf p entries (Refused step why) = IsRefusedAt p entries step why

-- what the state of accepted entries tells
abbrev pub IsEndOf : LogState → Verdict → Type 0
IsEndOf s (Least values) = IsTrue s.closed × (last_best s ≡ Some values)
IsEndOf s NoSolution = IsTrue s.closed × (last_best s ≡ None)
IsEndOf s (Open best) = ¬ IsTrue s.closed × (last_best s ≡ best)
IsEndOf s (Refused step why) = ⊥
