-- What a propagation by a store and all rows makes, and how it ends.
use Rattle.std.specs.Prelude.{◌≡◌, ◌⊎◌, ℕ, List, Some, None, Result, Ok, Err}
use Rattle.std.specs.List.{All}
use Rattle.cgm_atom.specs.declared.constraints.Row.{Row}
use Rattle.cgm_atom.specs.declared.entries.Hint.{Hint}
use Rattle.cgm_atom.specs.Bounds.{Bounds}
use Rattle.cgm_atom.specs.Constraints.{Constraint, left_by}
use Rattle.cgm_atom.specs.Instance.{Instance}
use Rattle.cgm_atom.specs.Narrowing.{left_by_row}
use Rattle.cgm_clauses.specs.declared.named.Named.{Named}
use Rattle.cgm_clauses.specs.StoreState.{IsPairIn}
use Rattle.cgm_clauses.specs.Sweeping.{AreQuiet}
use Rattle.cgm_linear.specs.Sweeping.{IsRowNumbered}
use Rattle.cgm_trail.specs.declared.changes.Swept.{Swept}
use Rattle.cgm_trail.specs.declared.changes.Swept.TheVariants as swept

-- the hint names a clause of the list, or a row of the problem
abbrev pub IsRoundName : Instance → List Named → Hint → Constraint → Type 0
IsRoundName p clauses h k = IsPairIn clauses h k ⊎ ((n : ℕ) × IsRowNumbered p n h k)

-- the rows leave the box as it is
abbrev pub AreRowsQuiet : Bounds → List Row → Type 0
AreRowsQuiet b rows = All (λ r. left_by_row b r ≡ Some b) rows

-- neither the clauses nor the rows of the problem change the box
abbrev pub IsQuietRound : Instance → List Named → Bounds → Type 0
IsQuietRound p clauses b = AreQuiet b clauses × AreRowsQuiet b p.rows

-- at a conflict what the hint names leaves nothing of the box; where it is spent, no step is left
abbrev pub IsRoundEnd : {E : Type 0} → Type 0 → Instance → List Named → Bounds → ℕ → Result Swept E → Type 0
IsRoundEnd quiet p clauses b left (Ok swept.Quiet) = quiet
IsRoundEnd quiet p clauses b left (Ok (swept.Conflict h)) =
    (k : Constraint) × IsRoundName p clauses h k × (left_by b k ≡ None)
IsRoundEnd quiet p clauses b left (Ok swept.Spent) = left ≡ 0
IsRoundEnd quiet p clauses b left (Err e) = Unit {0}

abbrev pub IsSettled : {E : Type 0} → Instance → List Named → Bounds → ℕ → Result Swept E → Type 0
IsSettled p clauses b left result = IsRoundEnd (IsQuietRound p clauses b) p clauses b left result

-- one round: quiet where it took no step
abbrev pub IsOneRound : {E : Type 0} → Instance → List Named → Bounds → ℕ → ℕ → Result Swept E → Type 0
IsOneRound p clauses b left left' result = IsRoundEnd (left' ≡ left → IsQuietRound p clauses b) p clauses b left' result

-- one look at each row
abbrev pub IsRowRound : {E : Type 0} → Instance → Bounds → ℕ → ℕ → Result Swept E → Type 0
IsRowRound p b left left' (Ok swept.Quiet) = left' ≡ left → AreRowsQuiet b p.rows
IsRowRound p b left left' (Ok (swept.Conflict h)) =
    (k : Constraint) × ((n : ℕ) × IsRowNumbered p n h k) × (left_by b k ≡ None)
IsRowRound p b left left' (Ok swept.Spent) = left' ≡ 0
IsRowRound p b left left' (Err e) = Unit {0}

-- the hint names some row of the problem
abbrev pub IsRowName : Instance → Hint → Constraint → Type 0
IsRowName p h k = (n : ℕ) × IsRowNumbered p n h k
