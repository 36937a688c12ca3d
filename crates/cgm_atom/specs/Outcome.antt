-- What narrowing answers: whether the box is the same, tighter, or in conflict.
use Rattle.std.specs.Prelude.{IfSome, List, ℤ, ◌≡◌, ◌≢◌, ◌⊎◌, ℕ, ◌<ℤ◌, Option, Some, None}
use Rattle.cgm_atom.specs.Bounds.{Bounds, IsWithin, lower_of, upper_of}
use Rattle.cgm_atom.specs.Constraints.{Constraint, IsMetBy}
use Rattle.cgm_atom.specs.declared.outcome.Narrowed.{Narrowed}
use Rattle.cgm_atom.specs.declared.outcome.Narrowed.TheVariants.{Same, Tighter, Conflict}

-- the answer and the new box, where the definition leaves this box, or conflict
abbrev pub IsNarrowing : Option Bounds → Bounds → Bounds → Narrowed → Type 0
IsNarrowing left old new Same = (left ≡ Some old) × (new ≡ old)
IsNarrowing left old new Tighter = (left ≡ Some new) × (new ≢ old)
IsNarrowing left old new Conflict = (left ≡ None) × (new ≡ old)

-- values of the old box that meet the constraint, if there is one, are in the new box
abbrev pub KeepsValues : Option Constraint → Bounds → Bounds → Type 0
KeepsValues there old new = (values : List ℤ) → IsWithin old values → IfSome there (IsMetBy values) → IsWithin new values

-- no values of the box meet it
abbrev pub HasNoValues : Option Constraint → Bounds → Type 0
HasNoValues there b = (values : List ℤ) → IsWithin b values → ¬ IfSome there (IsMetBy values)

-- some bound is tighter
abbrev pub IsNarrower : Bounds → Bounds → Type 0
IsNarrower new old = (x : ℕ) × ((lower_of old x <ℤ lower_of new x) ⊎ (upper_of new x <ℤ upper_of old x))

-- the answer of a step that is no conflict
abbrev pub IsTightening : Bounds → Bounds → Narrowed → Type 0
IsTightening old new Same = new ≡ old
IsTightening old new Tighter = IsNarrower new old
IsTightening old new Conflict = ⊥

-- the answer of two steps, the second after the first
abbrev pub outcomes_joined : Narrowed → Narrowed → Narrowed
outcomes_joined Same second = second
outcomes_joined Tighter second = Tighter
outcomes_joined Conflict second = Conflict
