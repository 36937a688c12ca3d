-- The steps of propagation by a row: one atom made true, and the terms of a row that is claimed.
use Rattle.std.specs.Prelude.{◌≡◌, Bool, true, false, ℕ, ◌<◌, ◌-ℤ◌, ◌≤ℤ◌, unsigned_abs, Result, Ok, Err}
use Rattle.cgm_atom.specs.declared.constraints.Atom.{Atom}
use Rattle.cgm_atom.specs.declared.constraints.Row.{Row}
use Rattle.cgm_atom.specs.Bounds.{Bounds}
use Rattle.cgm_atom.specs.Limits.{IsRowOf}
use Rattle.cgm_atom.specs.Narrowing.{greatest_activity, is_claimed_in, made_true}
use Rattle.cgm_trail.specs.TrailState.{IsOpenIn, TrailState, box_of}

-- whether the atom, which isn't false, is true now; it isn't where it was open and no step is left,
-- or where it was open and memory was wanted for a step
abbrev pub IsMadeTrue : {E : Type 0} → Atom → TrailState → TrailState → ℕ → Result Bool E → Type 0
IsMadeTrue a old new left (Ok true) = box_of new ≡ made_true (box_of old) a
IsMadeTrue a old new left (Ok false) = (left ≡ 0) × (new ≡ old) × IsOpenIn (box_of old) a
IsMadeTrue a old new left (Err e) = (0 < left) × (new ≡ old) × IsOpenIn (box_of old) a

-- values of the box meet the row, by so much at most, and it is claimed
pub record HasRoom (b : Bounds) (r : Row) (room : ℕ) : Type 0 where
  pub row : IsRowOf b r
  pub met : r.least ≤ℤ greatest_activity b r.terms
  pub claimed : is_claimed_in b r.guard ≡ true
  pub amount : room ≡ unsigned_abs (greatest_activity b r.terms -ℤ r.least)
