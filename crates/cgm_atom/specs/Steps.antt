-- What the steps of narrowing by a row need and give.
use Rattle.std.specs.Prelude.{◌≡◌, false, ℕ, ◌<◌, length, ℤ}
use Rattle.cgm_atom.specs.declared.constraints.Atom.{Atom}
use Rattle.cgm_atom.specs.declared.constraints.Var.{Var}
use Rattle.cgm_atom.specs.Bounds.{Bounds, lower_of, upper_of}
use Rattle.cgm_atom.specs.Limits.{IsBound}
use Rattle.cgm_atom.specs.Narrowing.{is_false_in, made_true, tightened_by_term}

-- each bound is within the limit
abbrev pub AreBounds : Bounds → Type 0
AreBounds b = (x : ℕ) → IsBound (lower_of b x) × IsBound (upper_of b x)

-- the atom that a term with so much room makes true
pub record IsKeptAtom (b : Bounds) (room : ℕ) (c : ℤ) (x : Var) (a : Atom) : Type 0 where
  pub var : a.var ≡ x
  pub known : a.var.0 < length b.lower
  pub unmet : is_false_in b a ≡ false
  pub tightened : tightened_by_term b room c x b ≡ made_true b a
