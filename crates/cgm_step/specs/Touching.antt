-- The variables of clauses, rows and hints, and boxes that differ at some variables alone.
use Rattle.std.specs.Prelude.{◌≡◌, ◌⊎◌, ℕ, ℤ, List, [], ◌∷◌, ◌++◌, map, take, Option, Some, None}
use Rattle.std.specs.Option.{option_map_or}
use Rattle.cgm_atom.specs.declared.constraints.Atom.{Atom}
use Rattle.cgm_atom.specs.declared.constraints.Var.{Var}
use Rattle.cgm_atom.specs.declared.entries.Hint.{Hint}
use Rattle.cgm_atom.specs.Bounds.{Bounds, lower_of, upper_of}
use Rattle.cgm_atom.specs.Constraints.{Constraint, of_clause, of_row}
use Rattle.cgm_atom.specs.Instance.{Instance}
use Rattle.cgm_atom.specs.LogState.{LogState, named}

abbrev pub vars_of_atoms : List Atom → List ℕ
vars_of_atoms atoms = map (λ a. a.var.0) atoms

abbrev pub vars_of_terms : List (ℤ × Var) → List ℕ
vars_of_terms terms = map (λ t. t.1.0) terms

abbrev pub vars_of_guard : Option Atom → List ℕ
vars_of_guard None = []
vars_of_guard (Some g) = g.var.0 ∷ []

abbrev pub vars_of : Constraint → List ℕ
vars_of (of_clause c) = vars_of_atoms c.atoms
vars_of (of_row r) = vars_of_guard r.guard ++ vars_of_terms r.terms

-- the variables of what a hint names
abbrev pub vars_of_hint : Instance → LogState → Hint → List ℕ
vars_of_hint p s h = option_map_or vars_of (named p s h) []

abbrev pub vars_of_hints : Instance → LogState → List Hint → List ℕ
vars_of_hints p s [] = []
vars_of_hints p s (h ∷ hints) = vars_of_hint p s h ++ vars_of_hints p s hints

-- the hints before the one in conflict, if one is
abbrev pub hints_before : Option ℕ → List Hint → List Hint
hints_before None hints = hints
hints_before (Some place) hints = take place hints

abbrev pub IsAmong : ℕ → List ℕ → Type 0
IsAmong x [] = ⊥
IsAmong x (v ∷ vars) = (x ≡ v) ⊎ IsAmong x vars

-- the bounds of variable x are the same
abbrev pub IsSameAt : Bounds → Bounds → ℕ → Type 0
IsSameAt old new x = (lower_of new x ≡ lower_of old x) × (upper_of new x ≡ upper_of old x)

-- the bounds of all variables but these are the same
abbrev pub ChangesOnly : List ℕ → Bounds → Bounds → Type 0
ChangesOnly vars old new = (x : ℕ) → IsAmong x vars ⊎ IsSameAt old new x
