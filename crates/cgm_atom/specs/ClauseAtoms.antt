-- The atoms of a clause that is kept, or of a part of the cut of a best, which is read off the best's values.
use Rattle.std.specs.Prelude.{◌≡◌, false, not, cond, ◌||◌, ℕ, ◌+◌, ◌<◌, ◌==◌, nat_lt, max, ℤ, pos, ◌-ℤ◌, List, [], ◌∷◌, length, drop, slice_get, Option, Some, None}
use Rattle.std.specs.List.{All, filter}
use Rattle.std.specs.Option.{option_map_or}
use Rattle.cgm_atom.specs.declared.clauses.ClauseAtoms.{ClauseAtoms}
use Rattle.cgm_atom.specs.declared.clauses.ClauseAtoms.TheVariants.{Listed, OfCut}
use Rattle.cgm_atom.specs.declared.constraints.Atom.{Atom}
use Rattle.cgm_atom.specs.declared.constraints.Var.{Var}
use Rattle.cgm_atom.specs.Bounds.{Bounds}
use Rattle.cgm_atom.specs.Cut.{cut}
use Rattle.cgm_atom.specs.Instance.{values_at}
use Rattle.cgm_atom.specs.Limits.{IsBound}
use Rattle.cgm_atom.specs.Narrowing.{is_false_in}

-- the atoms of a part of a cut
abbrev pub part_atoms : List Var → List ℤ → ℕ → List Atom
part_atoms objectives values part = option_map_or (λ c. c.atoms) (slice_get (cut objectives values) part) []

-- the greatest value that a part allows the objective at place i, whose best value is v
abbrev pub cut_limit : ℤ → ℕ → ℕ → ℕ → ℤ
cut_limit v i part parts = cond (nat_lt i part || (part + 1 == parts)) (v -ℤ pos 1) v

abbrev pub atoms_of : ClauseAtoms → List Atom
atoms_of (Listed atoms) = atoms.now
atoms_of (OfCut objectives values part) = part_atoms objectives.now (values_at values.now objectives.now) part

-- the part is one of the cut, and each objective has a value within the limit
abbrev pub IsReadable : ClauseAtoms → Type 0
IsReadable (Listed atoms) = Unit {0}
IsReadable (OfCut objectives values part) =
    All (λ v. v.0 < length values.now) objectives.now × All IsBound values.now × (part < max 1 (length objectives.now))

-- each variable is one of so many
abbrev pub AreKnown : ℕ → List Atom → Type 0
AreKnown count atoms = All (λ a. a.var.0 < count) atoms

-- the atoms that aren't false
abbrev pub left_in : Bounds → List Atom → List Atom
left_in b atoms = filter (λ a. not (is_false_in b a)) atoms

-- the place of the first atom, from a place on, that isn't false
abbrev pub IsFirstLeft : Bounds → List Atom → ℕ → Option ℕ → Type 0
IsFirstLeft b atoms from None = left_in b (drop from atoms) ≡ []
IsFirstLeft b atoms from (Some i) =
    (i < length atoms)
    × ((a : Atom) → slice_get atoms i ≡ Some a → (is_false_in b a ≡ false) × (left_in b (drop from atoms) ≡ a ∷ left_in b (drop (i + 1) atoms)))
