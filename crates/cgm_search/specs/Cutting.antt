-- The parts of a cut by their names.
use Rattle.std.specs.Prelude.{◌≡◌, ℕ, zero, suc, ◌+◌, max, List, [], ◌∷◌, length, map}
use Rattle.std.specs.List.{filter}
use Rattle.cgm_atom.specs.declared.entries.Hint.{Hint}
use Rattle.cgm_atom.specs.declared.entries.Hint.TheVariants as hint
use Rattle.cgm_atom.specs.Instance.{Instance}
use Rattle.cgm_clauses.specs.declared.named.Named.{Named}
use Rattle.cgm_search.specs.Storing.{is_of_cut}

-- how many parts the cut of each best has
abbrev pub parts_of : Instance → ℕ
parts_of p = max 1 (length p.objectives)

-- the names of so many parts, from a part on
abbrev pub cut_names : ℕ → ℕ → ℕ → List Hint
cut_names ordinal part zero = []
cut_names ordinal part (suc n) = hint.Cut ordinal part ∷ cut_names ordinal (part + 1) n

-- the parts of cuts among the clauses are, by their names and in their order, so many of the best with the ordinal
abbrev pub IsOfParts : ℕ → ℕ → List Named → Type 0
IsOfParts ordinal parts clauses = map (λ n. n.name) (filter is_of_cut clauses) ≡ cut_names ordinal 0 parts
