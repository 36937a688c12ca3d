-- What the index of an earlier realization says of a name.
use Rattle.std.specs.Prelude.{◌≡◌, ℕ, Bool, List, Option}
use Rattle.std.specs.Str.{bytes_eq}
use Rattle.indexmap.specs.IndexMap.{get_by}
use Rattle.cgm_evolve.specs.declared.index.Index.{Index}
use Rattle.cgm_evolve.specs.Pairs.{Pair, truth_in}

abbrev pub pair_found : Index → List ℕ → Option Bool
pair_found index name = get_by (λ key. bytes_eq name key.items) index.entries

-- it says of each name what the pairs say
abbrev pub Indexes : List Pair → Index → Type 0
Indexes pairs index = (name : List ℕ) → pair_found index name ≡ truth_in pairs name
