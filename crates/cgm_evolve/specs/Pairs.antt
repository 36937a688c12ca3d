-- An earlier realization: names, each with the truth that it had.
use Rattle.std.specs.Prelude.{◌≢◌, ℕ, ◌≤◌, Bool, List, length, All, AllPairs, IsTrue, Option}
use Rattle.std.specs.Map.{lookup}
use Rattle.std.specs.Str.{bytes_eq}
use Rattle.cgm_base.specs.declared.limit.Which.TheVariants as limits
use Rattle.cgm_base.specs.Words.{limit_number}
use Rattle.cgm_lex.specs.Names.{is_spelled}

-- a name and its truth
abbrev pub Pair : Type 0
Pair = List ℕ × Bool

-- what the pairs say of a name: its truth, or nothing
abbrev pub truth_in : List Pair → List ℕ → Option Bool
truth_in pairs name = lookup (bytes_eq name) pairs

-- the names are spelled as names, a reserved word too, and they are short and distinct
pub record ArePairs (pairs : List Pair) : Type 0 where
  pub spelled : All (λ p. IsTrue (is_spelled p.0)) pairs
  pub short : All (λ p. length p.0 ≤ limit_number limits.NameBytes) pairs
  pub distinct : AllPairs (λ one other. one.0 ≢ other.0) pairs
