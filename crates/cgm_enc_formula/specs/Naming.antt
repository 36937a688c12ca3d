-- A formula's literal, and the definitions of the naming variables of its nodes: parts before the whole, from the left.
use Rattle.std.specs.Prelude.{ℕ, ◌+◌, List, [], ◌∷◌, ◌++◌, length, map, ℤ}
use Rattle.cgm_formula.specs.declared.formula.Formula.{Formula}
use Rattle.cgm_formula.specs.declared.formula.Linear.{Linear}
use Rattle.cgm_formula.specs.declared.formula.Formula.TheOpen.{Formula-F}
use Rattle.cgm_formula.specs.declared.formula.Formula.TheFolds.{fold-Formula}
use Rattle.cgm_model.specs.declared.lists.Lists.{Lists}
use Rattle.cgm_model.specs.TruthVariables.{variable_of}
use Rattle.cgm_enc_formula.specs.declared.literals.Literal.{Literal}
use Rattle.cgm_enc_formula.specs.Definitions.{Definition, all_of, any_of, at_least, at_most, same_as}
use Rattle.cgm_enc_formula.specs.Literals.{opposite, positive}
use Rattle.cgm_enc_formula.specs.Terms.{row_terms}

pub record Named : Type 0 where
  pub definitions : List Definition
  pub literal : Literal

pub record NamedParts : Type 0 where
  pub definitions : List Definition
  pub literals : List Literal

-- what a formula gives where the next naming variable has this number
abbrev pub Naming : Type 0
Naming = ℕ → Named

abbrev pub parts_named : List Naming → ℕ → NamedParts
parts_named [] n = record { definitions = []; literals = [] }
parts_named (part ∷ parts) n =
    let first = part n in
    let rest = parts_named parts (n + length first.definitions) in
    record { definitions = first.definitions ++ rest.definitions; literals = first.literal ∷ rest.literals }

-- one variable more, behind those of the parts
abbrev pub defined : ℕ → List Definition → Definition → Named
defined n parts whole = record { definitions = parts ++ whole ∷ []; literal = positive (n + length parts) }

-- `=` with the first variable n: `<=`, `>=`, and both
abbrev pub equal_definitions : Lists → Linear → ℤ → ℕ → List Definition
equal_definitions m l k n =
    at_most (row_terms m l) k ∷ at_least (row_terms m l) k ∷ all_of (positive n ∷ positive (n + 1) ∷ []) ∷ []

-- one level, with the naming of each part
abbrev pub naming_step : Lists → Formula-F Naming → Naming
naming_step m (Formula-F.Name name) n = record { definitions = []; literal = positive (variable_of m name) }
naming_step m (Formula-F.Not part) n = record { definitions = (part n).definitions; literal = opposite (part n).literal }
naming_step m (Formula-F.And parts) n = defined n (parts_named parts n).definitions (all_of (parts_named parts n).literals)
naming_step m (Formula-F.Or parts) n = defined n (parts_named parts n).definitions (any_of (parts_named parts n).literals)
naming_step m (Formula-F.Implies premise conclusion) n =
    let one = premise n in
    let other = conclusion (n + length one.definitions) in
    defined n (one.definitions ++ other.definitions) (any_of (opposite one.literal ∷ other.literal ∷ []))
naming_step m (Formula-F.Iff first second) n =
    let one = first n in
    let other = second (n + length one.definitions) in
    defined n (one.definitions ++ other.definitions) (same_as one.literal other.literal)
naming_step m (Formula-F.AtMost l k) n = defined n [] (at_most (row_terms m l) k)
naming_step m (Formula-F.AtLeast l k) n = defined n [] (at_least (row_terms m l) k)
naming_step m (Formula-F.Equal l k) n = record { definitions = equal_definitions m l k n; literal = positive (n + 2) }

-- by recursion on the formula
abbrev pub naming : Lists → Formula → Naming
naming m = fold-Formula Naming (naming_step m)

-- what formulas give, one after another
abbrev pub naming_each : Lists → List Formula → ℕ → NamedParts
naming_each m parts = parts_named (map (naming m) parts)
