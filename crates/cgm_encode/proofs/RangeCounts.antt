-- How many variables each group of ranges brings the problem to.
use Rattle.std.proofs.Common.{◌≡◌, ℕ, ◌+◌, List, length, map, arith}
use Rattle.std.specs.Prelude.{pos}
use Rattle.std.specs.List.{range_with_len}
use Rattle.std.proofs.lemmas.List.{length-append, length-map, length-replicate}
use Rattle.std.proofs.lemmas.List.FromFn.{length-map-range_with_len}
use Rattle.cgm_model.specs.declared.lists.Lists.{Lists}
use Rattle.cgm_model.specs.TruthVariables.{truth_variables}
use Rattle.cgm_evolve.specs.Pairs.{Pair}
use Rattle.cgm_enc_formula.specs.Terms.{model_variables}
use Rattle.cgm_encode.specs.Problem.{all_ranges, bits, choice_ranges, number_ranges, objective_range, own_range, own_ranges, rule_ranges, sum_range}
use Rattle.cgm_encode.specs.Variables.{first_objective, first_preference, naming_count, variable_total}

pub bits_long : (n : ℕ) → length (bits n) ≡ n
bits_long n = length-replicate n (pos 0, pos 1)

pub own_long : (m : Lists) → length (own_ranges m) ≡ truth_variables m + length m.vars
own_long m =
    let both = length-append (bits (truth_variables m)) (map own_range m.vars) in
    let vars = length-map m.vars own_range in
    let first = bits_long (truth_variables m) in
    omega arith

pub numbers_long : (m : Lists) → length (number_ranges m) ≡ model_variables m
numbers_long m =
    let sums = map (sum_range m) (range_with_len 0 (length m.sums)) in
    let both = length-append (own_ranges m) sums in
    let last = length-map-range_with_len (sum_range m) 0 (length m.sums) in
    let first = own_long m in
    omega arith

pub rules_long : (m : Lists) → length (rule_ranges m) ≡ first_preference m
rules_long m =
    let both = length-append (number_ranges m) (bits (naming_count m)) in
    let last = bits_long (naming_count m) in
    let first = numbers_long m in
    omega arith

pub choices_long : (m : Lists) → length (choice_ranges m) ≡ first_objective m
choices_long m =
    let both = length-append (rule_ranges m) (bits (length m.prefers)) in
    let last = bits_long (length m.prefers) in
    let first = rules_long m in
    omega arith

pub all_long : (m : Lists) (pairs : List Pair) → length (all_ranges m pairs) ≡ variable_total m
all_long m pairs =
    let both = length-append (choice_ranges m) (map (objective_range m pairs) m.objectives) in
    let last = length-map m.objectives (objective_range m pairs) in
    let first = choices_long m in
    omega arith
