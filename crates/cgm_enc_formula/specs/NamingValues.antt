-- What the naming variables of a formula have to say: the truth of each node that has one, parts before the whole, from the left.
use Rattle.std.specs.Prelude.{Bool, not, ◌&&◌, ◌||◌, List, [], ◌∷◌, ◌++◌, map, flat_map, ℤ, int_le}
use Rattle.std.specs.List.{list_all, list_any}
use Rattle.cgm_formula.specs.declared.formula.Formula.{Formula}
use Rattle.cgm_formula.specs.declared.formula.Formula.TheOpen.{Formula-F}
use Rattle.cgm_formula.specs.declared.formula.Formula.TheFolds.{fold-Formula}
use Rattle.cgm_formula.specs.declared.formula.Number.{Number}
use Rattle.cgm_formula.specs.declared.formula.Truth.{Truth}
use Rattle.cgm_formula.specs.Nodes.{lists_joined}
use Rattle.cgm_formula.specs.Truth.{linear_value, same_truth}
use Rattle.cgm_model.specs.declared.lists.Rule.{Rule}
use Rattle.cgm_model.specs.Formulas.{formula_of}

-- the truths of the nodes that have a variable, and what the formula says
pub record Told : Type 0 where
  pub truths : List Bool
  pub says : Bool

-- one node more, behind those of the parts
abbrev pub telling : List Bool → Bool → Told
telling parts truth = record { truths = parts ++ truth ∷ []; says = truth }

abbrev pub all_truths : List Told → List Bool
all_truths parts = lists_joined (map (λ part. part.truths) parts)

-- one level, with what each part tells; `=` has nodes for `<=`, for `>=` and for both
abbrev pub told_step : (Truth → Bool) → (Number → ℤ) → Formula-F Told → Told
told_step names numbers (Formula-F.Name name) = record { truths = []; says = names name }
told_step names numbers (Formula-F.Not part) = record { truths = part.truths; says = not part.says }
told_step names numbers (Formula-F.And parts) = telling (all_truths parts) (list_all (λ part. part.says) parts)
told_step names numbers (Formula-F.Or parts) = telling (all_truths parts) (list_any (λ part. part.says) parts)
told_step names numbers (Formula-F.Implies premise conclusion) =
    telling (premise.truths ++ conclusion.truths) (not premise.says || conclusion.says)
told_step names numbers (Formula-F.Iff one other) = telling (one.truths ++ other.truths) (same_truth one.says other.says)
told_step names numbers (Formula-F.AtMost l k) = telling [] (int_le (linear_value numbers l) k)
told_step names numbers (Formula-F.AtLeast l k) = telling [] (int_le k (linear_value numbers l))
told_step names numbers (Formula-F.Equal l k) =
    telling (int_le (linear_value numbers l) k ∷ int_le k (linear_value numbers l) ∷ [])
    (int_le (linear_value numbers l) k && int_le k (linear_value numbers l))

-- by recursion on the formula
abbrev pub told : (Truth → Bool) → (Number → ℤ) → Formula → Told
told names numbers = fold-Formula Told (told_step names numbers)

-- the truths of the nodes of all rules, in order
abbrev pub rule_truths : (Truth → Bool) → (Number → ℤ) → List Rule → List Bool
rule_truths names numbers rules = flat_map (λ r. (told names numbers (formula_of r)).truths) rules
