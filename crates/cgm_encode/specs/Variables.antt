-- The numbers of a problem's variables: elements, refinements, variables of the model, sums, naming variables, preferences, objectives.
use Rattle.std.specs.Prelude.{ℕ, ◌+◌, length}
use Rattle.cgm_model.specs.declared.lists.Lists.{Lists}
use Rattle.cgm_enc_formula.specs.Rules.{rule_definitions}
use Rattle.cgm_enc_formula.specs.Terms.{model_variables}

-- how many naming variables the rules have
abbrev pub naming_count : Lists → ℕ
naming_count m = length (rule_definitions m (model_variables m) m.rules)

-- the variable of the first preference, behind the naming variables
abbrev pub first_preference : Lists → ℕ
first_preference m = model_variables m + naming_count m

-- the variable of the first objective
abbrev pub first_objective : Lists → ℕ
first_objective m = first_preference m + length m.prefers

-- how many variables there are
abbrev pub variable_total : Lists → ℕ
variable_total m = first_objective m + length m.objectives
