-- The assignment that values stand for, and the values of an assignment.
use Rattle.std.specs.Prelude.{ℕ, ◌+◌, not, List, ◌++◌, length, map, ℤ}
use Rattle.std.specs.List.{range_with_len}
use Rattle.cgm_atom.specs.Bounds.{value_of}
use Rattle.cgm_atom.specs.Literals.{bit, truth_at}
use Rattle.cgm_formula.specs.declared.assignment.Assignment.{Assignment}
use Rattle.cgm_model.specs.declared.lists.Lists.{Lists}
use Rattle.cgm_model.specs.Sums.{sums_of}
use Rattle.cgm_evolve.specs.Pairs.{Pair}
use Rattle.cgm_obj.specs.Counts.{is_met}
use Rattle.cgm_obj.specs.Vector.{vector_of}
use Rattle.cgm_enc_formula.specs.Laws.{extended}
use Rattle.cgm_enc_formula.specs.Rules.{rule_definitions}
use Rattle.cgm_enc_formula.specs.Terms.{model_variables}

-- the first values as truths of so many elements, then of so many refinements, then as numbers of so many variables
abbrev pub assignment_of : ℕ → ℕ → ℕ → List ℤ → Assignment
assignment_of elements refinements vars values = record {
  elements = map (truth_at values) (range_with_len 0 elements);
  refinements = map (truth_at values) (range_with_len elements refinements);
  vars = map (value_of values) (range_with_len (elements + refinements) vars);
}

unfoldable pub decoded : Lists → List ℤ → Assignment
decoded m values = assignment_of (length m.elements) (length m.refinements) (length m.vars) values

-- the values of elements, refinements, variables and sums
abbrev pub number_values : Lists → Assignment → List ℤ
number_values m a = ((map bit a.elements ++ map bit a.refinements) ++ a.vars) ++ sums_of m a

-- and of naming variables, each by its definition
abbrev pub rule_values : Lists → Assignment → List ℤ
rule_values m a = extended (number_values m a) (rule_definitions m (model_variables m) m.rules)

-- and of preferences, 1 for one that isn't met
abbrev pub choice_values : Lists → Assignment → List ℤ
choice_values m a = rule_values m a ++ map (λ p. bit (not (is_met a p))) m.prefers

-- and of objectives
unfoldable pub extension : Lists → List Pair → Assignment → List ℤ
extension m pairs a = choice_values m a ++ vector_of m pairs a
