-- The lines of a realization by its vector, as they are made: those of objectives show the quantities themselves.
use Rattle.std.specs.Prelude.{◌≡◌, ℕ, ℤ, neg_ℤ, Bool, List, [], ◌∷◌, ◌++◌, codes, length, if◌then◌else◌}
use Rattle.cgm_base.specs.Printed.{line}
use Rattle.cgm_model.specs.declared.lists.Lists.{Lists}
use Rattle.cgm_model.specs.declared.lists.Objective.{Objective}
use Rattle.cgm_model.specs.Assignment.{Fits}
use Rattle.cgm_model.specs.Sums.{sums_of}
use Rattle.cgm_print.specs.Canonical.{quantity_name}
use Rattle.cgm_encode.specs.declared.answer.Found.{Found}
use Rattle.cgm_report.specs.Report.{number_line, objective_word, element_lines, refinement_lines, variable_lines, sum_lines}

-- the quantity of an objective's number in a vector
abbrev pub shown : Bool → ℤ → ℤ
shown max number = if max then neg_ℤ number else number

-- the line of an objective with its number in a vector
unfoldable pub shown_line : Lists → Objective → ℤ → List ℕ
shown_line m o number = number_line (objective_word o.max) (quantity_name m o.of) (shown o.max number)

abbrev pub vector_lines : Lists → List Objective → List ℤ → List ℕ
vector_lines m [] vector = []
vector_lines m (o ∷ objectives) [] = []
vector_lines m (o ∷ objectives) (number ∷ vector) = shown_line m o number ++ vector_lines m objectives vector

-- the lines of what is found: those of its vector and of its assignment
abbrev pub shown_lines : Lists → Found → List ℕ
shown_lines m found =
    vector_lines m m.objectives found.vector ++ element_lines m.elements found.assignment.elements
    ++ refinement_lines m.refinements found.assignment.refinements ++ variable_lines m.vars found.assignment.vars
    ++ sum_lines m.sums (sums_of m found.assignment)

abbrev pub shown_report : Lists → Found → List ℕ
shown_report m found = line (codes "realized") ++ shown_lines m found

-- what has a line for each of its numbers
pub record IsShowable (m : Lists) (found : Found) : Type 0 where
  pub fits : Fits m found.assignment
  pub vector : length found.vector ≡ length m.objectives
