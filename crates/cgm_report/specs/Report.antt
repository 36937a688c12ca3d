-- The lines of a realization, and the reports that there is one or none.
use Rattle.std.specs.Prelude.{ℕ, Bool, true, false, List, [], ◌∷◌, ◌++◌, codes, ℤ}
use Rattle.std.specs.Fmt.{signed_decimal}
use Rattle.cgm_base.specs.Printed.{line, truth_word}
use Rattle.cgm_model.specs.declared.lists.Element.{Element}
use Rattle.cgm_model.specs.declared.lists.ElementKind.{ElementKind}
use Rattle.cgm_model.specs.declared.lists.ElementKind.TheVariants as kinds
use Rattle.cgm_model.specs.declared.lists.Refinement.{Refinement}
use Rattle.cgm_formula.specs.declared.assignment.Assignment.{Assignment}
use Rattle.cgm_model.specs.declared.lists.Lists.{Lists}
use Rattle.cgm_model.specs.declared.lists.Objective.{Objective}
use Rattle.cgm_model.specs.declared.lists.Sum.{Sum}
use Rattle.cgm_model.specs.declared.lists.Variable.{Variable}
use Rattle.cgm_model.specs.Sums.{sums_of}
use Rattle.cgm_print.specs.Canonical.{quantity_name}
use Rattle.cgm_evolve.specs.Pairs.{Pair}
use Rattle.cgm_obj.specs.Vector.{quantity}

abbrev pub element_word : ElementKind → List ℕ
element_word kinds.Goal = codes "goal"
element_word kinds.Task = codes "task"
element_word kinds.Assume = codes "assume"

-- a word, a name and a truth value
abbrev pub found_line : List ℕ → List ℕ → Bool → List ℕ
found_line word name truth = line (word ++ codes " " ++ name ++ codes " " ++ truth_word truth)

-- one line for each element, with its truth value
abbrev pub element_lines : List Element → List Bool → List ℕ
element_lines [] truths = []
element_lines (e ∷ elements) [] = []
element_lines (e ∷ elements) (truth ∷ truths) = found_line (element_word e.kind) e.name truth ++ element_lines elements truths

-- one line for each refinement, with its truth value
abbrev pub refinement_lines : List Refinement → List Bool → List ℕ
refinement_lines [] truths = []
refinement_lines (r ∷ refinements) [] = []
refinement_lines (r ∷ refinements) (truth ∷ truths) = found_line (codes "refine") r.name truth ++ refinement_lines refinements truths

-- a word, a name and a number
abbrev pub number_line : List ℕ → List ℕ → ℤ → List ℕ
number_line word name number = line (word ++ codes " " ++ name ++ codes " " ++ signed_decimal number)

-- one line for each variable, with its number
abbrev pub variable_lines : List Variable → List ℤ → List ℕ
variable_lines [] numbers = []
variable_lines (v ∷ vars) [] = []
variable_lines (v ∷ vars) (number ∷ numbers) = number_line (codes "var") v.name number ++ variable_lines vars numbers

-- one line for each sum, with its value
abbrev pub sum_lines : List Sum → List ℤ → List ℕ
sum_lines [] values = []
sum_lines (s ∷ sums) [] = []
sum_lines (s ∷ sums) (value ∷ values) = number_line (codes "sum") s.name value ++ sum_lines sums values

abbrev pub objective_word : Bool → List ℕ
objective_word false = codes "objective min"
objective_word true = codes "objective max"

-- one line for each objective, with the quantity itself
abbrev pub objective_lines : Lists → List Pair → Assignment → List Objective → List ℕ
objective_lines m earlier a [] = []
objective_lines m earlier a (o ∷ objectives) =
    number_line (objective_word o.max) (quantity_name m o.of) (quantity m earlier a o.of) ++ objective_lines m earlier a objectives

-- the found lines of an assignment
abbrev pub found_lines : Lists → List Pair → Assignment → List ℕ
found_lines m earlier a =
    objective_lines m earlier a m.objectives ++ element_lines m.elements a.elements
    ++ refinement_lines m.refinements a.refinements ++ variable_lines m.vars a.vars ++ sum_lines m.sums (sums_of m a)

abbrev pub realized : Lists → List Pair → Assignment → List ℕ
realized m earlier a = line (codes "realized") ++ found_lines m earlier a

abbrev pub unrealizable : List ℕ
unrealizable = line (codes "unrealizable")
