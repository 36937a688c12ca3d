-- The lines by the vector of a realization are its lines, and there is a value for each sum.
use Rattle.std.proofs.Common.{◌≡◌, ◌++◌, ◌∙◌, Bool, true, false, List, [], ◌∷◌, length, map, ℤ, refl, ap, ap₂, if◌then◌else◌}
use Rattle.std.proofs.Math.IntN.{neg_ℤ, neg_ℤ-neg_ℤ}
use Rattle.std.proofs.lemmas.List.FromFn.{length-map-range_with_len}
use Rattle.cgm_formula.specs.declared.assignment.Assignment.{Assignment}
use Rattle.cgm_model.specs.declared.lists.Lists.{Lists}
use Rattle.cgm_model.specs.declared.lists.Objective.{Objective}
use Rattle.cgm_model.specs.Sums.{sum_value, sums_of}
use Rattle.cgm_print.specs.Canonical.{quantity_name}
use Rattle.cgm_evolve.specs.Pairs.{Pair}
use Rattle.cgm_obj.specs.Vector.{objective_number, quantity, vector_of}
use Rattle.cgm_report.specs.Report.{number_line, objective_lines, objective_word}
use Rattle.cgm_report.specs.Laws.{FoundReportsShowQuantities}
use Rattle.cgm_report.specs.Shown.{shown, shown_line, vector_lines}

pub sums_length : (m : Lists) (a : Assignment) → length (sums_of m a) ≡ length m.sums
sums_length m a = length-map-range_with_len (sum_value m a) 0 (length m.sums)

-- the sign that was changed for `max` is changed back
shown_back : (max : Bool) (q : ℤ) → shown max (if max then neg_ℤ q else q) ≡ q
shown_back false q = refl
shown_back true q = neg_ℤ-neg_ℤ q

line_is : (m : Lists) (pairs : List Pair) (a : Assignment) (o : Objective) → shown_line m o (objective_number m pairs a o) ≡ number_line (objective_word o.max) (quantity_name m o.of) (quantity m pairs a o.of)
unfolding shown_line
line_is m pairs a o = ap (λ number. number_line (objective_word o.max) (quantity_name m o.of) number) (shown_back o.max (quantity m pairs a o.of))

lines_are : (m : Lists) (pairs : List Pair) (a : Assignment) (objectives : List Objective) → vector_lines m objectives (map (objective_number m pairs a) objectives) ≡ objective_lines m pairs a objectives
lines_are m pairs a [] = refl
lines_are m pairs a (o ∷ objectives) =
    ap₂ (λ first rest. first ++ rest) (line_is m pairs a o) (lines_are m pairs a objectives)

vector_lines_are : (m : Lists) (pairs : List Pair) (a : Assignment) → vector_lines m m.objectives (vector_of m pairs a) ≡ objective_lines m pairs a m.objectives
unfolding vector_of
vector_lines_are m pairs a = lines_are m pairs a m.objectives

pub show_quantities : FoundReportsShowQuantities
show_quantities m pairs found is =
    let vector : vector_lines m m.objectives found.vector ≡ objective_lines m pairs found.assignment m.objectives =
    ap (λ v. vector_lines m m.objectives v) is ∙ vector_lines_are m pairs found.assignment in
    (rw vector refl, rw vector refl)
