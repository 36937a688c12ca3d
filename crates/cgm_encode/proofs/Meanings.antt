-- What each group of clauses and rows says, where the first values stand for an assignment.
use Rattle.std.proofs.Common.{◌≡◌, ℕ, ◌+◌, ◌<◌, ◌↔◌, Bool, true, false, not, IsTrue, List, length, get_or, map, refl, sym, ap, ◌∙◌}
use Rattle.std.specs.Prelude.{ℤ, pos, int_le, slice_index_or}
use Rattle.std.specs.List.{All, enumerate_from, range_with_len}
use Rattle.std.proofs.lemmas.List.Sums.{AllPass-from_list_all, list_all-from_AllPass}
use Rattle.cgm_atom.specs.declared.constraints.Clause.{Clause}
use Rattle.cgm_atom.specs.declared.constraints.Row.{Row}
use Rattle.cgm_atom.specs.Atoms.{clause_true, row_true}
use Rattle.cgm_atom.specs.Bounds.{value_of}
use Rattle.cgm_atom.specs.Building.{without_repeats}
use Rattle.cgm_atom.specs.Literals.{bit, truth_at}
use Rattle.cgm_atom.proofs.ClauseTruths.{all_repeats-true}
use Rattle.cgm_formula.specs.declared.assignment.Assignment.{Assignment}
use Rattle.cgm_formula.specs.declared.formula.Number.TheVariants as number
use Rattle.cgm_formula.specs.declared.formula.Truth.{Truth}
use Rattle.cgm_formula.specs.declared.formula.Truth.TheVariants.{Element, Refinement}
use Rattle.cgm_formula.specs.Reading.{name_in}
use Rattle.cgm_model.specs.declared.lists.Lists.{Lists}
use Rattle.cgm_model.specs.declared.lists.Objective.{Objective}
use Rattle.cgm_model.specs.declared.lists.Preference.{Preference}
use Rattle.cgm_model.specs.Formulas.{IsKnownTruth}
use Rattle.cgm_base.specs.Place.{EachFrom}
use Rattle.cgm_model.specs.Sums.{sums_of}
use Rattle.cgm_model.specs.TruthVariables.{StandFor, truth_variables, variable_of}
use Rattle.cgm_model.proofs.Sizes.{sum_at}
use Rattle.cgm_evolve.specs.Pairs.{Pair}
use Rattle.cgm_obj.specs.Counts.{is_met}
use Rattle.cgm_obj.specs.Vector.{objective_number}
use Rattle.cgm_enc_formula.specs.Terms.{number_variable}
use Rattle.cgm_encode.specs.Problem.{objective_rows, preference_clauses, preferences_written, sum_rows}
use Rattle.cgm_encode.specs.Quantities.{objective_total, sum_total}
use Rattle.cgm_encode.specs.Totals.{total_rows}
use Rattle.cgm_encode.specs.Variables.{first_objective, first_preference}
use Rattle.cgm_encode.proofs.GroupPlaces.{all_flat, all_numbered, all_of_flat, all_ranged_zero, each_numbered, each_weaker, ranged_zero}
use Rattle.cgm_encode.proofs.KnownParts.{HasKnownParts}
use Rattle.cgm_encode.proofs.PreferenceTruths.{preference_means}
use Rattle.cgm_encode.proofs.QuantityValues.{AreNumbers, IsPreferenceValue, objective_is, sum_is}
use Rattle.cgm_encode.proofs.Shares.{objective_shares, sum_shares}
use Rattle.cgm_encode.proofs.TotalRows.{AreMet, total_rows_mean}

abbrev pub AreTrue : List ℤ → List Clause → Type 0
AreTrue values clauses = All (λ c. IsTrue (clause_true values c)) clauses

pub bit_truth : (b : Bool) → int_le (pos 1) (bit b) ≡ b
bit_truth true = refl
bit_truth false = refl

pub truth_of_bit : (values : List ℤ) (x : ℕ) (b : Bool) → value_of values x ≡ bit b → truth_at values x ≡ b
truth_of_bit values x b h = ap (λ (z : ℤ). int_le (pos 1) z) h ∙ bit_truth b

-- clauses whose later equal atoms were dropped
pub true_as_written : (values : List ℤ) (clauses : List Clause) → AreTrue values (map without_repeats clauses) → AreTrue values clauses
true_as_written values clauses h =
    AllPass-from_list_all (clause_true values) clauses
    (sym (all_repeats-true values clauses) ∙ list_all-from_AllPass (clause_true values) (map without_repeats clauses) h)

pub written_as_true : (values : List ℤ) (clauses : List Clause) → AreTrue values clauses → AreTrue values (map without_repeats clauses)
written_as_true values clauses h =
    AllPass-from_list_all (clause_true values) (map without_repeats clauses)
    (all_repeats-true values clauses ∙ list_all-from_AllPass (clause_true values) clauses h)

-- each sum has its value
abbrev pub AreSums : Lists → List ℤ → Assignment → Type 0
AreSums m values a = (k : ℕ) → k < length m.sums → value_of values (number_variable m (number.Sum k)) ≡ slice_index_or (sums_of m a) k (pos 0)

-- a variable is true where the preference isn't met
abbrev pub IsUnmet : List ℤ → Assignment → ℕ → Preference → Type 0
IsUnmet values a x p = truth_at values x ≡ not (is_met a p)

-- a variable has the number of an objective
abbrev pub IsObjectiveValue : Lists → List Pair → List ℤ → Assignment → ℕ → Objective → Type 0
IsObjectiveValue m pairs values a x o = value_of values x ≡ objective_number m pairs a o

module _ (m : Lists) (values : List ℤ) (a : Assignment) (parts : HasKnownParts m) (names : (t : Truth) → IsKnownTruth m t → value_of values (variable_of m t) ≡ bit (name_in a t)) where
  pub stand : StandFor m (truth_at values) a
  stand = record {
    elements = λ k l. sym (truth_of_bit values k (slice_index_or a.elements k false) (names (Element k) l));
    refinements = λ k l. sym (truth_of_bit values (variable_of m (Refinement k)) (slice_index_or a.refinements k false) (names (Refinement k) l));
  }

  name_truth : (t : Truth) → IsKnownTruth m t → truth_at values (variable_of m t) ≡ name_in a t
  name_truth t known = truth_of_bit values (variable_of m t) (name_in a t) (names t known)

  -- ---- sums

  abbrev rows_of_sum : ℕ → List Row
  rows_of_sum sum = total_rows (truth_variables m) (sum_total m sum) (number_variable m (number.Sum sum))

  pub sums_met : AreMet values (sum_rows m) ↔ AreSums m values a
  sums_met =
      let P : Row → Type 0 = λ r. IsTrue (row_true values r) in
      let n = length m.sums in
      let is : (k : ℕ) → AreMet values (rows_of_sum k) ↔ (value_of values (number_variable m (number.Sum k)) ≡ _) = λ k. total_rows_mean values (truth_variables m) (sum_total m k) (number_variable m (number.Sum k)) (sum_shares m parts k) in (
        λ h k l. (is k).0 (ranged_zero (λ sum. AreMet values (rows_of_sum sum)) n (all_flat P rows_of_sum (range_with_len 0 n) h) k l)
            ∙ sum_is m values a parts names k ∙ sym (sum_at m a k l),
        λ h. all_of_flat P rows_of_sum (range_with_len 0 n)
            (all_ranged_zero (λ sum. AreMet values (rows_of_sum sum)) n
            (λ k l. (is k).1 (h k l ∙ sum_at m a k l ∙ sym (sum_is m values a parts names k)))),
      )

  -- ---- preferences

  pub preferences_met : AreTrue values (preferences_written m) ↔ EachFrom (first_preference m) (IsUnmet values a) m.prefers
  preferences_met =
      let P : Clause → Type 0 = λ c. IsTrue (clause_true values c) in
      let first = first_preference m in
      let Q : ℕ → Preference → Type 0 = λ x p. AreTrue values (preference_clauses m (x, p)) in
      let is : (x k : ℕ) (d : Preference) → k < length m.prefers → Q x (get_or m.prefers k d) ↔ IsUnmet values a x (get_or m.prefers k d) = λ x k d l.
      let p = get_or m.prefers k d in
      preference_means m values x p a (name_truth p.better (parts.better k d l)) (name_truth p.worse (parts.worse k d l)) in (
        λ h. each_weaker Q (IsUnmet values a) first first m.prefers (λ k d l q. (is (first + k) k d l).0 q)
            (each_numbered Q first m.prefers (all_flat P (preference_clauses m) (enumerate_from first m.prefers) h)),
        λ h. all_of_flat P (preference_clauses m) (enumerate_from first m.prefers)
            (all_numbered Q first m.prefers (each_weaker (IsUnmet values a) Q first first m.prefers (λ k d l q. (is (first + k) k d l).1 q) h)),
      )

  -- ---- objectives

  module _ (pairs : List Pair) (numbers : AreNumbers m values a) (each : EachFrom (first_preference m) (IsPreferenceValue values a) m.prefers) where
    abbrev rows_of_objective : ℕ × Objective → List Row
    rows_of_objective o = total_rows (first_objective m) (objective_total m pairs o.1) o.0

    pub objectives_met : AreMet values (objective_rows m pairs) ↔ EachFrom (first_objective m) (IsObjectiveValue m pairs values a) m.objectives
    objectives_met =
        let P : Row → Type 0 = λ r. IsTrue (row_true values r) in
        let first = first_objective m in
        let os = m.objectives in
        let Q : ℕ → Objective → Type 0 = λ x o. AreMet values (rows_of_objective (x, o)) in
        let means : (x k : ℕ) (d : Objective) → k < length os → Q x (get_or os k d) ↔ (value_of values x ≡ _) = λ x k d l.
        let o = get_or os k d in
        total_rows_mean values first (objective_total m pairs o) x (objective_shares m parts pairs o (parts.objectives k d l)) in
        let is = λ (k : ℕ) (d : Objective) (l : k < length os). objective_is m values a parts names pairs (get_or os k d) (parts.objectives k d l) numbers each in (
          λ h. each_weaker Q (IsObjectiveValue m pairs values a) first first os (λ k d l q. (means (first + k) k d l).0 q ∙ is k d l)
              (each_numbered Q first os (all_flat P rows_of_objective (enumerate_from first os) h)),
          λ h. all_of_flat P rows_of_objective (enumerate_from first os)
              (all_numbered Q first os (each_weaker (IsObjectiveValue m pairs values a) Q first first os (λ k d l q. (means (first + k) k d l).1 (q ∙ sym (is k d l))) h)),
        )
