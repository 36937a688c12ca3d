-- The rows of sums and of objectives have known, distinct variables and small numbers, and so have the clauses of preferences.
use Rattle.std.proofs.Common.{◌≢◌, ℕ, ◌+◌, ◌<◌, ◌≤◌, List, [], ◌∷◌, length, get_or, arith}
use Rattle.std.specs.Prelude.{ℤ, pos, negsuc, neg_ℤ, unsigned_abs}
use Rattle.std.specs.List.{All, enumerate_from, range_with_len}
use Rattle.std.proofs.lemmas.Int.{ints}
use Rattle.std.proofs.lemmas.List.{length-map}
use Rattle.std.proofs.lemmas.List.Elements.{All-cons, All-nil}
use Rattle.cgm_atom.specs.declared.constraints.Var.{Var}
use Rattle.cgm_atom.specs.Bounds.{Bounds}
use Rattle.cgm_atom.specs.Limits.{AreTermsOf, IsAbsent, IsAtomOf, IsClauseOf, IsRowOf, greatest_size}
use Rattle.cgm_atom.specs.Literals.{clause, literal, negated}
use Rattle.cgm_formula.specs.declared.formula.Number.TheVariants as number
use Rattle.cgm_model.specs.declared.lists.Lists.{Lists}
use Rattle.cgm_model.specs.declared.lists.Objective.{Objective}
use Rattle.cgm_model.specs.declared.lists.Preference.{Preference}
use Rattle.cgm_model.specs.TruthVariables.{truth_variables, variable_of}
use Rattle.cgm_model.specs.WellFormed.{IsWellFormedModel}
use Rattle.cgm_evolve.specs.Pairs.{Pair}
use Rattle.cgm_enc_formula.specs.Definitions.{negative}
use Rattle.cgm_enc_formula.specs.Terms.{number_variable}
use Rattle.cgm_enc_formula.proofs.TermMeasures.{negative-measure}
use Rattle.cgm_encode.specs.Problem.{all_ranges, box_of_problem, number_ranges, objective_rows, preference_clauses, preferences_written, problem_of, sum_rows}
use Rattle.cgm_encode.specs.Quantities.{objective_total, sum_total}
use Rattle.cgm_encode.specs.Totals.{Range, Total, combined_terms, row_of, total_rows}
use Rattle.cgm_encode.specs.Variables.{first_objective, first_preference}
use Rattle.cgm_encode.proofs.Activities.{combined_are_terms, terms_fresh}
use Rattle.cgm_encode.proofs.CombinedSizes.{IsModest, terms-measure}
use Rattle.cgm_encode.proofs.GroupPlaces.{all_numbered, all_of_flat, all_ranged_zero, each_of}
use Rattle.cgm_encode.proofs.KnownParts.{known_parts}
use Rattle.cgm_encode.proofs.KnownSizes.{known_sizes}
use Rattle.cgm_encode.proofs.ProblemSizes.{all_sizes, all_small, number_truths, numbers_small, objective_modest, size_within, sum_modest}
use Rattle.cgm_encode.proofs.RangeCounts.{all_long, numbers_long}
use Rattle.cgm_encode.proofs.Shares.{truth_known}

-- ---- terms with their sign changed

absent_negative : (x : ℕ) (terms : List (ℤ × Var)) → IsAbsent x terms → IsAbsent x (negative terms)
absent_negative x [] h = tt
absent_negative x (t ∷ terms) h = (h.0, absent_negative x terms h.1)

negative_terms : (count : ℕ) (terms : List (ℤ × Var)) → AreTermsOf count terms → AreTermsOf count (negative terms)
negative_terms count [] h = tt
negative_terms count (t ∷ terms) h =
    (h.0, not_none t.0 h.1, absent_negative t.1.0 terms h.2, negative_terms count terms h.3)
  where
    not_none : (c : ℤ) → c ≢ pos 0 → neg_ℤ c ≢ pos 0
    not_none c h e = h (omega (arith, ints))

-- ---- the rows of a total

one_is : pos 1 ≢ pos 0
one_is e = omega (arith, ints)

minus_one_is : negsuc 0 ≢ pos 0
minus_one_is e = omega (arith, ints)

pub total_rows_fit : (b : Bounds) (n v most : ℕ) (t : Total) → n ≤ v → v < length b.lower → greatest_size b v ≤ most → most ≤ 2000000000000 → IsModest b most 1000000 t → All (IsRowOf b) (total_rows n t v)
total_rows_fit b n v most t fresh there size few modest =
    let terms = combined_terms n t.shares in
    let count = length b.lower in
    let known = combined_are_terms count n t.shares (omega arith) in
    let absent = terms_fresh n t.shares v fresh in
    let shares = modest.shares in
    let constant = modest.constant in
    let all = terms-measure b n t.shares in
    let turned = negative-measure b terms in
    let least : unsigned_abs (neg_ℤ t.constant) ≤ 1000000 = limit t.constant constant in
    let first = row_of ((pos 1, record { 0 = v }) ∷ negative terms) t.constant in
    let second = row_of ((negsuc 0, record { 0 = v }) ∷ terms) (neg_ℤ t.constant) in
    All-cons (IsRowOf b) first (second ∷ [])
    (record {
      guard = tt;
      terms = (there, one_is, absent_negative v terms absent, negative_terms count terms known);
      measure_limit = omega arith;
      least_limit = omega arith;
    })
    (All-cons (IsRowOf b) second []
    (record {
      guard = tt;
      terms = (there, minus_one_is, absent, known);
      measure_limit = omega arith;
      least_limit = omega arith;
    })
    (All-nil (IsRowOf b)))
  where
    limit : (k : ℤ) → unsigned_abs k ≤ 1000000 → unsigned_abs (neg_ℤ k) ≤ 1000000
    limit k h = omega (arith, ints)

looser : (b : Bounds) (most less more : ℕ) (t : Total) → less ≤ more → IsModest b most less t → IsModest b most more t
looser b most less more t l h = let constant = h.constant in record { shares = h.shares; constant = omega arith }

pub sums_fit : (m : Lists) → ∥ IsWellFormedModel m ∥₁ → All (IsRowOf (box_of_problem (number_ranges m))) (sum_rows m)
sums_fit m well =
    let parts = known_parts m well in
    let sizes = known_sizes m well in
    let b = box_of_problem (number_ranges m) in
    let n = truth_variables m in
    let rows = λ (sum : ℕ). total_rows n (sum_total m sum) (number_variable m (number.Sum sum)) in
    let long = numbers_long m in
    let lower = length-map (number_ranges m) (λ (r : Range). r.0) in
    all_of_flat (IsRowOf b) rows (range_with_len 0 (length m.sums))
    (all_ranged_zero (λ sum. All (IsRowOf b) (rows sum)) (length m.sums)
    (λ sum l.
    total_rows_fit b n (number_variable m (number.Sum sum)) 1000000000000 (sum_total m sum) (omega arith) (omega arith)
    (size_within 1000000000000 (number_ranges m) (numbers_small m parts sizes) (number_variable m (number.Sum sum))) (omega arith)
    (looser b 1000000000000 0 1000000 (sum_total m sum) (omega arith) (sum_modest m parts sizes b (number_truths m parts sizes) sum))))

objectives_fit_box : (m : Lists) (pairs : List Pair) → ∥ IsWellFormedModel m ∥₁ → All (IsRowOf (box_of_problem (all_ranges m pairs))) (objective_rows m pairs)
objectives_fit_box m pairs well =
    let parts = known_parts m well in
    let sizes = known_sizes m well in
    let b = box_of_problem (all_ranges m pairs) in
    let first = first_objective m in
    let os = m.objectives in
    let rows = λ (o : ℕ × Objective). total_rows first (objective_total m pairs o.1) o.0 in
    let long = all_long m pairs in
    let lower = length-map (all_ranges m pairs) (λ (r : Range). r.0) in
    all_of_flat (IsRowOf b) rows (enumerate_from first os)
    (all_numbered (λ x o. All (IsRowOf b) (rows (x, o))) first os
    (each_of (λ x o. All (IsRowOf b) (rows (x, o))) first os
    (λ k d l.
    let o = get_or os k d in
    total_rows_fit b first (first + k) 1000001000000 (objective_total m pairs o) (omega arith) (omega arith)
    (size_within 1000001000000 (all_ranges m pairs) (all_small m parts sizes pairs) (first + k)) (omega arith)
    (objective_modest m pairs parts sizes 1000001000000 (omega arith) b (all_sizes m parts sizes pairs) o (parts.objectives k d l)))))

pub objectives_fit : (m : Lists) (pairs : List Pair) → ∥ IsWellFormedModel m ∥₁ → All (IsRowOf (problem_of m pairs).bounds) (objective_rows m pairs)
unfolding problem_of
objectives_fit m pairs well = objectives_fit_box m pairs well

-- ---- preferences

literal_of : (count x : ℕ) → x < count → IsAtomOf count (literal x)
literal_of count x h = (h, omega arith)

negated_of : (count x : ℕ) → x < count → IsAtomOf count (negated x)
negated_of count x h = (h, omega arith)

preference_of : (m : Lists) (count u : ℕ) (p : Preference) → u < count → variable_of m p.better < count → variable_of m p.worse < count → All (IsClauseOf count) (preference_clauses m (u, p))
preference_of m count u p h k l =
    let A = IsAtomOf count in
    let C = IsClauseOf count in
    let a = variable_of m p.better in
    let b = variable_of m p.worse in
    let one = All-cons A (negated u) (negated a ∷ []) (negated_of count u h) (All-cons A (negated a) [] (negated_of count a k) (All-nil A)) in
    let two = All-cons A (negated u) (literal b ∷ []) (negated_of count u h) (All-cons A (literal b) [] (literal_of count b l) (All-nil A)) in
    let three = All-cons A (literal u) (literal a ∷ negated b ∷ []) (literal_of count u h)
    (All-cons A (literal a) (negated b ∷ []) (literal_of count a k) (All-cons A (negated b) [] (negated_of count b l) (All-nil A))) in
    let first = clause (negated u ∷ negated a ∷ []) in
    let second = clause (negated u ∷ literal b ∷ []) in
    let third = clause (literal u ∷ literal a ∷ negated b ∷ []) in
    All-cons C first (second ∷ third ∷ []) one (All-cons C second (third ∷ []) two (All-cons C third [] three (All-nil C)))

pub preferences_known : (m : Lists) → ∥ IsWellFormedModel m ∥₁ → All (IsClauseOf (first_objective m)) (preferences_written m)
preferences_known m well =
    let parts = known_parts m well in
    let count = first_objective m in
    let first = first_preference m in
    let ps = m.prefers in
    all_of_flat (IsClauseOf count) (preference_clauses m) (enumerate_from first ps)
    (all_numbered (λ x p. All (IsClauseOf count) (preference_clauses m (x, p))) first ps
    (each_of (λ x p. All (IsClauseOf count) (preference_clauses m (x, p))) first ps
    (λ k d l.
    let p = get_or ps k d in
    let better = truth_known m p.better (parts.better k d l) in
    let worse = truth_known m p.worse (parts.worse k d l) in
    preference_of m count (first + k) p (omega arith) (omega arith) (omega arith))))
