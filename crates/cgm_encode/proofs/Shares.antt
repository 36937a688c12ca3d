-- The shares of sums are of elements and refinements, those of objectives of variables before the objectives.
use Rattle.std.proofs.Common.{ℕ, ◌<◌, ◌==◌, Bool, true, false, cond, List, [], ◌∷◌, length, get_or, map, arith}
use Rattle.std.specs.Prelude.{ℤ, pos, negsuc, neg_ℤ, filter}
use Rattle.std.specs.List.{All, range_with_len}
use Rattle.std.proofs.lemmas.List.Elements.{All-append, All-cons, All-filter, All-map, All-nil, All-weaker}
use Rattle.cgm_formula.specs.declared.formula.Number.TheVariants as number
use Rattle.cgm_formula.specs.declared.formula.Truth.{Truth}
use Rattle.cgm_formula.specs.declared.formula.Truth.TheVariants.{Element, Refinement}
use Rattle.cgm_model.specs.declared.lists.Lists.{Lists}
use Rattle.cgm_model.specs.declared.lists.Objective.{Objective}
use Rattle.cgm_model.specs.declared.lists.Quantity.{Quantity}
use Rattle.cgm_model.specs.declared.lists.Quantity.TheVariants as quantities
use Rattle.cgm_model.specs.declared.lists.SumValue.{SumValue}
use Rattle.cgm_model.specs.declared.lists.Weighing.{Weighing}
use Rattle.cgm_model.specs.Formulas.{IsKnownTruth}
use Rattle.cgm_model.specs.Leaves.{element_numbers, leaf_tasks}
use Rattle.cgm_model.specs.Statement.{IsKnownQuantity}
use Rattle.cgm_model.specs.TruthVariables.{truth_variables, variable_of}
use Rattle.cgm_evolve.specs.Costs.{elements_of_interest}
use Rattle.cgm_evolve.specs.Pairs.{Pair}
use Rattle.cgm_obj.specs.Counts.{is_free_requirement}
use Rattle.cgm_enc_formula.specs.Terms.{number_variable}
use Rattle.cgm_encode.specs.Quantities.{free_requirements, objective_total, ones, possible_work, quantity_total, sum_total, was_true_before}
use Rattle.cgm_encode.specs.Totals.{Share, Total, opposite_total}
use Rattle.cgm_encode.specs.Variables.{first_objective, first_preference}
use Rattle.cgm_encode.proofs.GroupPlaces.{all_ranged}
use Rattle.cgm_encode.proofs.KnownParts.{HasKnownParts}
use Rattle.cgm_encode.proofs.QuantityValues.{interests_known, leaf_tasks_known, range_known}

-- the variables are some of so many
abbrev pub AreShares : ℕ → List Share → Type 0
AreShares n shares = All (λ s. s.1 < n) shares

pub truth_known : (m : Lists) (t : Truth) → IsKnownTruth m t → variable_of m t < truth_variables m
truth_known m (Element k) l = omega arith
truth_known m (Refinement k) l = omega arith

pub sum_shares : (m : Lists) → HasKnownParts m → (sum : ℕ) → AreShares (truth_variables m) (sum_total m sum).shares
sum_shares m parts sum =
    let f : SumValue → Share = λ v. (v.k, variable_of m v.of) in
    let P : Share → Type 0 = λ s. s.1 < truth_variables m in
    let p : SumValue → Bool = λ v. v.sum == sum in
    All-map P f (filter p m.values) (All-filter p (λ v. P (f v)) m.values (λ k d l. truth_known m (get_or m.values k d).of (parts.values k d l)))

opposite_shares : (n : ℕ) (t : Total) → AreShares n t.shares → AreShares n (opposite_total t).shares
opposite_shares n t known = All-map (λ (s : Share). s.1 < n) (λ (s : Share). (neg_ℤ s.0, s.1)) t.shares known

-- the elements with any numbers
element_shares : (m : Lists) (f : ℕ → ℤ) (xs : List ℕ) → All (λ k. k < length m.elements) xs → AreShares (first_objective m) (map (λ e. (f e, e)) xs)
element_shares m f xs known =
    All-map (λ (s : Share). s.1 < first_objective m) (λ e. (f e, e)) xs
    (All-weaker (λ k. k < length m.elements) (λ k. k < first_objective m) (λ k l. omega arith) xs known)

weighing_shares : (m : Lists) (f : Weighing → ℤ) (ws : List Weighing) → All (λ w. w.element < length m.elements) ws → AreShares (first_objective m) (map (λ w. (f w, w.element)) ws)
weighing_shares m f ws known =
    All-map (λ (s : Share). s.1 < first_objective m) (λ w. (f w, w.element)) ws
    (λ k d l. let here = known k d l in omega arith)

one_known : (n x : ℕ) → x < n → AreShares n (ones (x ∷ []))
one_known n x l = All-cons (λ (s : Share). s.1 < n) (pos 1, x) [] l (All-nil (λ (s : Share). s.1 < n))

pub quantity_shares : (m : Lists) → HasKnownParts m → (pairs : List Pair) (q : Quantity) → IsKnownQuantity m q → AreShares (first_objective m) (quantity_total m pairs q).shares
quantity_shares m parts pairs (quantities.Var k) known = one_known (first_objective m) (number_variable m (number.Var k)) (omega arith)
quantity_shares m parts pairs (quantities.Sum k) known = one_known (first_objective m) (number_variable m (number.Sum k)) (omega arith)
quantity_shares m parts pairs quantities.Weight known =
    All-append (λ (s : Share). s.1 < first_objective m) (map (λ (w : Weighing). (w.k, w.element)) m.penalties) (map (λ (w : Weighing). (neg_ℤ w.k, w.element)) m.rewards)
    (weighing_shares m (λ w. w.k) m.penalties parts.penalties)
    (weighing_shares m (λ w. neg_ℤ w.k) m.rewards parts.rewards)
quantity_shares m parts pairs quantities.UnsatPrefs known =
    let n = length m.prefers in
    All-map (λ (s : Share). s.1 < first_objective m) (λ x. (pos 1, x)) (range_with_len (first_preference m) n)
    (all_ranged (λ x. x < first_objective m) (first_preference m) n (λ k l. omega arith))
quantity_shares m parts pairs quantities.UnsatReqs known =
    element_shares m (λ _. negsuc 0) (free_requirements m)
    (All-filter (is_free_requirement m) (λ k. k < length m.elements) (element_numbers m) (range_known (length m.elements)))
quantity_shares m parts pairs quantities.SatTasks known = element_shares m (λ _. pos 1) (leaf_tasks m) (leaf_tasks_known m)
quantity_shares m parts pairs quantities.Familiarity known =
    element_shares m (λ e. cond (was_true_before m pairs e) (negsuc 0) (pos 1)) (elements_of_interest m) (interests_known m parts)
quantity_shares m parts pairs quantities.Effort known =
    element_shares m (λ _. pos 1) (possible_work m pairs)
    (All-filter _ (λ k. k < length m.elements) (elements_of_interest m) (interests_known m parts))

signed_shares : (n : ℕ) (max : Bool) (t : Total) → AreShares n t.shares → AreShares n (cond max (opposite_total t) t).shares
signed_shares n true t known = opposite_shares n t known
signed_shares n false t known = known

pub objective_shares : (m : Lists) → HasKnownParts m → (pairs : List Pair) (o : Objective) → IsKnownQuantity m o.of → AreShares (first_objective m) (objective_total m pairs o).shares
objective_shares m parts pairs o known = signed_shares (first_objective m) o.max (quantity_total m pairs o.of) (quantity_shares m parts pairs o.of known)
