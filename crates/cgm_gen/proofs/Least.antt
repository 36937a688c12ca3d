-- The laws on the realization and the least cost of generated models.
use Rattle.std.proofs.Common.{◌≡◌, ℕ, zero, suc, ◌+◌, ◌*◌, ◌-◌, ◌<◌, ◌≤◌, ◌⊎◌, Bool, true, false, not, nat_lt, if◌then◌else◌, List, [], ◌∷◌, ◌++◌, length, take, get_or, slice_get, Some, ℤ, pos, ◌+ℤ◌, ◌*ℤ◌, ◌≤ℤ◌, All, sum_by, refl, sym, ap, ◌∙◌, subst, inl, inr, ⊎_elim, arith}
use Rattle.std.specs.Prelude.{int_le}
use Rattle.std.proofs.lemmas.Bool.{false≢true, le-leb, ltb-false, ltb-true}
use Rattle.std.proofs.lemmas.Int.{ints}
use borrow.Author.Differences.{true_is_le}
use Rattle.std.proofs.lemmas.List.Elements.{All-nil, All-cons}
use Rattle.std.proofs.lemmas.List.Sums.{sum_by-cons}
use Rattle.std.proofs.lemmas.Option.{none-some}
use Rattle.std.proofs.Math.Nat.{min-le_left}
use Rattle.std.proofs.lemmas.Nat.{mod_below}
use Rattle.rand_pcg.specs.Lcg.{Lcg}
use Rattle.rand_pcg.specs.Pcg.{pcg32}
use Rattle.cgm_base.specs.Place.{Each, EachFrom}
use Rattle.cgm_formula.specs.declared.assignment.Assignment.{Assignment}
use Rattle.cgm_formula.specs.Reading.{name_in, number_in}
use Rattle.cgm_formula.specs.Truth.{truth_step}
use Rattle.cgm_formula.proofs.Folds.{fold-AtMost}
use Rattle.cgm_model.specs.declared.lists.Element.{Element}
use Rattle.cgm_model.specs.declared.lists.Refinement.{Refinement}
use Rattle.cgm_model.specs.declared.lists.SumValue.{SumValue}
use Rattle.cgm_model.specs.Assignment.{ElementIsTrue, RefinementIsTrue}
use Rattle.cgm_model.specs.Realization.{KeepsContrib, KeepsElement, KeepsMust, KeepsRefinement, Refines}
use Rattle.cgm_model.specs.Sums.{sums_of, total_by, value_for}
use Rattle.cgm_obj.specs.Least.{Realizes}
use Rattle.cgm_obj.specs.Vector.{vector_of}
use Rattle.cgm_gen.specs.declared.costs.Costs.{Costs}
use Rattle.cgm_gen.specs.Draws.{both_drawn, costs_from, costs_of, draw, drawn_costs, cost_generator, least_of, lesser, one_drawn}
use Rattle.cgm_gen.specs.GeneratedModel.{a_at, a_number, a_value, b_at, b_number, b_value, cost_term, generated_model, goal_at, goal_number, links, model_of_costs, r_at, s_at}
use Rattle.cgm_gen.specs.GeneratedText.{each_goal, r_name, s_name}
use Rattle.cgm_gen.specs.Laws.{GeneratedHasLeast, GeneratedIsRealized}
use Rattle.cgm_gen.specs.Realized.{cost_in, element_truths, generated_realization, realization_of_costs, takes_a, way_truths}
use Rattle.cgm_gen.proofs.Drawing.{counted, late}
use Rattle.cgm_gen.proofs.Realizing.{a_truth, b_truth, cheaper_share, cost_at, each_given, from_start, give_length, goal_truth, least_share, next_same, past_eighth, r_truth, s_truth, share, zero_least}

abbrev items : ℕ → Costs → List Element
items place one = goal_at place ∷ b_at place ∷ a_at place ∷ []

abbrev ways : ℕ → Costs → List Refinement
ways place one = r_at place ∷ s_at place ∷ []

-- ---- refinements and goals that are kept

start_same : (costs : List Costs) (j : ℕ) → j < length costs → cost_at costs j ≡ cost_at costs (0 + j)
start_same costs j h = ap (cost_at costs) (sym (from_start j))

-- a way with one source, whose truth is that of the source
way_kept : (a : Assignment) (place source target : ℕ) (name : List ℕ) → get_or a.refinements place false ≡ get_or a.elements source false → get_or a.elements target false ≡ true
    → KeepsRefinement a place (record { name = name; target = target; sources = source ∷ [] })
way_kept a place source target name same reached =
    let one : 0 < 1 = omega arith in
    record {
      sources = (λ way. All-cons (ElementIsTrue a) source [] (sym same ∙ way) (All-nil (ElementIsTrue a)), λ all. same ∙ all 0 source one);
      target = λ way. reached;
    }

pub ways_kept : (costs : List Costs) → Each (KeepsRefinement (realization_of_costs costs)) (model_of_costs costs).refinements
ways_kept costs =
    let a = realization_of_costs costs in
    each_given (KeepsRefinement a) ways 2 (λ k c. refl) costs
    (λ k h. (
      way_kept a (2 * k) (a_number k) (goal_number k) (r_name k) (r_truth 0 k costs h ∙ sym (a_truth 0 k costs h)) (goal_truth 0 k costs h),
      (way_kept a (2 * k + 1) (b_number k) (goal_number k) (s_name k) (s_truth 0 k costs h ∙ sym (b_truth 0 k costs h)) (goal_truth 0 k costs h), tt),
    ))
    0 costs (start_same costs) (from_start (length costs))

pub musts_kept : (costs : List Costs) → Each (KeepsMust (realization_of_costs costs)) (model_of_costs costs).elements
musts_kept costs =
    let a = realization_of_costs costs in
    each_given (KeepsMust a) items 3 (λ k c. refl) costs
    (λ k h. (λ must. goal_truth 0 k costs h, (λ must. absurd (false≢true must), (λ must. absurd (false≢true must), tt))))
    0 costs (start_same costs) (from_start (length costs))

-- ---- the cost of an assignment, goal by goal

abbrev values : ℕ → Costs → List SumValue
values place one = a_value place one ∷ b_value place one ∷ []

-- what a goal adds
abbrev added_by : Assignment → ℕ → Costs → ℤ
added_by a place c = share (get_or a.elements (a_number place) false) (get_or a.elements (b_number place) false) c

regrouped : (x y z : ℤ) → x +ℤ (y +ℤ z) ≡ (x +ℤ y) +ℤ z
regrouped x y z = omega (arith, ints)

pub cost_split : (a : Assignment) (place : ℕ) (c : Costs) (costs : List Costs) → total_by (value_for a 0) (each_goal values place (c ∷ costs)) ≡ added_by a place c +ℤ total_by (value_for a 0) (each_goal values (place + 1) costs)
cost_split a place c costs =
    regrouped (value_for a 0 (a_value place c)) (value_for a 0 (b_value place c)) (total_by (value_for a 0) (each_goal values (place + 1) costs))

no_less : (one rest all : ℕ) (share_is later whole : ℤ) → all ≡ one + rest → whole ≡ share_is +ℤ later → pos one ≤ℤ share_is → pos rest ≤ℤ later → pos all ≤ℤ whole
no_less one rest all share_is later whole sum split here there = omega (arith, ints, sum, split, here, there)

-- one of the tasks of the goal at a place is true
abbrev IsReachedIn : Assignment → ℕ → Type 0
IsReachedIn a k = not (get_or a.elements (a_number k) false) ≡ true → get_or a.elements (b_number k) false ≡ true

later_reached : (a : Assignment) (place count : ℕ) → ((k : ℕ) → k < suc count → IsReachedIn a (place + k)) → (k : ℕ) → k < count → IsReachedIn a (place + 1 + k)
later_reached a place count reached k h =
    let on : suc k < suc count = omega (arith, h) in
    let at : place + suc k ≡ place + 1 + k = omega arith in
    subst (IsReachedIn a) at (reached (suc k) on)

-- an assignment in which each goal is reached by one of its tasks costs at least the lesser costs of all goals
pub costs_no_less : (a : Assignment) (place : ℕ) (costs : List Costs)
    → ((k : ℕ) → k < length costs → IsReachedIn a (place + k))
    → pos (sum_by lesser costs) ≤ℤ total_by (value_for a 0) (each_goal values place costs)
costs_no_less a place [] reached = omega (arith, ints)
costs_no_less a place (c ∷ costs) reached =
    let some : 0 < suc (length costs) = omega arith in
    let at : place + 0 ≡ place = omega arith in
    let first : IsReachedIn a place = subst (IsReachedIn a) at (reached 0 some) in
    let here = least_share (get_or a.elements (a_number place) false) (get_or a.elements (b_number place) false) c first in
    let later = costs_no_less a (place + 1) costs (later_reached a place (length costs) reached) in
    no_less (lesser c) (sum_by lesser costs) (sum_by lesser (c ∷ costs)) (added_by a place c)
    (total_by (value_for a 0) (each_goal values (place + 1) costs)) (total_by (value_for a 0) (each_goal values place (c ∷ costs)))
    (sum_by-cons lesser c costs) (cost_split a place c costs) here later

-- ---- goals that are reached

some_once : {X : Type 0} (x y : X) → Some x ≡ Some y → x ≡ y
some_once x y e = cc

-- the two ways of each goal stand at their places
r_from : (first k : ℕ) (costs : List Costs) → k < length costs → slice_get (each_goal ways first costs) (2 * k) ≡ Some (r_at (first + k))
r_from first k [] h = absurd (omega (arith, h))
r_from first zero (c ∷ costs) h =
    let same : first ≡ first + 0 = omega arith in
    ap (λ (j : ℕ). Some (r_at j)) same
r_from first (suc k) (c ∷ costs) h =
    let on : 2 * suc k ≡ suc (suc (2 * k)) = omega arith in
    let under : k < length costs = omega (arith, h) in
    let same : first + 1 + k ≡ first + suc k = omega arith in
    ap (λ (j : ℕ). slice_get (each_goal ways first (c ∷ costs)) j) on ∙ r_from (first + 1) k costs under ∙ ap (λ (j : ℕ). Some (r_at j)) same

s_from : (first k : ℕ) (costs : List Costs) → k < length costs → slice_get (each_goal ways first costs) (2 * k + 1) ≡ Some (s_at (first + k))
s_from first k [] h = absurd (omega (arith, h))
s_from first zero (c ∷ costs) h =
    let same : first ≡ first + 0 = omega arith in
    ap (λ (j : ℕ). Some (s_at j)) same
s_from first (suc k) (c ∷ costs) h =
    let on : 2 * suc k + 1 ≡ suc (suc (2 * k + 1)) = omega arith in
    let under : k < length costs = omega (arith, h) in
    let same : first + 1 + k ≡ first + suc k = omega arith in
    ap (λ (j : ℕ). slice_get (each_goal ways first (c ∷ costs)) j) on ∙ s_from (first + 1) k costs under ∙ ap (λ (j : ℕ). Some (s_at j)) same

r_there : (k : ℕ) (costs : List Costs) → k < length costs → slice_get (each_goal ways 0 costs) (2 * k) ≡ Some (r_at k)
r_there k costs h = r_from 0 k costs h ∙ ap (λ (j : ℕ). Some (r_at j)) (from_start k)

s_there : (k : ℕ) (costs : List Costs) → k < length costs → slice_get (each_goal ways 0 costs) (2 * k + 1) ≡ Some (s_at k)
s_there k costs h = s_from 0 k costs h ∙ ap (λ (j : ℕ). Some (s_at j)) (from_start k)

-- each way is one to a goal
way_target : (first j : ℕ) (costs : List Costs) (r : Refinement) → slice_get (each_goal ways first costs) j ≡ Some r → (place : ℕ) × (r.target ≡ 3 * place)
way_target first j [] r e = absurd (none-some r e)
way_target first zero (c ∷ costs) r e = (first, ap (λ (x : Refinement). x.target) (sym (some_once (r_at first) r e)))
way_target first (suc zero) (c ∷ costs) r e = (first, ap (λ (x : Refinement). x.target) (sym (some_once (s_at first) r e)))
way_target first (suc (suc j)) (c ∷ costs) r e = way_target (first + 1) j costs r e

-- the way by the cheaper task is true
reached_by : (costs : List Costs) (k : ℕ) (t : Bool) → k < length costs → takes_a (cost_at costs k) ≡ t
    → (j : ℕ) × (Refines (model_of_costs costs) j (goal_number k) × RefinementIsTrue (realization_of_costs costs) j)
reached_by costs k true h e = (2 * k, ((r_at k, r_there k costs h, refl), r_truth 0 k costs h ∙ e))
reached_by costs k false h e = (2 * k + 1, ((s_at k, s_there k costs h, refl), s_truth 0 k costs h ∙ ap not e))

apart_by : (goal place off : ℕ) → 3 * goal ≡ 3 * place + off → 0 < off → off < 3 → ⊥
apart_by goal place off same above under = omega (arith, same, above, under)

two_behind_goal : (k : ℕ) → 3 * k + 1 + 1 ≡ 3 * k + 2
two_behind_goal k = omega arith

-- no way refines a task
no_way : (costs : List Costs) (j place off : ℕ) → 0 < off → off < 3 → Refines (model_of_costs costs) j (3 * place + off) → ⊥
no_way costs j place off above under way =
    let goal = way_target 0 j costs way.0 way.1 in
    apart_by goal.0 place off (sym goal.1 ∙ way.2) above under

pub elements_kept : (costs : List Costs) → Each (KeepsElement (model_of_costs costs) (realization_of_costs costs)) (model_of_costs costs).elements
elements_kept costs =
    let a = realization_of_costs costs in
    let m = model_of_costs costs in
    let one : 0 < 1 = omega arith in
    let one_few : 1 < 3 = omega arith in
    let two : 0 < 2 = omega arith in
    let two_few : 2 < 3 = omega arith in
    each_given (KeepsElement m a) items 3 (λ k c. refl) costs
    (λ k h. (
      λ holds j way. reached_by costs k (takes_a (cost_at costs k)) h refl,
      (
        λ holds j way. absurd (no_way costs j k 1 one one_few way),
        (λ holds j way. absurd (no_way costs j k 2 two two_few (subst (Refines m j) (two_behind_goal k) way)), tt),
      ),
    ))
    0 costs (start_same costs) (from_start (length costs))

-- ---- the chain

-- after the eighth goal A is taken
taken : (place count k : ℕ) (g : Lcg) → k < count → 8 ≤ place + k → takes_a (cost_at (costs_from place count g) k) ≡ true
taken place zero k g h late_ = absurd (omega (arith, h))
taken place (suc count) zero g h late_ =
    let past : 8 ≤ place = omega (arith, late_) in
    let free : 0 ≤ (draw g).0 = omega arith in
    ap (λ (d : Costs × Lcg). takes_a d.0) (sym (late place g (one_drawn g) past refl)) ∙ le-leb 0 (draw g).0 free
taken place (suc count) (suc k) g h late_ =
    let under : k < count = omega (arith, h) in
    let past : 8 ≤ place + 1 + k = omega (arith, late_) in
    taken (place + 1) count k (drawn_costs place g).1 under past

pub links_kept : (costs : List Costs) → ((k : ℕ) → k < length costs → 8 ≤ k → takes_a (cost_at costs k) ≡ true)
    → (number place count : ℕ) → 8 ≤ place → place + count < length costs → EachFrom number (KeepsContrib (realization_of_costs costs)) (links place count)
links_kept costs free number place zero from within = tt
links_kept costs free number place (suc count) from within =
    let here : place < length costs = omega (arith, within) in
    let past : 8 ≤ place + 1 = omega (arith, from) in
    let on : place + 1 + count < length costs = omega (arith, within) in
    let untrue : get_or (realization_of_costs costs).elements (b_number place) false ≡ false = b_truth 0 place costs here ∙ ap not (free place here from) in (
      λ holds. absurd (false≢true (sym untrue ∙ holds)),
      links_kept costs free (number + 1) (place + 1) count past on,
    )

pub chain_kept : (costs : List Costs) → ((k : ℕ) → k < length costs → 8 ≤ k → takes_a (cost_at costs k) ≡ true)
    → (t : Bool) → nat_lt 9 (length costs) ≡ t → Each (KeepsContrib (realization_of_costs costs)) (model_of_costs costs).contribs
chain_kept costs free true long =
    let more : 9 < length costs = ltb-true 9 (length costs) long in
    let first : 8 ≤ 8 = omega arith in
    let within : 8 + (length costs - 9) < length costs = omega (arith, more) in
    links_kept costs free 0 8 (length costs - 9) first within
chain_kept costs free false short =
    let few : length costs ≤ 9 = ltb-false 9 (length costs) short in
    let none : 0 ≡ length costs - 9 = omega (arith, few) in
    subst (λ (count : ℕ). EachFrom 0 (KeepsContrib (realization_of_costs costs)) (links 8 count)) none tt

-- ---- its cost

own_share : (all : List Costs) (k : ℕ) → k < length all → added_by (realization_of_costs all) k (cost_at all k) ≡ pos (lesser (cost_at all k))
own_share all k h =
    let t = takes_a (cost_at all k) in
    ap (λ (a : Bool). share a (get_or (realization_of_costs all).elements (b_number k) false) (cost_at all k)) (a_truth 0 k all h)
    ∙ ap (λ (b : Bool). share t b (cost_at all k)) (b_truth 0 k all h)
    ∙ cheaper_share t (cost_at all k) refl

both_added : (one rest all : ℕ) (share_is later whole : ℤ) → all ≡ one + rest → whole ≡ share_is +ℤ later → share_is ≡ pos one → later ≡ pos rest → whole ≡ pos all
both_added one rest all share_is later whole sum split here there = omega (arith, ints, sum, split, here, there)

pub own_cost : (all : List Costs) (place : ℕ) (costs : List Costs) → ((j : ℕ) → j < length costs → cost_at costs j ≡ cost_at all (place + j)) → place + length costs ≡ length all
    → total_by (value_for (realization_of_costs all) 0) (each_goal values place costs) ≡ pos (sum_by lesser costs)
own_cost all place [] same count = refl
own_cost all place (c ∷ costs) same count =
    let a = realization_of_costs all in
    let some : 0 < suc (length costs) = omega arith in
    let at : place + 0 ≡ place = omega arith in
    let is : c ≡ cost_at all place = same 0 some ∙ ap (cost_at all) at in
    let under : place < length all = omega (arith, count) in
    let here : added_by a place c ≡ pos (lesser c) = subst (λ (x : Costs). added_by a place x ≡ pos (lesser x)) (sym is) (own_share all place under) in
    let counted_ : place + 1 + length costs ≡ length all = omega (arith, count) in
    let later = own_cost all (place + 1) costs (λ j h. next_same all costs c place j same h) counted_ in
    both_added (lesser c) (sum_by lesser costs) (sum_by lesser (c ∷ costs)) (added_by a place c)
    (total_by (value_for a 0) (each_goal values (place + 1) costs)) (total_by (value_for a 0) (each_goal values place (c ∷ costs)))
    (sum_by-cons lesser c costs) (cost_split a place c costs) here later

-- the lesser costs of all goals are those of the first eight
pub first_eight : (place left count : ℕ) (g : Lcg) → place + left ≡ 8 → sum_by lesser (take left (costs_from place count g)) ≡ sum_by lesser (costs_from place count g)
first_eight place zero count g here =
    let past : 8 ≤ place = omega (arith, here) in
    sym (past_eighth place count g past)
first_eight place (suc left) zero g here = refl
first_eight place (suc left) (suc count) g here =
    let c = (drawn_costs place g).0 in
    let rest = costs_from (place + 1) count (drawn_costs place g).1 in
    let on : place + 1 + left ≡ 8 = omega (arith, here) in
    sum_by-cons lesser c (take left rest)
    ∙ ap (λ (n : ℕ). lesser c + n) (first_eight (place + 1) left count (drawn_costs place g).1 on)
    ∙ sym (sum_by-cons lesser c rest)

-- a draw is at most 100
pub drawn_small : (g : Lcg) → (draw g).0 ≤ 100
unfolding draw
drawn_small g =
    let some : 0 < 100 = omega arith in
    omega (arith, mod_below (pcg32 g).0 100 some)

small_by : (t : Bool) (g : Lcg) → lesser (if t then both_drawn g else one_drawn g).0 ≤ 100
small_by true g = omega (arith, drawn_small g, min-le_left (draw g).0 (draw (draw g).1).0)
small_by false g = omega (arith, zero_least (draw g).0)

lesser_small : (place : ℕ) (g : Lcg) → lesser (drawn_costs place g).0 ≤ 100
lesser_small place g = small_by (nat_lt place 8) g

one_more_small : (one rest all left : ℕ) → all ≡ one + rest → one ≤ 100 → rest ≤ left * 100 → all ≤ suc left * 100
one_more_small one rest all left sum here there = omega (arith, sum, here, there)

pub least_small : (place left count : ℕ) (g : Lcg) → sum_by lesser (take left (costs_from place count g)) ≤ left * 100
least_small place zero count g = omega arith
least_small place (suc left) zero g = omega arith
least_small place (suc left) (suc count) g =
    let c = (drawn_costs place g).0 in
    let rest = take left (costs_from (place + 1) count (drawn_costs place g).1) in
    one_more_small (lesser c) (sum_by lesser rest) (sum_by lesser (c ∷ rest)) left (sum_by-cons lesser c rest) (lesser_small place g)
    (least_small (place + 1) left count (drawn_costs place g).1)

-- ---- what each goal of a realization keeps

front : {X : Type 0} (P : ℕ → X → Type 0) (place : ℕ) (xs ys : List X) → EachFrom place P (xs ++ ys) → EachFrom place P xs
front P place [] ys each = tt
front P place (x ∷ xs) ys each = (each.0, front P (place + 1) xs ys each.1)

back : {X : Type 0} (P : ℕ → X → Type 0) (place : ℕ) (xs ys : List X) → EachFrom place P (xs ++ ys) → EachFrom (place + length xs) P ys
back P place [] ys each =
    let same : place ≡ place + 0 = omega arith in
    subst (λ (k : ℕ). EachFrom k P ys) same each
back P place (x ∷ xs) ys each =
    let same : place + 1 + length xs ≡ place + suc (length xs) = omega arith in
    subst (λ (k : ℕ). EachFrom k P ys) same (back P (place + 1) xs ys each.1)

-- what the goal at a place gives keeps it
given_at : {X : Type 0} (P : ℕ → X → Type 0) (give : ℕ → Costs → List X) (width : ℕ) → ((k : ℕ) (c : Costs) → length (give k c) ≡ width)
    → (first k : ℕ) (costs : List Costs) → k < length costs → EachFrom (width * first) P (each_goal give first costs) → EachFrom (width * (first + k)) P (give (first + k) (cost_at costs k))
given_at P give width wide first k [] h each = absurd (omega (arith, h))
given_at P give width wide first zero (c ∷ costs) h each =
    let same : first ≡ first + 0 = omega arith in
    subst (λ (j : ℕ). EachFrom (width * j) P (give j c)) same (front P (width * first) (give first c) (each_goal give (first + 1) costs) each)
given_at P give width wide first (suc k) (c ∷ costs) h each =
    let same : first + 1 + k ≡ first + suc k = omega arith in
    let under : k < length costs = omega (arith, h) in
    let next : width * first + length (give first c) ≡ width * (first + 1) = omega (arith, wide first c) in
    let later = subst (λ (j : ℕ). EachFrom j P (each_goal give (first + 1) costs)) next (back P (width * first) (give first c) (each_goal give (first + 1) costs) each) in
    subst (λ (j : ℕ). EachFrom (width * j) P (give j (cost_at costs k))) same (given_at P give width wide (first + 1) k costs under later)

-- the same, where the first goal has place 0
given_here : {X : Type 0} (P : ℕ → X → Type 0) (give : ℕ → Costs → List X) (width : ℕ) → ((k : ℕ) (c : Costs) → length (give k c) ≡ width)
    → (k : ℕ) (costs : List Costs) → k < length costs → EachFrom 0 P (each_goal give 0 costs) → EachFrom (width * k) P (give k (cost_at costs k))
given_here P give width wide k costs h each =
    let begin : 0 ≡ width * 0 = omega arith in
    let moved = subst (λ (j : ℕ). EachFrom j P (each_goal give 0 costs)) begin each in
    subst (λ (j : ℕ). EachFrom (width * j) P (give j (cost_at costs k))) (from_start k) (given_at P give width wide 0 k costs h moved)

-- the item at a place keeps it
each_get : {X : Type 0} (P : ℕ → X → Type 0) (place : ℕ) (xs : List X) (j : ℕ) (x : X) → EachFrom place P xs → slice_get xs j ≡ Some x → P (place + j) x
each_get P place [] j x each e = absurd (none-some x e)
each_get P place (y ∷ xs) zero x each e =
    let same : place ≡ place + 0 = omega arith in
    subst (λ (k : ℕ). P k x) same (subst (P place) (some_once y x e) each.0)
each_get P place (y ∷ xs) (suc j) x each e =
    let same : place + 1 + j ≡ place + suc j = omega arith in
    subst (λ (k : ℕ). P k x) same (each_get P (place + 1) xs j x each.1 e)

-- a way is one by the task A of a goal, or by its task B
way_is : (first j : ℕ) (costs : List Costs) (r : Refinement) → slice_get (each_goal ways first costs) j ≡ Some r → (place : ℕ) × ((r ≡ r_at place) ⊎ (r ≡ s_at place))
way_is first j [] r e = absurd (none-some r e)
way_is first zero (c ∷ costs) r e = (first, inl (sym (some_once (r_at first) r e)))
way_is first (suc zero) (c ∷ costs) r e = (first, inr (sym (some_once (s_at first) r e)))
way_is first (suc (suc j)) (c ∷ costs) r e = way_is (first + 1) j costs r e

by_a : (a : Assignment) (k place : ℕ) (r : Refinement) → r ≡ r_at place → r.target ≡ 3 * k → All (ElementIsTrue a) r.sources → IsReachedIn a k
by_a a k place r is target sources = λ none.
    let aimed : 3 * place ≡ 3 * k = ap (λ (x : Refinement). x.target) (sym is) ∙ target in
    let here : place ≡ k = omega (arith, aimed) in
    let own : All (ElementIsTrue a) (a_number place ∷ []) = subst (λ (x : Refinement). All (ElementIsTrue a) x.sources) is sources in
    let one : 0 < 1 = omega arith in
    let is_true : get_or a.elements (a_number k) false ≡ true = subst (λ (j : ℕ). get_or a.elements (a_number j) false ≡ true) here (own 0 0 one) in
    absurd (false≢true (ap not (sym is_true) ∙ none))

by_b : (a : Assignment) (k place : ℕ) (r : Refinement) → r ≡ s_at place → r.target ≡ 3 * k → All (ElementIsTrue a) r.sources → IsReachedIn a k
by_b a k place r is target sources = λ none.
    let aimed : 3 * place ≡ 3 * k = ap (λ (x : Refinement). x.target) (sym is) ∙ target in
    let here : place ≡ k = omega (arith, aimed) in
    let own : All (ElementIsTrue a) (b_number place ∷ []) = subst (λ (x : Refinement). All (ElementIsTrue a) x.sources) is sources in
    let one : 0 < 1 = omega arith in
    subst (λ (j : ℕ). get_or a.elements (b_number j) false ≡ true) here (own 0 0 one)

-- a goal whose way is true has a true task
by_way : (costs : List Costs) (a : Assignment) (k : ℕ) → Realizes (model_of_costs costs) a
    → (j : ℕ) × (Refines (model_of_costs costs) j (goal_number k) × RefinementIsTrue a j) → IsReachedIn a k
by_way costs a k realizes way =
    let r = way.1.0.0 in
    let kept : KeepsRefinement a way.0 r =
    subst (λ (j : ℕ). KeepsRefinement a j r) (from_start way.0) (each_get (KeepsRefinement a) 0 (each_goal ways 0 costs) way.0 r realizes.keeps.refinements way.1.0.1) in
    let sources : All (ElementIsTrue a) r.sources = kept.sources.0 way.1.1 in
    let of = way_is 0 way.0 costs r way.1.0.1 in
    ⊎_elim
    (λ is. by_a a k of.0 r is way.1.0.2 sources)
    (λ is. by_b a k of.0 r is way.1.0.2 sources)
    of.1

-- ---- the laws

at_most : (cost : ℤ) (least : ℕ) → cost ≡ pos least → least ≤ 800 → int_le ((pos 1 *ℤ cost) +ℤ pos 0) (pos 800) ≡ true
at_most cost least is small =
    let value : (pos 1 *ℤ cost) +ℤ pos 0 ≡ pos least = omega (arith, ints, is) in
    ap (λ (z : ℤ). int_le z (pos 800)) value ∙ sym (true_is_le (pos least) (pos 800) (omega (arith, ints, small)))

realized_costs : (costs : List Costs) (least : ℕ) → ((k : ℕ) → k < length costs → 8 ≤ k → takes_a (cost_at costs k) ≡ true) → sum_by lesser costs ≡ least → least ≤ 800
    → Realizes (model_of_costs costs) (realization_of_costs costs) × (cost_in (model_of_costs costs) (realization_of_costs costs) ≡ pos least)
realized_costs costs least free is small =
    let m = model_of_costs costs in
    let a = realization_of_costs costs in
    let cost : cost_in m a ≡ pos least = own_cost costs 0 costs (start_same costs) (from_start (length costs)) ∙ ap pos is in (
      record {
        fits = record {
          elements = give_length element_truths 3 (λ k c. refl) 0 costs ∙ sym (give_length items 3 (λ k c. refl) 0 costs);
          refinements = give_length way_truths 2 (λ k c. refl) 0 costs ∙ sym (give_length ways 2 (λ k c. refl) 0 costs);
          vars = refl;
          bounds = tt;
        };
        keeps = record {
          refinements = ways_kept costs;
          elements = elements_kept costs;
          contribs = chain_kept costs free (nat_lt 9 (length costs)) refl;
          conflicts = tt;
          binds = tt;
          musts = musts_kept costs;
          asserts = tt;
          rules = (fold-AtMost (truth_step (name_in a) (number_in a (sums_of m a))) cost_term (pos 800) ∙ at_most (cost_in m a) least cost small, tt);
        };
      },
      cost,
    )

taken_in : (goals k : ℕ) (g : Lcg) → k < length (costs_from 0 goals g) → 8 ≤ k → takes_a (cost_at (costs_from 0 goals g) k) ≡ true
taken_in goals k g h late_ =
    let under : k < goals = omega (arith, h, counted 0 goals g) in
    let past : 8 ≤ 0 + k = omega (arith, late_) in
    taken 0 goals k g under past

pub generated_is_realized : GeneratedIsRealized
unfolding generated_model generated_realization costs_of
generated_is_realized goals within =
    let g = cost_generator goals in
    realized_costs (costs_from 0 goals g) (least_of (costs_from 0 goals g))
    (λ k h late_. taken_in goals k g h late_)
    (sym (first_eight 0 8 goals g refl))
    (least_small 0 8 goals g)

-- in a realization each goal is reached by one of its tasks
reached_in : (costs : List Costs) (a : Assignment) (k : ℕ) → k < length costs → Realizes (model_of_costs costs) a → IsReachedIn a k
reached_in costs a k h realizes =
    let m = model_of_costs costs in
    let must = (given_here (KeepsMust a) items 3 (λ j c. refl) k costs h realizes.keeps.musts).0 in
    let refined : Refines m (2 * k) (goal_number k) = (r_at k, r_there k costs h, refl) in
    let way = (given_here (KeepsElement m a) items 3 (λ j c. refl) k costs h realizes.keeps.elements).0 (must refl) (2 * k) refined in
    by_way costs a k realizes way

all_reached : (costs : List Costs) (a : Assignment) → Realizes (model_of_costs costs) a → (k : ℕ) → k < length costs → IsReachedIn a (0 + k)
all_reached costs a realizes k h = subst (IsReachedIn a) (sym (from_start k)) (reached_in costs a k h realizes)

pub generated_has_least : GeneratedHasLeast
unfolding generated_model costs_of vector_of
generated_has_least goals within pairs a realizes =
    let costs = costs_from 0 goals (cost_generator goals) in (
      subst (λ (n : ℕ). pos n ≤ℤ cost_in (model_of_costs costs) a) (sym (first_eight 0 8 goals (cost_generator goals) refl))
          (costs_no_less a 0 costs (all_reached costs a realizes)),
      refl,
    )
