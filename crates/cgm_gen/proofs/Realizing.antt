-- The written realization of a generated model is one, of the stated cost, and none costs less: by induction over the goals.
use Rattle.std.proofs.Common.{◌≡◌, ℕ, zero, suc, ◌+◌, ◌*◌, ◌-◌, ◌<◌, ◌≤◌, min, Bool, true, false, not, if◌then◌else◌, List, [], ◌∷◌, ◌++◌, length, get_or, ℤ, pos, ◌+ℤ◌, ◌≤ℤ◌, sum_by, refl, sym, ap, ◌∙◌, subst, arith}
use Rattle.std.proofs.lemmas.Bool.{false≢true}
use Rattle.std.proofs.lemmas.Bool.Decides.{nat_tests}
use Rattle.std.proofs.lemmas.Int.{ints}
use Rattle.std.proofs.lemmas.List.{length-append}
use Rattle.std.proofs.lemmas.List.Sums.{sum_by-cons}
use Rattle.cgm_base.specs.Place.{EachFrom}
use Rattle.rand_pcg.specs.Lcg.{Lcg}
use Rattle.cgm_gen.specs.declared.costs.Costs.{Costs}
use Rattle.cgm_gen.specs.Draws.{costs_from, draw, drawn_costs, lesser, one_drawn}
use Rattle.cgm_gen.specs.GeneratedText.{each_goal}
use Rattle.cgm_gen.specs.Realized.{element_truths, takes_a, way_truths}
use Rattle.cgm_gen.proofs.Drawing.{late}

-- ---- places of what each goal gives, where it gives the same number of items

-- the first goal stands at place 0
pub from_start : (k : ℕ) → 0 + k ≡ k
from_start k = omega arith

module _ {X : Type 0} (give : ℕ → Costs → List X) (width : ℕ) (wide : (k : ℕ) (c : Costs) → length (give k c) ≡ width) where
  pub give_length : (place : ℕ) (costs : List Costs) → length (each_goal give place costs) ≡ width * length costs
  give_length place [] = omega arith
  give_length place (c ∷ costs) =
      omega (arith, length-append (give place c) (each_goal give (place + 1) costs), wide place c, give_length (place + 1) costs)

-- the costs of the goal at a place
abbrev pub cost_at : List Costs → ℕ → Costs
cost_at costs k = get_or costs k (record { of_a = 0; of_b = 0 })

-- the truths of each goal and its tasks, wherever the first goal stands: they speak of the costs alone
pub goal_truth : (first k : ℕ) (costs : List Costs) → k < length costs → get_or (each_goal element_truths first costs) (3 * k) false ≡ true
goal_truth first k [] h = absurd (omega (arith, h))
goal_truth first zero (c ∷ costs) h = refl
goal_truth first (suc k) (c ∷ costs) h =
    let on : 3 * suc k ≡ suc (suc (suc (3 * k))) = omega arith in
    let under : k < length costs = omega (arith, h) in
    ap (λ (j : ℕ). get_or (each_goal element_truths first (c ∷ costs)) j false) on ∙ goal_truth (first + 1) k costs under

pub b_truth : (first k : ℕ) (costs : List Costs) → k < length costs → get_or (each_goal element_truths first costs) (3 * k + 1) false ≡ not (takes_a (cost_at costs k))
b_truth first k [] h = absurd (omega (arith, h))
b_truth first zero (c ∷ costs) h = refl
b_truth first (suc k) (c ∷ costs) h =
    let on : 3 * suc k + 1 ≡ suc (suc (suc (3 * k + 1))) = omega arith in
    let under : k < length costs = omega (arith, h) in
    ap (λ (j : ℕ). get_or (each_goal element_truths first (c ∷ costs)) j false) on ∙ b_truth (first + 1) k costs under

pub a_truth : (first k : ℕ) (costs : List Costs) → k < length costs → get_or (each_goal element_truths first costs) (3 * k + 2) false ≡ takes_a (cost_at costs k)
a_truth first k [] h = absurd (omega (arith, h))
a_truth first zero (c ∷ costs) h = refl
a_truth first (suc k) (c ∷ costs) h =
    let on : 3 * suc k + 2 ≡ suc (suc (suc (3 * k + 2))) = omega arith in
    let under : k < length costs = omega (arith, h) in
    ap (λ (j : ℕ). get_or (each_goal element_truths first (c ∷ costs)) j false) on ∙ a_truth (first + 1) k costs under

pub r_truth : (first k : ℕ) (costs : List Costs) → k < length costs → get_or (each_goal way_truths first costs) (2 * k) false ≡ takes_a (cost_at costs k)
r_truth first k [] h = absurd (omega (arith, h))
r_truth first zero (c ∷ costs) h = refl
r_truth first (suc k) (c ∷ costs) h =
    let on : 2 * suc k ≡ suc (suc (2 * k)) = omega arith in
    let under : k < length costs = omega (arith, h) in
    ap (λ (j : ℕ). get_or (each_goal way_truths first (c ∷ costs)) j false) on ∙ r_truth (first + 1) k costs under

pub s_truth : (first k : ℕ) (costs : List Costs) → k < length costs → get_or (each_goal way_truths first costs) (2 * k + 1) false ≡ not (takes_a (cost_at costs k))
s_truth first k [] h = absurd (omega (arith, h))
s_truth first zero (c ∷ costs) h = refl
s_truth first (suc k) (c ∷ costs) h =
    let on : 2 * suc k + 1 ≡ suc (suc (2 * k + 1)) = omega arith in
    let under : k < length costs = omega (arith, h) in
    ap (λ (j : ℕ). get_or (each_goal way_truths first (c ∷ costs)) j false) on ∙ s_truth (first + 1) k costs under

-- two lists behind one another
joined : {X : Type 0} (P : ℕ → X → Type 0) (place : ℕ) (xs ys : List X) → EachFrom place P xs → EachFrom (place + length xs) P ys → EachFrom place P (xs ++ ys)
joined P place [] ys here later =
    let same : place + 0 ≡ place = omega arith in
    subst (λ (k : ℕ). EachFrom k P ys) same later
joined P place (x ∷ xs) ys here later =
    let same : place + suc (length xs) ≡ place + 1 + length xs = omega arith in
    (here.0, joined P (place + 1) xs ys here.1 (subst (λ (k : ℕ). EachFrom k P ys) same later))

-- ---- a fact of what each goal gives, from one of each goal

-- the costs of later goals stand in the whole list too
pub next_same : (all costs : List Costs) (c : Costs) (k j : ℕ) → ((i : ℕ) → i < length (c ∷ costs) → cost_at (c ∷ costs) i ≡ cost_at all (k + i)) → j < length costs → cost_at costs j ≡ cost_at all (k + 1 + j)
next_same all costs c k j same h =
    let on : suc j < suc (length costs) = omega (arith, h) in
    let at : k + suc j ≡ k + 1 + j = omega arith in
    same (suc j) on ∙ ap (cost_at all) at

pub each_given : {X : Type 0} (P : ℕ → X → Type 0) (give : ℕ → Costs → List X) (width : ℕ) → ((k : ℕ) (c : Costs) → length (give k c) ≡ width)
    → (all : List Costs) → ((k : ℕ) → k < length all → EachFrom (width * k) P (give k (cost_at all k)))
    → (k : ℕ) (costs : List Costs) → ((j : ℕ) → j < length costs → cost_at costs j ≡ cost_at all (k + j)) → k + length costs ≡ length all
    → EachFrom (width * k) P (each_goal give k costs)
each_given P give width wide all holds k [] same count = tt
each_given P give width wide all holds k (c ∷ costs) same count =
    let first : 0 < suc (length costs) = omega arith in
    let at : k + 0 ≡ k = omega arith in
    let is : c ≡ cost_at all k = same 0 first ∙ ap (cost_at all) at in
    let under : k < length all = omega (arith, count) in
    let here : EachFrom (width * k) P (give k c) = subst (λ (x : Costs). EachFrom (width * k) P (give k x)) (sym is) (holds k under) in
    let rest : (j : ℕ) → j < length costs → cost_at costs j ≡ cost_at all (k + 1 + j) = λ j h. next_same all costs c k j same h in
    let counted_ : k + 1 + length costs ≡ length all = omega (arith, count) in
    let later = each_given P give width wide all holds (k + 1) costs rest counted_ in
    let moved : width * (k + 1) ≡ width * k + length (give k c) = omega (arith, wide k c) in
    joined P (width * k) (give k c) (each_goal give (k + 1) costs) here (subst (λ (place : ℕ). EachFrom place P (each_goal give (k + 1) costs)) moved later)

-- ---- the cost

-- what the two values of a goal add, by the truths of its tasks
abbrev pub share : Bool → Bool → Costs → ℤ
share a b c = (if a then pos c.of_a else pos 0) +ℤ (if b then pos c.of_b else pos 0)

-- the cheaper task alone adds the lesser cost
pub cheaper_share : (t : Bool) (c : Costs) → takes_a c ≡ t → share t (not t) c ≡ pos (lesser c)
cheaper_share true c e = let h : c.of_a ≤ c.of_b = grind (arith, nat_tests) in omega (arith, ints, h)
cheaper_share false c e = let h : c.of_b < c.of_a = grind (arith, nat_tests) in omega (arith, ints, h)

-- where one of the tasks is true, they add no less
pub least_share : (a b : Bool) (c : Costs) → (not a ≡ true → b ≡ true) → pos (lesser c) ≤ℤ share a b c
least_share true true c reached = omega (arith, ints)
least_share true false c reached = omega (arith, ints)
least_share false true c reached = omega (arith, ints)
least_share false false c reached = absurd (false≢true (reached refl))

-- after the eighth goal A costs nothing
pub zero_least : (n : ℕ) → min 0 n ≡ 0
zero_least n = omega arith

free_a : (place : ℕ) (g : Lcg) → 8 ≤ place → lesser (drawn_costs place g).0 ≡ 0
free_a place g h =
    ap (λ (d : Costs × Lcg). lesser d.0) (sym (late place g (one_drawn g) h refl)) ∙ zero_least (draw g).0

none_of_both : (one other : ℕ) → one ≡ 0 → other ≡ 0 → one + other ≡ 0
none_of_both one other here there = omega (arith, here, there)

-- the lesser costs of all goals are those of the first eight, where A costs nothing after them
pub past_eighth : (place count : ℕ) (g : Lcg) → 8 ≤ place → sum_by lesser (costs_from place count g) ≡ 0
past_eighth place zero g h = refl
past_eighth place (suc count) g h =
    let c = (drawn_costs place g).0 in
    let rest = costs_from (place + 1) count (drawn_costs place g).1 in
    let on : 8 ≤ place + 1 = omega (arith, h) in
    let later : sum_by lesser rest ≡ 0 = past_eighth (place + 1) count (drawn_costs place g).1 on in
    sum_by-cons lesser c rest ∙ none_of_both (lesser c) (sum_by lesser rest) (free_a place g h) later
