-- How large the bounds of the problem of a model are, and how many variables, clauses and rows it has.
use Rattle.std.proofs.Common.{◌≡◌, ℕ, ◌+◌, ◌*◌, ◌^◌, ◌<◌, ◌≤◌, ◌==◌, Bool, true, false, cond, List, [], ◌∷◌, ◌++◌, length, get_or, map, max, refl, sym, ap, ◌∙◌, subst, ⊎_elim, arith}
use Rattle.std.specs.Prelude.{ℤ, pos, negsuc, neg_ℤ, ◌+ℤ◌, ◌≤ℤ◌, count_by, filter, unsigned_abs}
use Rattle.std.specs.List.{All, enumerate_from, flat_map, range_with_len}
use Rattle.std.proofs.Math.Nat.{mul-le-mul_left}
use Rattle.std.proofs.lemmas.Bool.{cases_lt}
use Rattle.std.proofs.lemmas.Int.{ints}
use Rattle.std.proofs.lemmas.List.{get_or-append-add, get_or-replicate, get_or_append_left, length-append, length-map}
use Rattle.std.proofs.lemmas.List.Elements.{All-append, All-cons, All-filter, All-map, All-nil, All-replicate, All-weaker}
use Rattle.std.proofs.lemmas.List.FromFn.{length-enumerate_from, length-range_with_len}
use Rattle.std.proofs.lemmas.List.Sums.{count_by-le-length, length-filter}
use Rattle.cgm_atom.specs.declared.constraints.Clause.{Clause}
use Rattle.cgm_atom.specs.declared.constraints.Var.{Var}
use Rattle.cgm_atom.specs.Bounds.{Bounds, lower_of, upper_of}
use Rattle.cgm_atom.specs.Building.{without_repeats}
use Rattle.cgm_atom.specs.Limits.{greatest_size}
use Rattle.cgm_atom.specs.Narrowing.{greatest_activity}
use Rattle.cgm_atom.proofs.SignedSteps.{≤ℤ_refl}
use Rattle.cgm_formula.specs.declared.formula.Number.TheVariants as number
use Rattle.cgm_model.specs.declared.lists.Lists.{Lists}
use Rattle.cgm_model.specs.declared.lists.Objective.{Objective}
use Rattle.cgm_model.specs.declared.lists.Quantity.{Quantity}
use Rattle.cgm_model.specs.declared.lists.Quantity.TheVariants as quantities
use Rattle.cgm_model.specs.declared.lists.SumValue.{SumValue}
use Rattle.cgm_model.specs.declared.lists.Weighing.{Weighing}
use Rattle.cgm_model.specs.Leaves.{element_numbers, is_leaf_task, leaf_tasks}
use Rattle.cgm_model.specs.Statement.{IsKnownQuantity}
use Rattle.cgm_model.specs.TruthVariables.{truth_variables, variable_of}
use Rattle.cgm_model.specs.WellFormed.{IsWellFormedModel}
use Rattle.cgm_evolve.specs.Costs.{elements_of_interest, interests_or}
use Rattle.cgm_evolve.specs.Pairs.{Pair}
use Rattle.cgm_obj.specs.Counts.{is_free_requirement}
use Rattle.cgm_enc_formula.specs.Building.{rules_part}
use Rattle.cgm_enc_formula.specs.Laws.{IsSmallPart, RulesPartIsSmall}
use Rattle.cgm_enc_formula.specs.Terms.{model_variables, number_variable}
use Rattle.cgm_enc_graph.specs.GraphClauses.{graph_clauses}
use Rattle.cgm_enc_graph.proofs.GraphSizes.{graph_clauses_few}
use Rattle.cgm_encode.specs.Laws.{IsSmallProblem}
use Rattle.cgm_encode.specs.Problem.{all_ranges, bits, box_of_problem, choice_ranges, model_rules_part, number_ranges, objective_range, objective_rows, own_range, own_ranges, preference_clauses, preferences_written, problem_of, rule_ranges, sum_range, sum_rows}
use Rattle.cgm_encode.specs.Quantities.{free_requirements, objective_total, possible_work, quantity_total, sum_total, was_true_before}
use Rattle.cgm_encode.specs.Totals.{Range, Share, Total, combined_terms, least_activity, opposite_total, total_range, total_rows}
use Rattle.cgm_encode.specs.Variables.{first_objective, first_preference, naming_count}
use Rattle.cgm_encode.proofs.Activities.{activity_between, combined_are_terms}
use Rattle.cgm_encode.proofs.Boxes.{lower_at, lower_past, upper_at, upper_past}
use Rattle.cgm_encode.proofs.CombinedSizes.{IsModest, opposite-shares, range_sizes, share_size, shares-few}
use Rattle.cgm_encode.proofs.GroupPlaces.{all_ranged}
use Rattle.cgm_encode.proofs.KnownParts.{HasKnownParts, known_parts}
use Rattle.cgm_encode.proofs.KnownSizes.{HasKnownSizes, known_sizes}
use Rattle.cgm_encode.proofs.QuantityValues.{interests_known, leaf_tasks_known, range_known}
use Rattle.cgm_encode.proofs.RangeCounts.{all_long, bits_long, choices_long, numbers_long, own_long, rules_long}
use Rattle.cgm_encode.proofs.Shares.{truth_known}

-- ---- ranges by their place

own_truth : (m : Lists) (x : ℕ) (d : Range) → x < truth_variables m → get_or (own_ranges m) x d ≡ (pos 0, pos 1)
own_truth m x d l =
    let long = bits_long (truth_variables m) in
    get_or_append_left (bits (truth_variables m)) (map own_range m.vars) d x (omega arith) ∙ get_or-replicate (truth_variables m) x (pos 0, pos 1) d l

number_own : (m : Lists) (x : ℕ) (d : Range) → x < length (own_ranges m) → get_or (number_ranges m) x d ≡ get_or (own_ranges m) x d
number_own m x d l = get_or_append_left (own_ranges m) (map (sum_range m) (range_with_len 0 (length m.sums))) d x l

choice_number : (m : Lists) (x : ℕ) (d : Range) → x < model_variables m → get_or (choice_ranges m) x d ≡ get_or (number_ranges m) x d
choice_number m x d l =
    let numbers = numbers_long m in
    let rules = rules_long m in
    get_or_append_left (rule_ranges m) (bits (length m.prefers)) d x (omega arith)
    ∙ get_or_append_left (number_ranges m) (bits (naming_count m)) d x (omega arith)

choice_prefer : (m : Lists) (k : ℕ) (d : Range) → k < length m.prefers → get_or (choice_ranges m) (first_preference m + k) d ≡ (pos 0, pos 1)
choice_prefer m k d l =
    let last = bits (length m.prefers) in
    subst (λ n. get_or (choice_ranges m) (n + k) d ≡ get_or last k d) (rules_long m) (get_or-append-add (rule_ranges m) last k d)
    ∙ get_or-replicate (length m.prefers) k (pos 0, pos 1) d l

all_choice : (m : Lists) (pairs : List Pair) (x : ℕ) (d : Range) → x < first_objective m → get_or (all_ranges m pairs) x d ≡ get_or (choice_ranges m) x d
all_choice m pairs x d l =
    let long = choices_long m in
    get_or_append_left (choice_ranges m) (map (objective_range m pairs) m.objectives) d x (omega arith)

-- ---- sizes of bounds

pub size_at : (rs : List Range) (x : ℕ) (r : Range) → x < length rs → get_or rs x (pos 0, pos 0) ≡ r → greatest_size (box_of_problem rs) x ≡ max (unsigned_abs r.0) (unsigned_abs r.1)
size_at rs x r l e =
    let none : Range = (pos 0, pos 0) in
    ap (λ (z : ℤ). max (unsigned_abs z) (unsigned_abs (upper_of (box_of_problem rs) x))) (lower_at rs x none l)
    ∙ ap (λ (z : ℤ). max (unsigned_abs (get_or rs x none).0) (unsigned_abs z)) (upper_at rs x none l)
    ∙ ap (λ (q : Range). max (unsigned_abs q.0) (unsigned_abs q.1)) e

abbrev pub IsSmallRange : ℕ → Range → Type 0
IsSmallRange most r = (unsigned_abs r.0 ≤ most) × (unsigned_abs r.1 ≤ most)

none_size : (most : ℕ) (l u : ℤ) → l ≡ pos 0 → u ≡ pos 0 → max (unsigned_abs l) (unsigned_abs u) ≤ most
none_size most l u e f = rw e (rw f (omega arith))

pub size_within : (most : ℕ) (rs : List Range) → All (IsSmallRange most) rs → (x : ℕ) → greatest_size (box_of_problem rs) x ≤ most
size_within most rs small x =
    ⊎_elim
    (λ l.
    let none : Range = (pos 0, pos 0) in
    let at = size_at rs x (get_or rs x none) l refl in
    let here = small x none l in
    let low = here.0 in
    let high = here.1 in
    omega arith)
    (λ past. none_size most (lower_of (box_of_problem rs) x) (upper_of (box_of_problem rs) x) (lower_past rs x past) (upper_past rs x past))
    (cases_lt x (length rs))

-- the sizes on which the totals of a model stand
pub record HasSizes (m : Lists) (most : ℕ) (b : Bounds) : Type 0 where
  pub truths : (x : ℕ) → x < truth_variables m → greatest_size b x ≤ 1
  pub prefers : (k : ℕ) → k < length m.prefers → greatest_size b (first_preference m + k) ≤ 1
  pub all : (x : ℕ) → greatest_size b x ≤ most

product_small : (k n s : ℕ) → k ≤ n → s ≤ 1 → k * s ≤ n
product_small k n s h g =
    let scaled : k * s ≤ k * 1 = mul-le-mul_left k g in
    omega arith

one_small : (s n : ℕ) → s ≤ n → 1 * s ≤ n
one_small s n h = omega arith

pub sum_modest : (m : Lists) → HasKnownParts m → HasKnownSizes m → (b : Bounds) → ((x : ℕ) → x < truth_variables m → greatest_size b x ≤ 1) → (sum : ℕ) → IsModest b 1000000000000 0 (sum_total m sum)
sum_modest m parts sizes b truths sum =
    let f : SumValue → Share = λ v. (v.k, variable_of m v.of) in
    let p : SumValue → Bool = λ v. v.sum == sum in
    let Q : Share → Type 0 = λ s. share_size b s ≤ 1000000 in
    let each : All Q (map f (filter p m.values)) =
    All-map Q f (filter p m.values)
    (All-filter p (λ v. Q (f v)) m.values
    (λ k d l.
    let v = get_or m.values k d in
    product_small (unsigned_abs v.k) 1000000 (greatest_size b (variable_of m v.of)) (sizes.values k d l) (truths (variable_of m v.of) (truth_known m v.of (parts.values k d l))))) in
    let few = shares-few b 1000000 (map f (filter p m.values)) each in
    let long = length-map (filter p m.values) f in
    let kept = length-filter p m.values in
    let most = count_by-le-length p m.values in
    let statements = sizes.statements in
    record { shares = omega arith; constant = omega arith }

module _ (m : Lists) (pairs : List Pair) (parts : HasKnownParts m) (sizes : HasKnownSizes m) (most : ℕ) (large : 1000000000000 ≤ most) (b : Bounds) (has : HasSizes m most b) where
  -- one variable
  one_modest : (x : ℕ) → IsModest b most 1000000 (record { shares = (pos 1, x) ∷ []; constant = pos 0 })
  one_modest x =
      let Q : Share → Type 0 = λ s. share_size b s ≤ most in
      let few = shares-few b most ((pos 1, x) ∷ []) (All-cons Q (pos 1, x) [] (one_small (greatest_size b x) most (has.all x)) (All-nil Q)) in
      record { shares = omega arith; constant = omega arith }

  -- elements, or other variables of 0 or 1, with numbers of at most 1 in size
  counts_modest : (f : ℕ → ℤ) (xs : List ℕ) (constant : ℤ) → ((x : ℕ) → unsigned_abs (f x) ≤ 1) → All (λ x. greatest_size b x ≤ 1) xs → length xs ≤ 1000000 → unsigned_abs constant ≤ 1000000 → IsModest b most 1000000 (record { shares = map (λ x. (f x, x)) xs; constant = constant })
  counts_modest f xs constant small known few limit =
      let Q : Share → Type 0 = λ s. share_size b s ≤ 1 in
      let g : ℕ → Share = λ x. (f x, x) in
      let each = All-map Q g xs (All-weaker (λ x. greatest_size b x ≤ 1) (λ x. Q (g x)) (λ x h. product_small (unsigned_abs (f x)) 1 (greatest_size b x) (small x) h) xs known) in
      let all = shares-few b 1 (map g xs) each in
      let long = length-map xs g in
      record { shares = omega arith; constant = limit }

  elements_small : (xs : List ℕ) → All (λ k. k < length m.elements) xs → All (λ x. greatest_size b x ≤ 1) xs
  elements_small xs known = All-weaker (λ k. k < length m.elements) (λ x. greatest_size b x ≤ 1) (λ k l. has.truths k (omega arith)) xs known

  weights_small : (f : Weighing → ℤ) (ws : List Weighing) → ((w : Weighing) → unsigned_abs (f w) ≡ unsigned_abs w.k) → All (λ w. w.element < length m.elements) ws → All (λ w. unsigned_abs w.k ≤ 1000000) ws → All (λ s. share_size b s ≤ 1000000) (map (λ w. (f w, w.element)) ws)
  weights_small f ws same known small =
      All-map (λ (s : Share). share_size b s ≤ 1000000) (λ w. (f w, w.element)) ws
      (λ k d l.
      let w = get_or ws k d in
      let size = same w in
      let limit = small k d l in
      let here = known k d l in
      product_small (unsigned_abs (f w)) 1000000 (greatest_size b w.element) (omega arith) (has.truths w.element (omega arith)))

  elements_long : length (element_numbers m) ≤ 1000000
  elements_long = let long = length-range_with_len 0 (length m.elements) in let few = sizes.statements in omega arith

  kept_long : (p : ℕ → Bool) (xs : List ℕ) → length xs ≤ 1000000 → length (filter p xs) ≤ 1000000
  kept_long p xs few = let kept = length-filter p xs in let all = count_by-le-length p xs in omega arith

  either_long : (ks others : List ℕ) → length ks ≤ 1000000 → length others ≤ 1000000 → length (interests_or ks others) ≤ 1000000
  either_long [] others h g = g
  either_long (k ∷ ks) others h g = h

  interests_long : length (elements_of_interest m) ≤ 1000000
  interests_long =
      let few = sizes.statements in
      either_long m.interests (leaf_tasks m) (omega arith) (kept_long (is_leaf_task m) (element_numbers m) elements_long)

  sign_small : (t : Bool) → unsigned_abs (cond t (negsuc 0) (pos 1)) ≤ 1
  sign_small true = omega arith
  sign_small false = omega arith

  quantity_modest : (q : Quantity) → IsKnownQuantity m q → IsModest b most 1000000 (quantity_total m pairs q)
  quantity_modest (quantities.Var k) known = one_modest (number_variable m (number.Var k))
  quantity_modest (quantities.Sum k) known = one_modest (number_variable m (number.Sum k))
  quantity_modest quantities.Weight known =
      let Q : Share → Type 0 = λ s. share_size b s ≤ 1000000 in
      let f : Weighing → Share = λ w. (w.k, w.element) in
      let g : Weighing → Share = λ w. (neg_ℤ w.k, w.element) in
      let up = map f m.penalties in
      let down = map g m.rewards in
      let each = All-append Q up down
      (weights_small (λ w. w.k) m.penalties (λ w. refl) parts.penalties sizes.penalties)
      (weights_small (λ w. neg_ℤ w.k) m.rewards (λ w. same_size w.k) parts.rewards sizes.rewards) in
      let all = shares-few b 1000000 (up ++ down) each in
      let both = length-append up down in
      let first = length-map m.penalties f in
      let last = length-map m.rewards g in
      let few = sizes.statements in
      record { shares = omega arith; constant = omega arith }
    where
      same_size : (k : ℤ) → unsigned_abs (neg_ℤ k) ≡ unsigned_abs k
      same_size k = omega (arith, ints)
  quantity_modest quantities.UnsatPrefs known =
      let n = length m.prefers in
      let xs = range_with_len (first_preference m) n in
      let long = length-range_with_len (first_preference m) n in
      let few = sizes.statements in
      counts_modest (λ _. pos 1) xs (pos 0) (λ _. omega arith) (all_ranged (λ x. greatest_size b x ≤ 1) (first_preference m) n has.prefers) (omega arith) (omega arith)
  quantity_modest quantities.UnsatReqs known =
      let xs = free_requirements m in
      let few : length xs ≤ 1000000 = kept_long (is_free_requirement m) (element_numbers m) elements_long in
      counts_modest (λ _. negsuc 0) xs (pos (length xs)) (λ _. omega arith)
      (elements_small xs (All-filter (is_free_requirement m) (λ k. k < length m.elements) (element_numbers m) (range_known (length m.elements)))) few (omega arith)
  quantity_modest quantities.SatTasks known =
      counts_modest (λ _. pos 1) (leaf_tasks m) (pos 0) (λ _. omega arith) (elements_small (leaf_tasks m) (leaf_tasks_known m))
      (kept_long (is_leaf_task m) (element_numbers m) elements_long) (omega arith)
  quantity_modest quantities.Familiarity known =
      let xs = elements_of_interest m in
      let p = was_true_before m pairs in
      let counted = count_by-le-length p xs in
      let few = interests_long in
      counts_modest (λ e. cond (p e) (negsuc 0) (pos 1)) xs (pos (count_by p xs)) (λ e. sign_small (p e)) (elements_small xs (interests_known m parts)) few (omega arith)
  quantity_modest quantities.Effort known =
      counts_modest (λ _. pos 1) (possible_work m pairs) (pos 0) (λ _. omega arith)
      (elements_small (possible_work m pairs) (All-filter _ (λ k. k < length m.elements) (elements_of_interest m) (interests_known m parts)))
      (kept_long _ (elements_of_interest m) interests_long) (omega arith)

  opposite_modest : (t : Total) → IsModest b most 1000000 t → IsModest b most 1000000 (opposite_total t)
  opposite_modest t h =
      let same = opposite-shares b t in
      let shares = h.shares in
      record { shares = omega arith; constant = limit t.constant h.constant }
    where
      limit : (k : ℤ) → unsigned_abs k ≤ 1000000 → unsigned_abs (neg_ℤ k) ≤ 1000000
      limit k h = omega (arith, ints)

  signed_modest : (max : Bool) (t : Total) → IsModest b most 1000000 t → IsModest b most 1000000 (cond max (opposite_total t) t)
  signed_modest true t h = opposite_modest t h
  signed_modest false t h = h

  pub objective_modest : (o : Objective) → IsKnownQuantity m o.of → IsModest b most 1000000 (objective_total m pairs o)
  objective_modest o known = signed_modest o.max (quantity_total m pairs o.of) (quantity_modest o.of known)

-- ---- the ranges of a model's problem

one_range : (r : Range) → r ≡ (pos 0, pos 1) → max (unsigned_abs r.0) (unsigned_abs r.1) ≤ 1
one_range r e = rw e (omega arith)

bits_small : (most n : ℕ) → 1 ≤ most → All (IsSmallRange most) (bits n)
bits_small most n l = All-replicate (IsSmallRange most) n (pos 0, pos 1) (omega arith, omega arith)

small_wider : (less more : ℕ) → less ≤ more → (rs : List Range) → All (IsSmallRange less) rs → All (IsSmallRange more) rs
small_wider less more l rs h = All-weaker (IsSmallRange less) (IsSmallRange more) (λ r s. (let low = s.0 in omega arith, let high = s.1 in omega arith)) rs h

module _ (m : Lists) (parts : HasKnownParts m) (sizes : HasKnownSizes m) where
  own_small : All (IsSmallRange 1000000000) (own_ranges m)
  own_small =
      All-append (IsSmallRange 1000000000) (bits (truth_variables m)) (map own_range m.vars) (bits_small 1000000000 (truth_variables m) (omega arith))
      (All-map (IsSmallRange 1000000000) own_range m.vars (λ k d l. (sizes.low k d l, sizes.high k d l)))

  pub own_truths : (x : ℕ) → x < truth_variables m → greatest_size (box_of_problem (own_ranges m)) x ≤ 1
  own_truths x l =
      let long = own_long m in
      let at = size_at (own_ranges m) x (pos 0, pos 1) (omega arith) (own_truth m x (pos 0, pos 0) l) in
      let one = one_range (pos 0, pos 1) refl in
      omega arith

  sums_small : All (IsSmallRange 1000000000000) (map (sum_range m) (range_with_len 0 (length m.sums)))
  sums_small =
      All-map (IsSmallRange 1000000000000) (sum_range m) (range_with_len 0 (length m.sums))
      (λ k d l. range_sizes (box_of_problem (own_ranges m)) 1000000000000 0 (truth_variables m) (sum_total m _) (sum_modest m parts sizes (box_of_problem (own_ranges m)) own_truths _))

  pub numbers_small : All (IsSmallRange 1000000000000) (number_ranges m)
  numbers_small =
      All-append (IsSmallRange 1000000000000) (own_ranges m) (map (sum_range m) (range_with_len 0 (length m.sums)))
      (small_wider 1000000000 1000000000000 (omega arith) (own_ranges m) own_small) sums_small

  pub number_truths : (x : ℕ) → x < truth_variables m → greatest_size (box_of_problem (number_ranges m)) x ≤ 1
  number_truths x l =
      let own = own_long m in
      let long = numbers_long m in
      let at = size_at (number_ranges m) x (pos 0, pos 1) (omega arith) (number_own m x (pos 0, pos 0) (omega arith) ∙ own_truth m x (pos 0, pos 0) l) in
      let one = one_range (pos 0, pos 1) refl in
      omega arith

  choices_small : All (IsSmallRange 1000000000000) (choice_ranges m)
  choices_small =
      All-append (IsSmallRange 1000000000000) (rule_ranges m) (bits (length m.prefers))
      (All-append (IsSmallRange 1000000000000) (number_ranges m) (bits (naming_count m)) numbers_small (bits_small 1000000000000 (naming_count m) (omega arith)))
      (bits_small 1000000000000 (length m.prefers) (omega arith))

  choice_truth : (x : ℕ) → x < truth_variables m → get_or (choice_ranges m) x (pos 0, pos 0) ≡ (pos 0, pos 1)
  choice_truth x l =
      let own = own_long m in
      choice_number m x (pos 0, pos 0) (omega arith) ∙ number_own m x (pos 0, pos 0) (omega arith) ∙ own_truth m x (pos 0, pos 0) l

  pub choice_sizes : HasSizes m 1000000000000 (box_of_problem (choice_ranges m))
  choice_sizes =
      let long = choices_long m in
      let one = one_range (pos 0, pos 1) refl in
      record {
        truths = λ x l. let at = size_at (choice_ranges m) x (pos 0, pos 1) (omega arith) (choice_truth x l) in omega arith;
        prefers = λ k l. let at = size_at (choice_ranges m) (first_preference m + k) (pos 0, pos 1) (omega arith) (choice_prefer m k (pos 0, pos 0) l) in omega arith;
        all = size_within 1000000000000 (choice_ranges m) choices_small;
      }

  module _ (pairs : List Pair) where
    pub all_small : All (IsSmallRange 1000001000000) (all_ranges m pairs)
    all_small =
        All-append (IsSmallRange 1000001000000) (choice_ranges m) (map (objective_range m pairs) m.objectives)
        (small_wider 1000000000000 1000001000000 (omega arith) (choice_ranges m) choices_small)
        (All-map (IsSmallRange 1000001000000) (objective_range m pairs) m.objectives
        (λ k d l.
        let o = get_or m.objectives k d in
        range_sizes (box_of_problem (choice_ranges m)) 1000000000000 1000000 (first_objective m) (objective_total m pairs o)
        (objective_modest m pairs parts sizes 1000000000000 (omega arith) (box_of_problem (choice_ranges m)) choice_sizes o (parts.objectives k d l))))

    pub all_sizes : HasSizes m 1000001000000 (box_of_problem (all_ranges m pairs))
    all_sizes =
        let choices = choices_long m in
        let long = all_long m pairs in
        let none : Range = (pos 0, pos 0) in
        let one = one_range (pos 0, pos 1) refl in
        record {
          truths = λ x l.
              let at = size_at (all_ranges m pairs) x (pos 0, pos 1) (omega arith) (all_choice m pairs x none (omega arith) ∙ choice_truth x l) in
              omega arith;
          prefers = λ k l.
              let x = first_preference m + k in
              let at = size_at (all_ranges m pairs) x (pos 0, pos 1) (omega arith) (all_choice m pairs x none (omega arith) ∙ choice_prefer m k none l) in
              omega arith;
          all = size_within 1000001000000 (all_ranges m pairs) all_small;
        }

-- ---- bounds in order

abbrev pub IsOrdered : Range → Type 0
IsOrdered r = r.0 ≤ℤ r.1

still : (l u : ℤ) → l ≡ pos 0 → u ≡ pos 0 → l ≤ℤ u
still l u e f = omega (arith, ints)

pub box_ordered : (rs : List Range) → All IsOrdered rs → (x : ℕ) → lower_of (box_of_problem rs) x ≤ℤ upper_of (box_of_problem rs) x
box_ordered rs h x =
    ⊎_elim
    (λ l.
    let none : Range = (pos 0, pos 0) in
    let r = get_or rs x none in
    subst (λ (z : ℤ). lower_of (box_of_problem rs) x ≤ℤ z) (sym (upper_at rs x none l)) (subst (λ (z : ℤ). z ≤ℤ r.1) (sym (lower_at rs x none l)) (h x none l)))
    (λ past. still (lower_of (box_of_problem rs) x) (upper_of (box_of_problem rs) x) (lower_past rs x past) (upper_past rs x past))
    (cases_lt x (length rs))

through : (low v high d : ℤ) → low ≤ℤ v → v ≤ℤ high → (low +ℤ d) ≤ℤ (high +ℤ d)
through low v high d h g = omega (arith, ints)

range_ordered : (rs : List Range) (n : ℕ) (t : Total) → All IsOrdered rs → IsOrdered (total_range (box_of_problem rs) n t)
range_ordered rs n t h =
    let b = box_of_problem rs in
    let terms = combined_terms n t.shares in
    let between = activity_between b b.lower n (λ x _. (≤ℤ_refl (lower_of b x), box_ordered rs h x)) terms (combined_are_terms n n t.shares (omega arith)) in
    through (least_activity b terms) _ (greatest_activity b terms) t.constant between.0 between.1

bits_ordered : (n : ℕ) → All IsOrdered (bits n)
bits_ordered n = All-replicate IsOrdered n (pos 0, pos 1) (omega (arith, ints))

pub all_ordered : (m : Lists) (pairs : List Pair) → HasKnownSizes m → All IsOrdered (all_ranges m pairs)
all_ordered m pairs sizes =
    let own = All-append IsOrdered (bits (truth_variables m)) (map own_range m.vars) (bits_ordered (truth_variables m)) (All-map IsOrdered own_range m.vars sizes.ordered) in
    let xs = range_with_len 0 (length m.sums) in
    let sums = All-map IsOrdered (sum_range m) xs (λ k d l. range_ordered (own_ranges m) (truth_variables m) (sum_total m (get_or xs k d)) own) in
    let numbers = All-append IsOrdered (own_ranges m) (map (sum_range m) xs) own sums in
    let rules = All-append IsOrdered (number_ranges m) (bits (naming_count m)) numbers (bits_ordered (naming_count m)) in
    let choices = All-append IsOrdered (rule_ranges m) (bits (length m.prefers)) rules (bits_ordered (length m.prefers)) in
    All-append IsOrdered (choice_ranges m) (map (objective_range m pairs) m.objectives) choices
    (All-map IsOrdered (objective_range m pairs) m.objectives (λ k d l. range_ordered (choice_ranges m) (first_objective m) (objective_total m pairs (get_or m.objectives k d)) choices))

-- ---- counts

-- a list of parts that have each so many items
pub flat_long : {X Y : Type 0} (f : X → List Y) (n : ℕ) (xs : List X) → ((x : X) → length (f x) ≡ n) → length (flat_map f xs) ≡ length xs * n
flat_long f n [] h = omega arith
flat_long f n (x ∷ xs) h =
    let both = length-append (f x) (flat_map f xs) in
    let one = h x in
    let rest = flat_long f n xs h in
    grind arith

sum_rows_long : (m : Lists) → length (sum_rows m) ≡ length m.sums * 2
sum_rows_long m =
    let xs = range_with_len 0 (length m.sums) in
    let all = flat_long (λ sum. total_rows (truth_variables m) (sum_total m sum) (number_variable m (number.Sum sum))) 2 xs (λ _. refl) in
    let long = length-range_with_len 0 (length m.sums) in
    omega arith

objective_rows_long : (m : Lists) (pairs : List Pair) → length (objective_rows m pairs) ≡ length m.objectives * 2
objective_rows_long m pairs =
    let xs = enumerate_from (first_objective m) m.objectives in
    let all = flat_long (λ (o : ℕ × Objective). total_rows (first_objective m) (objective_total m pairs o.1) o.0) 2 xs (λ _. refl) in
    let long = length-enumerate_from (first_objective m) m.objectives in
    omega arith

preferences_long : (m : Lists) → length (preferences_written m) ≡ length m.prefers * 3
preferences_long m =
    let xs = enumerate_from (first_preference m) m.prefers in
    let all = flat_long (preference_clauses m) 3 xs (λ _. refl) in
    let long = length-enumerate_from (first_preference m) m.prefers in
    omega arith

clauses_long : (a b c : List Clause) → length ((a ++ map without_repeats b) ++ map without_repeats c) ≡ length a + length b + length c
clauses_long a b c =
    let all = length-append (a ++ map without_repeats b) (map without_repeats c) in
    let first = length-append a (map without_repeats b) in
    let second = length-map b without_repeats in
    let third = length-map c without_repeats in
    omega arith

rows_long : {X : Type 0} (a b c : List X) → length ((a ++ b) ++ c) ≡ length a + length b + length c
rows_long a b c =
    let all = length-append (a ++ b) c in
    let first = length-append a b in
    omega arith

abbrev numbered_var : ℕ → Var
numbered_var x = record { 0 = x }

small_names : (m : Lists) → IsSmallPart (model_rules_part m) → naming_count m ≤ 600000
unfolding rules_part
small_names m h = let few = h.names in omega arith

pub problem_small : RulesPartIsSmall → (m : Lists) (pairs : List Pair) → ∥ IsWellFormedModel m ∥₁ → IsSmallProblem (problem_of m pairs)
unfolding problem_of
problem_small law m pairs well =
    let parts = known_parts m well in
    let sizes = known_sizes m well in
    let part = law m (model_variables m) well in
    let rules = model_rules_part m in
    let ranges = all_ranges m pairs in
    let lower = length-map ranges (λ (r : Range). r.0) in
    let upper = length-map ranges (λ (r : Range). r.1) in
    let long = all_long m pairs in
    let names = small_names m part in
    let statements = sizes.statements in
    let small = all_small m parts sizes pairs in
    let graph = graph_clauses_few m well in
    let clauses = clauses_long (graph_clauses m) rules.clauses (preferences_written m) in
    let preferences = preferences_long m in
    let few_clauses = part.clauses in
    let few_rows = part.rows in
    let rows = rows_long (sum_rows m) rules.rows (objective_rows m pairs) in
    let sums = sum_rows_long m in
    let objectives = objective_rows_long m pairs in
    let few_objectives = sizes.objectives in
    let vars = length-map (range_with_len (first_objective m) (length m.objectives)) numbered_var in
    let count = length-range_with_len (first_objective m) (length m.objectives) in
    record {
      proper = record { same_count = upper ∙ sym lower; ordered = box_ordered ranges (all_ordered m pairs sizes) };
      sizes = λ x.
          let at = size_within 1000001000000 ranges small x in
          (low_bound (lower_of (box_of_problem ranges) x) (upper_of (box_of_problem ranges) x) at, high_bound (lower_of (box_of_problem ranges) x) (upper_of (box_of_problem ranges) x) at);
      var_limit = omega arith;
      clause_limit = omega arith;
      row_limit = omega arith;
      objective_limit = omega arith;
    }
  where
    low_bound : (l u : ℤ) → max (unsigned_abs l) (unsigned_abs u) ≤ 1000001000000 → unsigned_abs l ≤ 10 ^ 15
    low_bound l u h = omega arith

    high_bound : (l u : ℤ) → max (unsigned_abs l) (unsigned_abs u) ≤ 1000001000000 → unsigned_abs u ≤ 10 ^ 15
    high_bound l u h = omega arith
