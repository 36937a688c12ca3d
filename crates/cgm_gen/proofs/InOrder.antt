-- The statements of a generated text, each of which may come after those before it; so its model is well formed.
use Rattle.std.proofs.Common.{◌≡◌, ◌≢◌, ℕ, zero, suc, ◌+◌, ◌*◌, ◌-◌, ◌^◌, ◌<◌, ◌≤◌, ◌++◌, Bool, true, false, not, nat_lt, if◌then◌else◌, IsTrue, List, [], ◌∷◌, Some, codes, length, map, drop, get_or, slice_get, ℤ, pos, unsigned_abs, All, FitsSigned, w64, refl, sym, ap, ◌∙◌, subst, arith}
use Rattle.std.specs.Fmt.{decimal}
use Rattle.std.specs.List.{AllByRecursion, list_any}
use Rattle.std.specs.Str.{bytes_eq}
use Rattle.std.proofs.lemmas.Bool.{and_from, false_from_ne_true, false≢true, le-leb, leb-true, lt-ltb, not_from_false, or_from}
use Rattle.std.proofs.lemmas.Fmt.{decimal_injective}
use Rattle.std.proofs.lemmas.List.{length_push}
use Rattle.std.proofs.lemmas.List.Elements.{All-append, All-cons, All-head, All-map, All-nil, All-push, All-tail, All-weaker}
use Rattle.std.proofs.lemmas.Slice.Eq.{bytes_eq-Decides}
use Rattle.rand_pcg.specs.Lcg.{Lcg}
use Rattle.cgm_base.specs.declared.limit.Which.TheVariants as limits
use Rattle.cgm_base.specs.Words.{limit_number}
use Rattle.cgm_formula.specs.declared.formula.Linear.{Linear}
use Rattle.cgm_formula.specs.declared.formula.Number.{Number}
use Rattle.cgm_formula.specs.declared.formula.Number.TheVariants as numbers
use Rattle.cgm_model.specs.declared.lists.Edge.{Edge}
use Rattle.cgm_model.specs.declared.lists.Element.{Element}
use Rattle.cgm_model.specs.declared.lists.ElementKind.TheVariants as kinds
use Rattle.cgm_model.specs.declared.lists.Lists.{Lists}
use Rattle.cgm_model.specs.declared.lists.Objective.{Objective}
use Rattle.cgm_model.specs.declared.lists.Refinement.{Refinement}
use Rattle.cgm_model.specs.declared.lists.Rule.{Rule}
use Rattle.cgm_model.specs.declared.lists.Statement.{Statement}
use Rattle.cgm_model.specs.declared.lists.Statement.TheVariants as statements
use Rattle.cgm_model.specs.declared.lists.SumValue.{SumValue}
use Rattle.cgm_model.specs.Canonical.{after, StatementsStandInOrder}
use Rattle.cgm_model.specs.Formulas.{IsKnownNumber, IsKnownTruth, IsProperRule, node_total}
use Rattle.cgm_model.specs.Graph.{IsAcyclic, IsNumbering}
use Rattle.cgm_model.specs.Lists.{added, no_lists, statement_count}
use Rattle.cgm_model.specs.Name.{is_name, is_reserved}
use Rattle.cgm_model.specs.Named.{element_names, names, refinement_names, sum_names, variable_names}
use Rattle.cgm_model.specs.Statement.{is_assumption, is_new, is_short, is_task, is_within}
use Rattle.cgm_model.specs.WellFormed.{IsWellFormedModel}
use Rattle.cgm_model.proofs.Canon.{Counts, IsNext, NameTests, other_passes, plain_passes, small_number}
use Rattle.cgm_model.proofs.Keeping.{IsWellFormed-added, IsWellFormed-none, statement_count-added}
use Rattle.cgm_model.proofs.Refusals.{IsAllowed-passes, Passes}
use Rattle.cgm_lex.specs.Names.{starts_name}
use Rattle.cgm_text.specs.Back.{HasWidth}
use Rattle.cgm_text.proofs.TextBack.{AllHaveWidth}
use Rattle.cgm_gen.specs.declared.costs.Costs.{Costs}
use Rattle.cgm_gen.specs.Draws.{both_drawn, costs_from, costs_of, draw, drawn_costs, cost_generator, most_goals, one_drawn}
use Rattle.cgm_gen.specs.GeneratedModel.{a_at, a_number, a_value, b_at, b_number, b_value, cost_objective, cost_rule, cost_sum, cost_term, generated_model, goal_at, goal_number, goal_statements, link_at, link_statements, r_at, s_at, statements_of_costs, value_statements}
use Rattle.cgm_gen.specs.GeneratedText.{a_name, b_name, each_goal, goal_name, r_name, s_name}
use Rattle.cgm_gen.proofs.CostRule.{distinct_terms, full_formula, no_names, one_comparison, one_deep, small_terms, two_nodes}
use Rattle.cgm_gen.proofs.Drawing.{counted}
use Rattle.cgm_gen.proofs.Least.{drawn_small}
use Rattle.cgm_gen.proofs.Naming.{higher_letter, lettered, lower_letter, name_spelled, short}
use Rattle.cgm_gen.proofs.Statements.{statements_give, two_behind, with_graph}

-- ---- a number for each element, by which each way leads down: 1 for a goal, 0 for a task

rank : ℕ → ℕ
rank zero = 1
rank (suc zero) = 0
rank (suc (suc zero)) = 0
rank (suc (suc (suc k))) = rank k

rank_goal : (k : ℕ) → rank (3 * k) ≡ 1
unfolding rank
rank_goal zero = refl
rank_goal (suc k) =
    let on : 3 * suc k ≡ suc (suc (suc (3 * k))) = omega arith in
    ap rank on ∙ rank_goal k

rank_b : (k : ℕ) → rank (3 * k + 1) ≡ 0
unfolding rank
rank_b zero = refl
rank_b (suc k) =
    let on : 3 * suc k + 1 ≡ suc (suc (suc (3 * k + 1))) = omega arith in
    ap rank on ∙ rank_b k

rank_a : (k : ℕ) → rank (3 * k + 2) ≡ 0
unfolding rank
rank_a zero = refl
rank_a (suc k) =
    let on : 3 * suc k + 2 ≡ suc (suc (suc (3 * k + 2))) = omega arith in
    ap rank on ∙ rank_a k

-- the way leads down
abbrev Falls : Refinement → Type 0
Falls r = All (λ source. rank source < rank r.target) r.sources

-- ---- names that are new

abbrev Differs : List ℕ → List ℕ → Type 0
Differs name other = name ≢ other

none_same : (name : List ℕ) (others : List (List ℕ)) → All (Differs name) others → list_any (bytes_eq name) others ≡ false
none_same name [] apart = refl
none_same name (other ∷ others) apart =
    or_from (bytes_eq name other) (list_any (bytes_eq name) others)
    (false_from_ne_true (bytes_eq name other) (λ e. All-head (Differs name) other others apart ((bytes_eq-Decides name other).0 e)))
    (none_same name others (All-tail (Differs name) other others apart))

name_is_new : (p : Lists) (name : List ℕ) → All (Differs name) (element_names p) → All (Differs name) (refinement_names p) → All (Differs name) (variable_names p) → All (Differs name) (sum_names p) → is_new p name ≡ true
name_is_new p name elements refinements vars sums =
    not_from_false (list_any (bytes_eq name) (names p))
    (none_same name (names p)
    (All-append (Differs name) (element_names p) (refinement_names p ++ (variable_names p ++ sum_names p)) elements
    (All-append (Differs name) (refinement_names p) (variable_names p ++ sum_names p) refinements
    (All-append (Differs name) (variable_names p) (sum_names p) vars sums))))

abbrev OtherElement : List ℕ → Element → Type 0
OtherElement name e = name ≢ e.name

abbrev OtherWay : List ℕ → Refinement → Type 0
OtherWay name r = name ≢ r.name

graph_new : (es : List Element) (rs : List Refinement) (name : List ℕ) → All (OtherElement name) es → All (OtherWay name) rs → is_new (with_graph no_lists es rs) name ≡ true
graph_new es rs name elements refinements =
    name_is_new (with_graph no_lists es rs) name
    (All-map (Differs name) (λ (e : Element). e.name) es elements)
    (All-map (Differs name) (λ (r : Refinement). r.name) rs refinements)
    (All-nil (Differs name)) (All-nil (Differs name))

-- a name of the first goals: a capital letter and a number of at most so many
record IsBefore (count : ℕ) (name : List ℕ) : Type 0 where
  letter : ℕ
  number : ℕ
  is : name ≡ lettered letter number
  capital : letter < 97
  most : number ≤ count

before_more : (count : ℕ) (name : List ℕ) → IsBefore count name → IsBefore (count + 1) name
before_more count name before = record {
  letter = before.letter;
  number = before.number;
  is = before.is;
  capital = before.capital;
  most = omega (arith, before.most);
}

before_last : (letter count : ℕ) → letter < 97 → IsBefore (count + 1) (lettered letter (count + 1))
before_last letter count small = record {
  letter = letter;
  number = count + 1;
  is = refl;
  capital = small;
  most = omega arith;
}

other_number : (letter count : ℕ) (name : List ℕ) → count < 2000 → IsBefore count name → lettered letter (count + 1) ≢ name
other_number letter count name few before = λ same.
    let next : count + 1 < 2 ^ 64 = omega (arith, few) in
    let old : before.number < 2 ^ 64 = omega (arith, few, before.most) in
    let whole : lettered letter (count + 1) ≡ lettered before.letter before.number = same ∙ before.is in
    let numbers_are : decimal (count + 1) ≡ decimal before.number = ap (λ (bs : List ℕ). drop 1 bs) whole in
    let equal : count + 1 ≡ before.number = decimal_injective (count + 1) before.number next old numbers_are in
    omega (arith, equal, before.most)

-- ---- the tests of a name of a letter and a number

name_tests : (p : Lists) (letter number : ℕ) → number ≤ 2000 → starts_name letter ≡ true → not (is_reserved (lettered letter number)) ≡ true → is_new p (lettered letter number) ≡ true → NameTests p (lettered letter number ∷ [])
name_tests p letter number few starts free new =
    let name = lettered letter number in
    let small : number < 10000 = omega (arith, few) in
    let long : length name ≤ 64 = omega (arith, short letter number small) in
    record {
      short = and_from (is_short name) true (le-leb (length name) (limit_number limits.NameBytes) long) refl;
      spelled = and_from (is_name name) true (name_spelled letter number small starts free) refl;
      new = and_from (is_new p name) true new refl;
    }

-- ---- statements of the graph

element_counts : (es : List Element) (rs : List Refinement) (e : Element) → length es + length rs < 1000000 → length es < 20000 → length rs ≤ 20000 → Counts (with_graph no_lists es rs) (statements.Element e)
element_counts es rs e total few ways =
    let p : Lists = with_graph no_lists es rs in
    let all : statement_count p < 1000000 = omega (arith, total) in
    let more : length (es ++ e ∷ []) ≤ 20000 = omega (arith, few, length_push es e) in
    record {
      statements = lt-ltb (statement_count p) (limit_number limits.Statements) all;
      elements = le-leb (length (es ++ e ∷ [])) (limit_number limits.Elements) more;
      refinements = le-leb (length rs) (limit_number limits.Refinements) ways;
      nodes = refl;
      objectives = refl;
    }

element_allowed : (es : List Element) (rs : List Refinement) (e : Element) → (IsTrue e.must → e.kind ≡ kinds.Goal) → NameTests (with_graph no_lists es rs) (e.name ∷ []) → length es + length rs < 1000000 → length es < 20000 → length rs ≤ 20000 → IsNumbering rank rs → IsNext (with_graph no_lists es rs) (statements.Element e)
element_allowed es rs e proper tests total few ways falls =
    let p : Lists = with_graph no_lists es rs in
    let s : Statement = statements.Element e in
    (proper, IsAllowed-passes p s (rank, falls) (other_passes p s tests refl refl refl refl refl refl refl (element_counts es rs e total few ways)))

-- a way to a goal by one source
abbrev way : List ℕ → ℕ → ℕ → Refinement
way name target source = record { name = name; target = target; sources = source ∷ [] }

way_allowed : (es : List Element) (rs : List Refinement) (name : List ℕ) (target source : ℕ) → NameTests (with_graph no_lists es rs) (name ∷ []) → slice_get (map (λ (e : Element). e.kind) es) target ≡ Some kinds.Goal
    → target < length es → source < length es → length es + length rs < 1000000 → length es ≤ 20000 → length rs < 20000 → IsNumbering rank (rs ++ way name target source ∷ []) → IsNext (with_graph no_lists es rs) (statements.Refine (way name target source))
way_allowed es rs name target source tests goal there known total few ways falls =
    let p : Lists = with_graph no_lists es rs in
    let r : Refinement = way name target source in
    let s : Statement = statements.Refine r in
    let all : statement_count p < 1000000 = omega (arith, total) in
    let more : length (rs ++ r ∷ []) ≤ 20000 = omega (arith, ways, length_push rs r) in
    let passes : Passes p s true = record {
      short = tests.short;
      spelled = tests.spelled;
      new = tests.new;
      coefficients = refl;
      bounds = refl;
      ordered = refl;
      sources_distinct = refl;
      terms_distinct = refl;
      interest = refl;
      no_task = ap (λ k. not (is_task k)) goal;
      no_assumption = ap (λ k. not (is_assumption k)) goal;
      acyclic = refl;
      statements = lt-ltb (statement_count p) (limit_number limits.Statements) all;
      elements = le-leb (length es) (limit_number limits.Elements) few;
      refinements = le-leb (length (rs ++ r ∷ [])) (limit_number limits.Refinements) more;
      sources = refl;
      nodes = refl;
      objectives = refl;
    } in
    ((there, omega arith, All-cons (λ (k : ℕ). k < length es) source [] known (All-nil (λ (k : ℕ). k < length es))), IsAllowed-passes p s (rank, falls) passes)

-- the kind of the element behind these
kind_behind : (xs : List Element) (y : Element) (ys : List Element) → slice_get (map (λ (e : Element). e.kind) (xs ++ y ∷ ys)) (length xs) ≡ Some y.kind
kind_behind [] y ys = refl
kind_behind (x ∷ xs) y ys = kind_behind xs y ys

-- ---- one goal

-- elements and ways of so many goals
record GraphOf (count : ℕ) (es : List Element) (rs : List Refinement) : Type 0 where
  elements : length es ≡ 3 * count
  refinements : length rs ≡ 2 * count
  elements_named : All (λ (e : Element). IsBefore count e.name) es
  ways_named : All (λ (r : Refinement). IsBefore count r.name) rs
  falls : IsNumbering rank rs

module _ (k : ℕ) (es : List Element) (rs : List Refinement) (g : GraphOf k es rs) (few : k < 2000) where
  abbrev with_goal : List Element
  with_goal = es ++ goal_at k ∷ []

  abbrev with_b : List Element
  with_b = with_goal ++ b_at k ∷ []

  abbrev with_a : List Element
  with_a = with_b ++ a_at k ∷ []

  abbrev with_r : List Refinement
  with_r = rs ++ r_at k ∷ []

  abbrev with_s : List Refinement
  with_s = with_r ++ s_at k ∷ []

  goal_long : length with_goal ≡ 3 * k + 1
  goal_long = omega (arith, length_push es (goal_at k), g.elements)

  b_long : length with_b ≡ 3 * k + 2
  b_long = omega (arith, length_push with_goal (b_at k), goal_long)

  a_long : length with_a ≡ 3 * k + 3
  a_long = omega (arith, length_push with_b (a_at k), b_long)

  r_long : length with_r ≡ 2 * k + 1
  r_long = omega (arith, length_push rs (r_at k), g.refinements)

  s_long : length with_s ≡ 2 * k + 2
  s_long = omega (arith, length_push with_r (s_at k), r_long)

  elements_apart : (letter : ℕ) → All (OtherElement (lettered letter (k + 1))) es
  elements_apart letter =
      All-weaker (λ (e : Element). IsBefore k e.name) (OtherElement (lettered letter (k + 1))) (λ e before. other_number letter k e.name few before) es g.elements_named

  ways_apart : (letter : ℕ) → All (OtherWay (lettered letter (k + 1))) rs
  ways_apart letter =
      All-weaker (λ (r : Refinement). IsBefore k r.name) (OtherWay (lettered letter (k + 1))) (λ r before. other_number letter k r.name few before) rs g.ways_named

  -- the letters are G, B, A, R and S
  goal_apart : (letter : ℕ) → lettered letter (k + 1) ≢ goal_name k → All (OtherElement (lettered letter (k + 1))) with_goal
  goal_apart letter differs = All-push (OtherElement (lettered letter (k + 1))) es (goal_at k) (elements_apart letter) differs

  b_apart : (letter : ℕ) → lettered letter (k + 1) ≢ goal_name k → lettered letter (k + 1) ≢ b_name k → All (OtherElement (lettered letter (k + 1))) with_b
  b_apart letter goal b = All-push (OtherElement (lettered letter (k + 1))) with_goal (b_at k) (goal_apart letter goal) b

  a_apart : (letter : ℕ) → lettered letter (k + 1) ≢ goal_name k → lettered letter (k + 1) ≢ b_name k → lettered letter (k + 1) ≢ a_name k → All (OtherElement (lettered letter (k + 1))) with_a
  a_apart letter goal b a = All-push (OtherElement (lettered letter (k + 1))) with_b (a_at k) (b_apart letter goal b) a

  r_apart : All (OtherElement (lettered 82 (k + 1))) with_a
  r_apart =
      a_apart 82 (higher_letter 82 71 (k + 1) (k + 1) (omega arith)) (higher_letter 82 66 (k + 1) (k + 1) (omega arith))
      (higher_letter 82 65 (k + 1) (k + 1) (omega arith))

  s_apart : All (OtherElement (lettered 83 (k + 1))) with_a
  s_apart =
      a_apart 83 (higher_letter 83 71 (k + 1) (k + 1) (omega arith)) (higher_letter 83 66 (k + 1) (k + 1) (omega arith))
      (higher_letter 83 65 (k + 1) (k + 1) (omega arith))

  goal_tests : NameTests (with_graph no_lists es rs) (goal_name k ∷ [])
  goal_tests =
      name_tests (with_graph no_lists es rs) 71 (k + 1) (omega (arith, few)) refl refl
      (graph_new es rs (lettered 71 (k + 1)) (elements_apart 71) (ways_apart 71))

  b_tests : NameTests (with_graph no_lists with_goal rs) (b_name k ∷ [])
  b_tests =
      name_tests (with_graph no_lists with_goal rs) 66 (k + 1) (omega (arith, few)) refl refl
      (graph_new with_goal rs (lettered 66 (k + 1)) (goal_apart 66 (lower_letter 66 71 (k + 1) (k + 1) (omega arith))) (ways_apart 66))

  a_tests : NameTests (with_graph no_lists with_b rs) (a_name k ∷ [])
  a_tests =
      name_tests (with_graph no_lists with_b rs) 65 (k + 1) (omega (arith, few)) refl refl
      (graph_new with_b rs (lettered 65 (k + 1))
      (b_apart 65 (lower_letter 65 71 (k + 1) (k + 1) (omega arith)) (lower_letter 65 66 (k + 1) (k + 1) (omega arith))) (ways_apart 65))

  r_tests : NameTests (with_graph no_lists with_a rs) (r_name k ∷ [])
  r_tests =
      name_tests (with_graph no_lists with_a rs) 82 (k + 1) (omega (arith, few)) refl refl
      (graph_new with_a rs (lettered 82 (k + 1)) r_apart (ways_apart 82))

  s_tests : NameTests (with_graph no_lists with_a with_r) (s_name k ∷ [])
  s_tests =
      name_tests (with_graph no_lists with_a with_r) 83 (k + 1) (omega (arith, few)) refl refl
      (graph_new with_a with_r (lettered 83 (k + 1)) s_apart
      (All-push (OtherWay (lettered 83 (k + 1))) rs (r_at k) (ways_apart 83) (higher_letter 83 82 (k + 1) (k + 1) (omega arith))))

  -- the element that both ways lead to is a goal
  goal_there : slice_get (map (λ (e : Element). e.kind) with_a) (3 * k) ≡ Some kinds.Goal
  goal_there =
      subst (λ (xs : List Element). slice_get (map (λ (e : Element). e.kind) xs) (3 * k) ≡ Some kinds.Goal) (sym (two_behind es (goal_at k) (b_at k) (a_at k ∷ [])))
      (subst (λ (j : ℕ). slice_get (map (λ (e : Element). e.kind) (es ++ (goal_at k ∷ b_at k ∷ a_at k ∷ []))) j ≡ Some kinds.Goal) g.elements
      (kind_behind es (goal_at k) (b_at k ∷ a_at k ∷ [])))

  r_falls : IsNumbering rank with_r
  r_falls =
      let down : rank (a_number k) < rank (goal_number k) = omega (arith, rank_a k, rank_goal k) in
      let below : Falls (r_at k) = All-cons (λ (source : ℕ). rank source < rank (goal_number k)) (a_number k) [] down (All-nil (λ (source : ℕ). rank source < rank (goal_number k))) in
      All-push Falls rs (r_at k) g.falls below

  s_falls : IsNumbering rank with_s
  s_falls =
      let down : rank (b_number k) < rank (goal_number k) = omega (arith, rank_b k, rank_goal k) in
      let below : Falls (s_at k) = All-cons (λ (source : ℕ). rank source < rank (goal_number k)) (b_number k) [] down (All-nil (λ (source : ℕ). rank source < rank (goal_number k))) in
      All-push Falls with_r (s_at k) r_falls below

  goal_next : IsNext (with_graph no_lists es rs) (statements.Element (goal_at k))
  goal_next =
      element_allowed es rs (goal_at k) (λ must. refl) goal_tests
      (omega (arith, few, g.elements, g.refinements)) (omega (arith, few, g.elements)) (omega (arith, few, g.refinements)) g.falls

  b_next : IsNext (with_graph no_lists with_goal rs) (statements.Element (b_at k))
  b_next =
      element_allowed with_goal rs (b_at k) (λ must. absurd (false≢true must)) b_tests
      (omega (arith, few, goal_long, g.refinements)) (omega (arith, few, goal_long)) (omega (arith, few, g.refinements)) g.falls

  a_next : IsNext (with_graph no_lists with_b rs) (statements.Element (a_at k))
  a_next =
      element_allowed with_b rs (a_at k) (λ must. absurd (false≢true must)) a_tests
      (omega (arith, few, b_long, g.refinements)) (omega (arith, few, b_long)) (omega (arith, few, g.refinements)) g.falls

  r_next : IsNext (with_graph no_lists with_a rs) (statements.Refine (r_at k))
  r_next =
      way_allowed with_a rs (r_name k) (goal_number k) (a_number k) r_tests goal_there
      (omega (arith, a_long)) (omega (arith, a_long)) (omega (arith, few, a_long, g.refinements)) (omega (arith, few, a_long)) (omega (arith, few, g.refinements)) r_falls

  s_next : IsNext (with_graph no_lists with_a with_r) (statements.Refine (s_at k))
  s_next =
      way_allowed with_a with_r (s_name k) (goal_number k) (b_number k) s_tests goal_there
      (omega (arith, a_long)) (omega (arith, a_long)) (omega (arith, few, a_long, r_long)) (omega (arith, few, a_long)) (omega (arith, few, r_long)) s_falls

  -- one goal more
  goal_more : GraphOf (k + 1) with_a with_s
  goal_more =
      let elements_are : All (λ (e : Element). IsBefore (k + 1) e.name) es =
      All-weaker (λ (e : Element). IsBefore k e.name) (λ (e : Element). IsBefore (k + 1) e.name) (λ e before. before_more k e.name before) es g.elements_named in
      let ways_are : All (λ (r : Refinement). IsBefore (k + 1) r.name) rs =
      All-weaker (λ (r : Refinement). IsBefore k r.name) (λ (r : Refinement). IsBefore (k + 1) r.name) (λ r before. before_more k r.name before) rs g.ways_named in
      let first = All-push (λ (e : Element). IsBefore (k + 1) e.name) es (goal_at k) elements_are (before_last 71 k (omega arith)) in
      let second = All-push (λ (e : Element). IsBefore (k + 1) e.name) with_goal (b_at k) first (before_last 66 k (omega arith)) in
      let way_first = All-push (λ (r : Refinement). IsBefore (k + 1) r.name) rs (r_at k) ways_are (before_last 82 k (omega arith)) in
      record {
        elements = omega (arith, a_long);
        refinements = omega (arith, s_long);
        elements_named = All-push (λ (e : Element). IsBefore (k + 1) e.name) with_b (a_at k) second (before_last 65 k (omega arith));
        ways_named = All-push (λ (r : Refinement). IsBefore (k + 1) r.name) with_r (s_at k) way_first (before_last 83 k (omega arith));
        falls = s_falls;
      }

-- ---- all goals

none_yet : GraphOf 0 [] []
none_yet = record {
  elements = refl;
  refinements = refl;
  elements_named = All-nil (λ (e : Element). IsBefore 0 e.name);
  ways_named = All-nil (λ (r : Refinement). IsBefore 0 r.name);
  falls = All-nil Falls;
}

goals_stand : (count place : ℕ) (costs : List Costs) (es : List Element) (rs : List Refinement) → GraphOf place es rs → count ≤ 2000 → place + length costs ≡ count → (rest : List Statement)
    → ((elements_are : List Element) (ways_are : List Refinement) → GraphOf count elements_are ways_are → StatementsStandInOrder (with_graph no_lists elements_are ways_are) rest)
    → StatementsStandInOrder (with_graph no_lists es rs) (each_goal (λ k (one : Costs). goal_statements k) place costs ++ rest)
goals_stand count place [] es rs g few at rest later =
    let here : place ≡ count = omega (arith, at) in
    later es rs (subst (λ (k : ℕ). GraphOf k es rs) here g)
goals_stand count place (c ∷ costs) es rs g few at rest later =
    let under : place < 2000 = omega (arith, at, few) in
    let next : place + 1 + length costs ≡ count = omega (arith, at) in
    let goal = goal_next place es rs g under in
    let b = b_next place es rs g under in
    let a = a_next place es rs g under in
    let r = r_next place es rs g under in
    let s = s_next place es rs g under in
    let all = goals_stand count (place + 1) costs (with_a place es rs g under) (with_s place es rs g under) (goal_more place es rs g under) few next rest later in
    (goal.0, goal.1, (b.0, b.1, (a.0, a.1, (r.0, r.1, (s.0, s.1, all)))))

-- ---- what comes after the goals

-- lists with so many goals and the sum, and room for so many statements more
record Stage (count left : ℕ) (p : Lists) : Type 0 where
  elements : length p.elements ≡ 3 * count
  refinements : length p.refinements ≤ 20000
  sums : length p.sums ≡ 1
  rules_none : p.rules ≡ []
  objectives_none : p.objectives ≡ []
  acyclic : IsAcyclic p.refinements
  total : statement_count p + left ≤ 1000000

less_left : (count more left : ℕ) (p : Lists) → left ≤ more → Stage count more p → Stage count left p
less_left count more left p less stage = record {
  elements = stage.elements;
  refinements = stage.refinements;
  sums = stage.sums;
  rules_none = stage.rules_none;
  objectives_none = stage.objectives_none;
  acyclic = stage.acyclic;
  total = omega (arith, stage.total, less);
}

after_value : (count left : ℕ) (p : Lists) (v : SumValue) → Stage count (suc left) p → Stage count left (added p (statements.Value v))
after_value count left p v stage = record {
  elements = stage.elements;
  refinements = stage.refinements;
  sums = stage.sums;
  rules_none = stage.rules_none;
  objectives_none = stage.objectives_none;
  acyclic = stage.acyclic;
  total = omega (arith, stage.total, statement_count-added p (statements.Value v));
}

after_link : (count left : ℕ) (p : Lists) (e : Edge) → Stage count (suc left) p → Stage count left (added p (statements.Contrib e))
after_link count left p e stage = record {
  elements = stage.elements;
  refinements = stage.refinements;
  sums = stage.sums;
  rules_none = stage.rules_none;
  objectives_none = stage.objectives_none;
  acyclic = stage.acyclic;
  total = omega (arith, stage.total, statement_count-added p (statements.Contrib e));
}

-- the counts of a statement that adds no element and no way
counts_after : (count : ℕ) (p : Lists) (s : Statement) → count ≤ 2000 → length p.elements ≡ 3 * count → length p.refinements ≤ 20000 → statement_count p < 1000000 → (added p s).elements ≡ p.elements → (added p s).refinements ≡ p.refinements
    → is_within (node_total (added p s).rules) limits.FormulaNodes ≡ true → is_within (length (added p s).objectives) limits.Objectives ≡ true → Counts p s
counts_after count p s few long ways total elements_same ways_same nodes objectives =
    let elements_few : length p.elements ≤ 20000 = omega (arith, long, few) in
    let elements_are : length (added p s).elements ≤ 20000 = subst (λ (xs : List Element). length xs ≤ 20000) (sym elements_same) elements_few in
    let ways_are : length (added p s).refinements ≤ 20000 = subst (λ (xs : List Refinement). length xs ≤ 20000) (sym ways_same) ways in
    record {
      statements = lt-ltb (statement_count p) (limit_number limits.Statements) total;
      elements = le-leb (length (added p s).elements) (limit_number limits.Elements) elements_are;
      refinements = le-leb (length (added p s).refinements) (limit_number limits.Refinements) ways_are;
      nodes = nodes;
      objectives = objectives;
    }

no_nodes : (p : Lists) → p.rules ≡ [] → is_within (node_total p.rules) limits.FormulaNodes ≡ true
no_nodes p none = ap (λ (rs : List Rule). is_within (node_total rs) limits.FormulaNodes) none

no_objectives : (p : Lists) → p.objectives ≡ [] → is_within (length p.objectives) limits.Objectives ≡ true
no_objectives p none = ap (λ (os : List Objective). is_within (length os) limits.Objectives) none

value_next : (count left : ℕ) (p : Lists) (v : SumValue) → count ≤ 2000 → Stage count (suc left) p → v.sum ≡ 0 → IsKnownTruth p v.of → unsigned_abs v.k ≤ 1000000 → IsNext p (statements.Value v)
value_next count left p v few stage sum known small =
    let s : Statement = statements.Value v in
    let total : statement_count p < 1000000 = omega (arith, stage.total) in
    let there : v.sum < length p.sums = omega (arith, stage.sums, sum) in
    let c = counts_after count p s few stage.elements stage.refinements total refl refl (no_nodes p stage.rules_none) (no_objectives p stage.objectives_none) in
    ((there, known), IsAllowed-passes p s stage.acyclic (plain_passes p s refl (small_number v.k small) refl refl refl refl refl refl c))

link_next : (count left : ℕ) (p : Lists) (e : Edge) → count ≤ 2000 → Stage count (suc left) p → e.from < 3 * count → e.to < 3 * count → IsNext p (statements.Contrib e)
link_next count left p e few stage from to =
    let s : Statement = statements.Contrib e in
    let total : statement_count p < 1000000 = omega (arith, stage.total) in
    let one : e.from < length p.elements = omega (arith, stage.elements, from) in
    let other : e.to < length p.elements = omega (arith, stage.elements, to) in
    let c = counts_after count p s few stage.elements stage.refinements total refl refl (no_nodes p stage.rules_none) (no_objectives p stage.objectives_none) in
    ((one, other), IsAllowed-passes p s stage.acyclic (plain_passes p s refl refl refl refl refl refl refl refl c))

-- ---- the values

-- each cost is at most 100
abbrev pub IsSmall : Costs → Type 0
IsSmall c = (c.of_a ≤ 100) × (c.of_b ≤ 100)

values_stand : (count left place : ℕ) (costs : List Costs) (p : Lists) → count ≤ 2000 → All IsSmall costs → place + length costs ≤ count → Stage count (2 * length costs + left) p → (rest : List Statement)
    → ((q : Lists) → Stage count left q → StatementsStandInOrder q rest)
    → StatementsStandInOrder p (each_goal value_statements place costs ++ rest)
values_stand count left place [] p few small within stage rest later = later p (less_left count (2 * 0 + left) left p (omega arith) stage)
values_stand count left place (c ∷ costs) p few small within stage rest later =
    let first : SumValue = a_value place c in
    let second : SumValue = b_value place c in
    let mid : Lists = added p (statements.Value first) in
    let before = less_left count (2 * suc (length costs) + left) (suc (suc (2 * length costs + left))) p (omega arith) stage in
    let between = after_value count (suc (2 * length costs + left)) p first before in
    let behind = after_value count (2 * length costs + left) mid second between in
    let small_here = All-head IsSmall c costs small in
    let a_known : a_number place < length p.elements = omega (arith, before.elements, within) in
    let b_known : b_number place < length p.elements = omega (arith, before.elements, within) in
    let a_small : c.of_a ≤ 1000000 = omega (arith, small_here.0) in
    let b_small : c.of_b ≤ 1000000 = omega (arith, small_here.1) in
    let on : place + 1 + length costs ≤ count = omega (arith, within) in
    let here = value_next count (suc (2 * length costs + left)) p first few before refl a_known a_small in
    let there = value_next count (2 * length costs + left) mid second few between refl b_known b_small in
    let all = values_stand count left (place + 1) costs (added mid (statements.Value second)) few (All-tail IsSmall c costs small) on behind rest later in
    (here.0, here.1, (there.0, there.1, all))

-- ---- the chain

links_stand : (count left place many : ℕ) (p : Lists) → count ≤ 2000 → (0 < many → place + many < count) → Stage count (many + left) p → (rest : List Statement)
    → ((q : Lists) → Stage count left q → StatementsStandInOrder q rest)
    → StatementsStandInOrder p (link_statements place many ++ rest)
links_stand count left place zero p few within stage rest later = later p (less_left count (0 + left) left p (omega arith) stage)
links_stand count left place (suc many) p few within stage rest later =
    let some : 0 < suc many = omega arith in
    let under : place + suc many < count = within some in
    let before = less_left count (suc many + left) (suc (many + left)) p (omega arith) stage in
    let from : b_number place < 3 * count = omega (arith, under) in
    let to : b_number (place + 1) < 3 * count = omega (arith, under) in
    let here = link_next count (many + left) p (link_at place) few before from to in
    let on : 0 < many → place + 1 + many < count = λ more. omega (arith, under) in
    let all = links_stand count left (place + 1) many (added p (statements.Contrib (link_at place))) few on (after_link count (many + left) p (link_at place) before) rest later in
    (here.0, here.1, all)

-- ---- the rule and the objective

-- the numbers of a comparison are there
abbrev HasKnownTerms : Lists → Linear × ℤ → Type 0
HasKnownTerms p c = All (λ (t : ℤ × Number). IsKnownNumber p t.1) c.0.terms

cost_is_proper : (p : Lists) → length p.sums ≡ 1 → IsProperRule p cost_rule
cost_is_proper p sums =
    let there : 0 < length p.sums = omega (arith, sums) in
    let terms : All (λ (t : ℤ × Number). IsKnownNumber p t.1) cost_term.terms =
    All-cons (λ (t : ℤ × Number). IsKnownNumber p t.1) (pos 1, numbers.Sum 0) [] there (All-nil (λ (t : ℤ × Number). IsKnownNumber p t.1)) in
    record {
      condition = All-nil (IsKnownTruth p);
      formula = record {
        names = subst (All (IsKnownTruth p)) (sym no_names) (All-nil (IsKnownTruth p));
        numbers = subst (All (HasKnownTerms p)) (sym one_comparison) (All-cons (HasKnownTerms p) (cost_term, pos 800) [] terms (All-nil (HasKnownTerms p)));
        full = full_formula;
        depth = subst (λ (n : ℕ). n ≤ 200) (sym one_deep) (leb-true 1 200 refl);
      };
    }

last_stand : (count : ℕ) (p : Lists) → count ≤ 2000 → Stage count 2 p → StatementsStandInOrder p (statements.Rule cost_rule ∷ statements.Objective cost_objective ∷ [])
last_stand count p few stage =
    let s : Statement = statements.Rule cost_rule in
    let next : Statement = statements.Objective cost_objective in
    let q : Lists = added p s in
    let total : statement_count p < 1000000 = omega (arith, stage.total) in
    let total_then : statement_count q < 1000000 = omega (arith, stage.total, statement_count-added p s) in
    let there : 0 < length p.sums = omega (arith, stage.sums) in
    let nodes : is_within (node_total (p.rules ++ cost_rule ∷ [])) limits.FormulaNodes ≡ true =
    ap (λ (rs : List Rule). is_within (node_total (rs ++ cost_rule ∷ [])) limits.FormulaNodes) stage.rules_none
    ∙ ap (λ (n : ℕ). is_within (0 + n) limits.FormulaNodes) two_nodes in
    let objectives : is_within (length (p.objectives ++ cost_objective ∷ [])) limits.Objectives ≡ true =
    ap (λ (os : List Objective). is_within (length (os ++ cost_objective ∷ [])) limits.Objectives) stage.objectives_none in
    let c = counts_after count p s few stage.elements stage.refinements total refl refl nodes (no_objectives p stage.objectives_none) in
    let d = counts_after count q next few stage.elements stage.refinements total_then refl refl nodes objectives in (
      cost_is_proper p stage.sums,
      IsAllowed-passes p s stage.acyclic (plain_passes p s refl small_terms refl refl refl distinct_terms refl refl c),
      (
        there,
        IsAllowed-passes q next stage.acyclic (plain_passes q next refl refl refl refl refl refl refl refl d),
        tt,
      ),
    )

-- ---- the whole

other_cost : (count : ℕ) (name : List ℕ) → IsBefore count name → codes "cost" ≢ name
other_cost count name before = λ same.
    let letters : 99 ≡ before.letter = ap (λ (bs : List ℕ). get_or bs 0 0) (same ∙ before.is) in
    omega (arith, letters, before.capital)

sum_allowed : (count : ℕ) (es : List Element) (rs : List Refinement) → count ≤ 2000 → GraphOf count es rs → IsNext (with_graph no_lists es rs) (statements.Sum cost_sum)
sum_allowed count es rs few g =
    let p : Lists = with_graph no_lists es rs in
    let s : Statement = statements.Sum cost_sum in
    let elements_few : length es ≤ 20000 = omega (arith, few, g.elements) in
    let ways_few : length rs ≤ 20000 = omega (arith, few, g.refinements) in
    let total : statement_count p < 1000000 = omega (arith, few, g.elements, g.refinements) in
    let new : is_new p (codes "cost") ≡ true =
    graph_new es rs (codes "cost")
    (All-weaker (λ (e : Element). IsBefore count e.name) (OtherElement (codes "cost")) (λ e before. other_cost count e.name before) es g.elements_named)
    (All-weaker (λ (r : Refinement). IsBefore count r.name) (OtherWay (codes "cost")) (λ r before. other_cost count r.name before) rs g.ways_named) in
    let tests : NameTests p (codes "cost" ∷ []) = record { short = refl; spelled = refl; new = and_from (is_new p (codes "cost")) true new refl } in
    let c : Counts p s = record {
      statements = lt-ltb (statement_count p) (limit_number limits.Statements) total;
      elements = le-leb (length es) (limit_number limits.Elements) elements_few;
      refinements = le-leb (length rs) (limit_number limits.Refinements) ways_few;
      nodes = refl;
      objectives = refl;
    } in
    (tt, IsAllowed-passes p s (rank, g.falls) (other_passes p s tests refl refl refl refl refl refl refl c))

summed : (count left : ℕ) (es : List Element) (rs : List Refinement) → count ≤ 2000 → GraphOf count es rs → left ≤ 100000 → Stage count left (added (with_graph no_lists es rs) (statements.Sum cost_sum))
summed count left es rs few g room = record {
  elements = g.elements;
  refinements = omega (arith, few, g.refinements);
  sums = refl;
  rules_none = refl;
  objectives_none = refl;
  acyclic = (rank, g.falls);
  total = omega (arith, few, g.elements, g.refinements, room, statement_count-added (with_graph no_lists es rs) (statements.Sum cost_sum));
}

-- how many links there are, where there are any
chain_within : (count many : ℕ) → many ≡ count - 9 → 0 < many → 8 + many < count
chain_within count many is some = omega (arith, is, some)

all_stand : (all : List Costs) → length all ≤ 2000 → All IsSmall all → StatementsStandInOrder no_lists (statements_of_costs all)
all_stand all few small =
    let last : List Statement = statements.Rule cost_rule ∷ statements.Objective cost_objective ∷ [] in
    let chain : List Statement = link_statements 8 (length all - 9) ++ last in
    let priced : List Statement = each_goal value_statements 0 all ++ chain in
    let room : 2 * length all + ((length all - 9) + 2) ≤ 100000 = omega (arith, few) in
    let from_start : 0 + length all ≡ length all = omega arith in
    let within : 0 + length all ≤ length all = omega arith in
    goals_stand (length all) 0 all [] [] none_yet few from_start (statements.Sum cost_sum ∷ priced)
    (λ es rs g.
    let sum = sum_allowed (length all) es rs few g in (
      sum.0,
      sum.1,
      values_stand (length all) ((length all - 9) + 2) 0 all (added (with_graph no_lists es rs) (statements.Sum cost_sum)) few small within
          (summed (length all) (2 * length all + ((length all - 9) + 2)) es rs few g room) chain
          (λ p stage. links_stand (length all) 2 8 (length all - 9) p few (chain_within (length all) (length all - 9) refl) stage last
          (λ q end. last_stand (length all) q few end)),
    ))

drawn_few : (t : Bool) (g : Lcg) → IsSmall (if t then both_drawn g else one_drawn g).0
drawn_few true g = (drawn_small g, drawn_small (draw g).1)
drawn_few false g = (omega arith, drawn_small g)

pub all_small : (place count : ℕ) (g : Lcg) → All IsSmall (costs_from place count g)
all_small place zero g = All-nil IsSmall
all_small place (suc count) g =
    All-cons IsSmall (drawn_costs place g).0 (costs_from (place + 1) count (drawn_costs place g).1)
    (drawn_few (nat_lt place 8) g) (all_small (place + 1) count (drawn_costs place g).1)

pub generated_in_order : (goals : ℕ) → goals ≤ most_goals → StatementsStandInOrder no_lists (statements_of_costs (costs_of goals))
unfolding costs_of
generated_in_order goals within =
    let most : goals ≤ 2000 = within in
    let few : length (costs_from 0 goals (cost_generator goals)) ≤ 2000 = omega (arith, most, counted 0 goals (cost_generator goals)) in
    all_stand (costs_from 0 goals (cost_generator goals)) few (all_small 0 goals (cost_generator goals))

well_formed_after : (p : Lists) (ss : List Statement) → IsWellFormedModel p → StatementsStandInOrder p ss → IsWellFormedModel (after p ss)
well_formed_after p [] well stand = well
well_formed_after p (s ∷ ss) well stand =
    well_formed_after (added p s) ss (IsWellFormed-added p s well stand.0 stand.1) stand.2

pub generated_is_well_formed : (goals : ℕ) → goals ≤ most_goals → IsWellFormedModel (generated_model goals)
unfolding generated_model
generated_is_well_formed goals within =
    let ss = statements_of_costs (costs_of goals) in
    subst IsWellFormedModel (statements_give (costs_of goals)) (well_formed_after no_lists ss IsWellFormed-none (generated_in_order goals within))

-- ---- widths

goals_wide : (place : ℕ) (costs : List Costs) (rest : List Statement) → AllByRecursion HasWidth rest → AllByRecursion HasWidth (each_goal (λ k (one : Costs). goal_statements k) place costs ++ rest)
goals_wide place [] rest wide = wide
goals_wide place (c ∷ costs) rest wide = (tt, (tt, (tt, (tt, (tt, goals_wide (place + 1) costs rest wide)))))

values_wide : (place : ℕ) (costs : List Costs) (rest : List Statement) → AllByRecursion HasWidth rest → AllByRecursion HasWidth (each_goal value_statements place costs ++ rest)
values_wide place [] rest wide = wide
values_wide place (c ∷ costs) rest wide = (tt, (tt, values_wide (place + 1) costs rest wide))

links_wide : (place many : ℕ) (rest : List Statement) → AllByRecursion HasWidth rest → AllByRecursion HasWidth (link_statements place many ++ rest)
links_wide place zero rest wide = wide
links_wide place (suc many) rest wide = (tt, links_wide (place + 1) many rest wide)

bound_fits : FitsSigned w64 (pos 800)
bound_fits = record { sfits = omega arith }

last_wide : AllByRecursion HasWidth (statements.Rule cost_rule ∷ statements.Objective cost_objective ∷ [])
last_wide = (
  subst (AllByRecursion (λ (c : Linear × ℤ). FitsSigned w64 c.1)) (sym one_comparison) (bound_fits, tt),
  (tt, tt),
)

all_wide : (all : List Costs) → AllHaveWidth (statements_of_costs all)
all_wide all =
    let last : List Statement = statements.Rule cost_rule ∷ statements.Objective cost_objective ∷ [] in
    let chain : List Statement = link_statements 8 (length all - 9) ++ last in
    goals_wide 0 all (statements.Sum cost_sum ∷ (each_goal value_statements 0 all ++ chain))
    (tt, values_wide 0 all chain (links_wide 8 (length all - 9) last last_wide))

pub generated_width : (goals : ℕ) → AllHaveWidth (statements_of_costs (costs_of goals))
generated_width goals = all_wide (costs_of goals)
