-- Each statement of a well-formed model, in canonical order, is allowed after those before it.
use Rattle.std.proofs.Common.{◌≡◌, ◌≢◌, ℕ, zero, suc, ◌+◌, ◌<◌, ◌≤◌, ◌++◌, ◌==◌, true, not, nat_le, nat_lt, IsTrue, List, [], ◌∷◌, Option, None, Some, length, map, slice_get, refl, sym, ◌∙◌, ap, subst, All, arith, ◌≤ℤ◌, ℤ}
use Rattle.std.specs.Prelude.{unsigned_abs, int_le}
use Rattle.std.specs.List.{list_all}
use Rattle.std.specs.Option.{is_some}
use Rattle.std.proofs.lemmas.Bool.{and_from, le-leb, lt-ltb}
use Rattle.std.proofs.lemmas.Int.{ints}
use Rattle.std.proofs.lemmas.List.{append_assoc, append-nil, length-append, length-map}
use Rattle.std.proofs.lemmas.List.Elements.{All-nil, All-cons}
use Rattle.std.proofs.lemmas.List.Sums.{sum_by-append}
use Rattle.std.proofs.lemmas.Option.{none-some, slice_get_within}
use borrow.Author.Differences.{true_is_le}
use Rattle.cgm_base.specs.declared.limit.Which.TheVariants as limits
use Rattle.cgm_base.specs.Words.{limit_number}
use Rattle.cgm_formula.specs.Nodes.{node_count}
use Rattle.cgm_model.specs.declared.lists.Assertion.{Assertion}
use Rattle.cgm_model.specs.declared.lists.Edge.{Edge}
use Rattle.cgm_model.specs.declared.lists.Element.{Element}
use Rattle.cgm_model.specs.declared.lists.Lists.{Lists}
use Rattle.cgm_model.specs.declared.lists.Objective.{Objective}
use Rattle.cgm_model.specs.declared.lists.Preference.{Preference}
use Rattle.cgm_model.specs.declared.lists.Refinement.{Refinement}
use Rattle.cgm_model.specs.declared.lists.Rule.{Rule}
use Rattle.cgm_model.specs.declared.lists.Statement.{Statement}
use Rattle.cgm_model.specs.declared.lists.Statement.TheVariants as statements
use Rattle.cgm_model.specs.declared.lists.Sum.{Sum}
use Rattle.cgm_model.specs.declared.lists.SumValue.{SumValue}
use Rattle.cgm_model.specs.declared.lists.Thing.{Thing}
use Rattle.cgm_model.specs.declared.lists.Thing.TheVariants as things
use Rattle.cgm_model.specs.declared.lists.Variable.{Variable}
use Rattle.cgm_model.specs.declared.lists.Weighing.{Weighing}
use Rattle.cgm_model.specs.Canonical.{statements_of, after, StatementsStandInOrder}
use Rattle.cgm_model.specs.Formulas.{formula_of, is_small, node_total}
use Rattle.cgm_model.specs.Lists.{added, lists, no_lists, statement_count}
use Rattle.cgm_model.specs.Name.{is_name}
use Rattle.cgm_model.specs.Named.{names, IsNamedThing, thing_named}
use Rattle.cgm_model.specs.Statement.{IsProperStatement, IsAllowed, IsEdgeOf, IsProperPreference, IsKnownQuantity, declared_names, source_list, target_kind, has_small_coefficients, has_small_bounds, has_ordered_bounds, has_distinct_terms_each, has_new_interest, is_distinct, is_within, is_new, is_short, is_task, is_assumption}
use Rattle.cgm_model.specs.WellFormed.{IsElement, IsRefinement, IsVariable, IsAssertion, IsValue, IsProperWeighing, IsRule, IsWellFormedModel}
use Rattle.cgm_model.proofs.Distinct.{unmet}
use Rattle.cgm_model.proofs.Lookups.{named_once, placed, place, named-from_thing_named, not_some-thing_named}
use Rattle.cgm_model.proofs.Refusals.{Passes, IsAllowed-passes}
use Rattle.cgm_model.proofs.Swaps.{eqb_swap}

-- ---- fronts of lists

middle_holds : {X : Type 0} (P : X → Type 0) (xs : List X) (y : X) (ys : List X) → All P (xs ++ y ∷ ys) → P y
middle_holds P [] y ys h = h 0 y (omega arith)
middle_holds P (x ∷ xs) y ys h = middle_holds P xs y ys (λ k d l. h (suc k) d (omega arith))

item_of : {X : Type 0} (P : X → Type 0) (xs ys zs : List X) (y : X) → xs ++ y ∷ ys ≡ zs → All P zs → P y
item_of P xs ys zs y e h = middle_holds P xs y ys (subst (All P) (sym e) h)

front_holds : {X : Type 0} (P : X → Type 0) (xs ys : List X) → All P (xs ++ ys) → All P xs
front_holds P [] ys h = All-nil P
front_holds P (x ∷ xs) ys h = All-cons P x xs (h 0 x (omega arith)) (front_holds P xs ys (λ k d l. h (suc k) d (omega arith)))

-- one more item in front
shift : {X : Type 0} (xs : List X) (y : X) (ys zs : List X) → xs ++ y ∷ ys ≡ zs → (xs ++ y ∷ []) ++ ys ≡ zs
shift xs y ys zs e = append_assoc xs (y ∷ []) ys ∙ e

front_short : {X : Type 0} (xs ys zs : List X) → xs ++ ys ≡ zs → length xs ≤ length zs
front_short {X} xs ys zs e = omega (arith, ap (λ (ws : List X). length ws) e, length-append xs ys)

middle_short : {X : Type 0} (xs : List X) (y : X) (ys zs : List X) → xs ++ y ∷ ys ≡ zs → length xs + 1 ≤ length zs
middle_short {X} xs y ys zs e = omega (arith, ap (λ (ws : List X). length ws) e, length-append xs (y ∷ ys))

front_named : {X : Type 0} (f : X → List ℕ) (xs ys : List X) (k : ℕ) (n : List ℕ) → slice_get (map f xs) k ≡ Some n → slice_get (map f (xs ++ ys)) k ≡ Some n
front_named f [] ys k n e = absurd (none-some n e)
front_named f (x ∷ xs) ys zero n e = e
front_named f (x ∷ xs) ys (suc k) n e = front_named f xs ys k n e

middle_named : {X : Type 0} (f : X → List ℕ) (xs : List X) (y : X) (ys : List X) → slice_get (map f (xs ++ y ∷ ys)) (length xs) ≡ Some (f y)
middle_named f [] y ys = refl
middle_named f (x ∷ xs) y ys = middle_named f xs y ys

-- the item behind these has its name at this place
named_here : {X : Type 0} (f : X → List ℕ) (xs : List X) (y : X) (ys zs : List X) → xs ++ y ∷ ys ≡ zs → slice_get (map f zs) (length xs) ≡ Some (f y)
named_here {X} f xs y ys zs e =
    subst (λ (ws : List X). slice_get (map f ws) (length xs) ≡ Some (f y)) e (middle_named f xs y ys)

-- what these name is named at another place
named_before : {X : Type 0} (f : X → List ℕ) (xs : List X) (y : X) (ys zs : List X) → xs ++ y ∷ ys ≡ zs → (k : ℕ) (n : List ℕ) → slice_get (map f xs) k ≡ Some n → (slice_get (map f zs) k ≡ Some n) × (k < length xs)
named_before {X} f xs y ys zs e k n is = (
  subst (λ (ws : List X). slice_get (map f ws) k ≡ Some n) e (front_named f xs (y ∷ ys) k n is),
  omega (arith, slice_get_within (map f xs) k n is, length-map xs f),
)

-- ---- the name of the next statement

name_fact : (P : List ℕ → Type 0) (m : Lists) (n : List ℕ) (t : Thing) → IsNamedThing m n t → All P (names m) → P n
name_fact P m n t is h =
    let p = placed m n t is in
    subst P p.named (h (place m t) [] p.within)

not_some : {X : Type 0} (x : Option X) → ((y : X) → x ≢ Some y) → not (is_some x) ≡ true
not_some None h = refl
not_some (Some y) h = absurd (h y refl)

-- what the lists before it name is something else
abbrev NamesOthers : Lists → Lists → List ℕ → Thing → Type 0
NamesOthers m p n t = (u : Thing) → IsNamedThing p n u → IsNamedThing m n u × (u ≢ t)

new_name : (m p : Lists) → IsWellFormedModel m → (n : List ℕ) (t : Thing) → IsNamedThing m n t → NamesOthers m p n t → is_new p n ≡ true
new_name m p w n t is others =
    sym (not_some-thing_named p n)
    ∙ not_some (thing_named p n) (λ u e.
    let other = others u (named-from_thing_named p n u e) in
    other.1 (named_once m w n u t other.0 is))

-- the tests of declared names
pub record NameTests (p : Lists) (ns : List (List ℕ)) : Type 0 where
  pub short : list_all is_short ns ≡ true
  pub spelled : list_all is_name ns ≡ true
  pub new : list_all (is_new p) ns ≡ true

no_name : (p : Lists) → NameTests p []
no_name p = record { short = refl; spelled = refl; new = refl }

one_name : (m p : Lists) → IsWellFormedModel m → (n : List ℕ) (t : Thing) → IsNamedThing m n t → NamesOthers m p n t → NameTests p (n ∷ [])
one_name m p w n t is others = record {
  short = and_from (is_short n) true (le-leb (length n) (limit_number limits.NameBytes) (name_fact (λ q. length q ≤ limit_number limits.NameBytes) m n t is w.names.short)) refl;
  spelled = and_from (is_name n) true (name_fact (λ q. IsTrue (is_name q)) m n t is w.names.spelled) refl;
  new = and_from (is_new p n) true (new_name m p w n t is others) refl;
}

-- ---- the counts

pub record Counts (p : Lists) (s : Statement) : Type 0 where
  pub statements : nat_lt (statement_count p) (limit_number limits.Statements) ≡ true
  pub elements : nat_le (length (added p s).elements) (limit_number limits.Elements) ≡ true
  pub refinements : nat_le (length (added p s).refinements) (limit_number limits.Refinements) ≡ true
  pub nodes : nat_le (node_total (added p s).rules) (limit_number limits.FormulaNodes) ≡ true
  pub objectives : nat_le (length (added p s).objectives) (limit_number limits.Objectives) ≡ true

counts : (m p : Lists) (s : Statement) → IsWellFormedModel m → statement_count p + 1 ≤ statement_count m → length (added p s).elements ≤ length m.elements → length (added p s).refinements ≤ length m.refinements → node_total (added p s).rules ≤ node_total m.rules → length (added p s).objectives ≤ length m.objectives → Counts p s
counts m p s w statements elements refinements nodes objectives = record {
  statements = lt-ltb (statement_count p) (limit_number limits.Statements) (omega (arith, w.limits.statements));
  elements = le-leb (length (added p s).elements) (limit_number limits.Elements) (omega (arith, w.limits.elements));
  refinements = le-leb (length (added p s).refinements) (limit_number limits.Refinements) (omega (arith, w.limits.refinements));
  nodes = le-leb (node_total (added p s).rules) (limit_number limits.FormulaNodes) (omega (arith, w.limits.formula_nodes));
  objectives = le-leb (length (added p s).objectives) (limit_number limits.Objectives) (omega (arith, w.limits.objectives));
}

front_total : (rs qs zs : List Rule) → rs ++ qs ≡ zs → node_total rs ≤ node_total zs
front_total rs qs zs e =
    let nodes : Rule → ℕ = λ r. node_count (formula_of r) in
    let split : node_total (rs ++ qs) ≡ node_total rs + node_total qs = sum_by-append nodes rs qs in
    omega (arith, split, ap node_total e)

-- ---- the tests of the next statement

in_order : (v : Variable) → v.lo ≤ℤ v.hi → int_le v.lo v.hi ≡ true
in_order v h = sym (true_is_le v.lo v.hi (omega (arith, ints)))

pub small_number : (k : ℤ) → unsigned_abs k ≤ limit_number limits.Coefficient → is_small k ≡ true
small_number k l = le-leb (unsigned_abs k) (limit_number limits.Coefficient) l

-- of one that refines nothing
pub other_passes : (p : Lists) (s : Statement) → NameTests p (declared_names s) → has_small_coefficients s ≡ true → has_small_bounds s ≡ true → has_ordered_bounds s ≡ true → source_list s ≡ [] → has_distinct_terms_each s ≡ true → has_new_interest p s ≡ true → target_kind p s ≡ None → Counts p s → Passes p s true
other_passes p s n small bounds ordered sources terms interest target c = record {
  short = n.short;
  spelled = n.spelled;
  new = n.new;
  coefficients = small;
  bounds = bounds;
  ordered = ordered;
  sources_distinct = ap is_distinct sources;
  terms_distinct = terms;
  interest = interest;
  no_task = ap (λ k. not (is_task k)) target;
  no_assumption = ap (λ k. not (is_assumption k)) target;
  acyclic = refl;
  statements = c.statements;
  elements = c.elements;
  refinements = c.refinements;
  sources = ap (λ (ns : List ℕ). is_within (length ns) limits.Sources) sources;
  nodes = c.nodes;
  objectives = c.objectives;
}

-- of one that declares nothing, refines nothing and has no numbers
pub plain_passes : (p : Lists) (s : Statement) → declared_names s ≡ [] → has_small_coefficients s ≡ true → has_small_bounds s ≡ true → has_ordered_bounds s ≡ true → source_list s ≡ [] → has_distinct_terms_each s ≡ true → has_new_interest p s ≡ true → target_kind p s ≡ None → Counts p s → Passes p s true
plain_passes p s none small bounds ordered sources terms interest target c =
    other_passes p s (subst (NameTests p) (sym none) (no_name p)) small bounds ordered sources terms interest target c

-- ---- one group after another

abbrev pub IsNext : Lists → Statement → Type 0
IsNext p s = IsProperStatement p s × IsAllowed p s

module _ {X : Type 0} (make : X → Statement) (front : List X → Lists) (grows : (xs : List X) (x : X) → added (front xs) (make x) ≡ front (xs ++ x ∷ [])) where
  stand_from : (all : List X) → ((xs : List X) (y : X) (ys : List X) → xs ++ y ∷ ys ≡ all → IsNext (front xs) (make y)) → (xs ys : List X) → xs ++ ys ≡ all → (rest : List Statement) → StatementsStandInOrder (front all) rest → StatementsStandInOrder (front xs) (map make ys ++ rest)
  stand_from all each xs [] e rest k =
      subst (λ (zs : List X). StatementsStandInOrder (front zs) rest) (sym e ∙ append-nil xs) k
  stand_from all each xs (y ∷ ys) e rest k =
      let next = stand_from all each (xs ++ y ∷ []) ys (shift xs y ys all e) rest k in
      let here = each xs y ys e in
      (here.0, here.1, subst (λ p. StatementsStandInOrder p (map make ys ++ rest)) (sym (grows xs y)) next)

  -- the statements of a group, and then these
  stand : (all : List X) → ((xs : List X) (y : X) (ys : List X) → xs ++ y ∷ ys ≡ all → IsNext (front xs) (make y)) → (rest : List Statement) → StatementsStandInOrder (front all) rest → StatementsStandInOrder (front []) (map make all ++ rest)
  stand all each rest k = stand_from all each [] all refl rest k

  give_from : (xs ys : List X) (rest : List Statement) → after (front xs) (map make ys ++ rest) ≡ after (front (xs ++ ys)) rest
  give_from xs [] rest = ap (λ (zs : List X). after (front zs) rest) (sym (append-nil xs))
  give_from xs (y ∷ ys) rest =
      ap (λ p. after p (map make ys ++ rest)) (grows xs y)
      ∙ (give_from (xs ++ y ∷ []) ys rest ∙ ap (λ (zs : List X). after (front zs) rest) (append_assoc xs (y ∷ []) ys))

  -- what they give
  give : (all : List X) (rest : List Statement) → after (front []) (map make all ++ rest) ≡ after (front all) rest
  give all rest = give_from [] all rest

-- ---- the lists before each group, with a part of the group

abbrev to_elements : Lists → List Element → Lists
to_elements m xs = lists xs [] [] [] [] [] [] [] [] [] [] [] [] [] []

abbrev to_refinements : Lists → List Refinement → Lists
to_refinements m xs = lists m.elements xs [] [] [] [] [] [] [] [] [] [] [] [] []

abbrev to_vars : Lists → List Variable → Lists
to_vars m xs = lists m.elements m.refinements xs [] [] [] [] [] [] [] [] [] [] [] []

abbrev to_sums : Lists → List Sum → Lists
to_sums m xs = lists m.elements m.refinements m.vars xs [] [] [] [] [] [] [] [] [] [] []

abbrev to_contribs : Lists → List Edge → Lists
to_contribs m xs = lists m.elements m.refinements m.vars m.sums xs [] [] [] [] [] [] [] [] [] []

abbrev to_conflicts : Lists → List Edge → Lists
to_conflicts m xs = lists m.elements m.refinements m.vars m.sums m.contribs xs [] [] [] [] [] [] [] [] []

abbrev to_binds : Lists → List Edge → Lists
to_binds m xs = lists m.elements m.refinements m.vars m.sums m.contribs m.conflicts xs [] [] [] [] [] [] [] []

abbrev to_asserts : Lists → List Assertion → Lists
to_asserts m xs = lists m.elements m.refinements m.vars m.sums m.contribs m.conflicts m.binds xs [] [] [] [] [] [] []

abbrev to_values : Lists → List SumValue → Lists
to_values m xs = lists m.elements m.refinements m.vars m.sums m.contribs m.conflicts m.binds m.asserts xs [] [] [] [] [] []

abbrev to_rewards : Lists → List Weighing → Lists
to_rewards m xs = lists m.elements m.refinements m.vars m.sums m.contribs m.conflicts m.binds m.asserts m.values xs [] [] [] [] []

abbrev to_penalties : Lists → List Weighing → Lists
to_penalties m xs = lists m.elements m.refinements m.vars m.sums m.contribs m.conflicts m.binds m.asserts m.values m.rewards xs [] [] [] []

abbrev to_prefers : Lists → List Preference → Lists
to_prefers m xs = lists m.elements m.refinements m.vars m.sums m.contribs m.conflicts m.binds m.asserts m.values m.rewards m.penalties xs [] [] []

abbrev to_rules : Lists → List Rule → Lists
to_rules m xs = lists m.elements m.refinements m.vars m.sums m.contribs m.conflicts m.binds m.asserts m.values m.rewards m.penalties m.prefers xs [] []

abbrev to_interests : Lists → List ℕ → Lists
to_interests m xs = lists m.elements m.refinements m.vars m.sums m.contribs m.conflicts m.binds m.asserts m.values m.rewards m.penalties m.prefers m.rules xs []

abbrev to_objectives : Lists → List Objective → Lists
to_objectives m xs = lists m.elements m.refinements m.vars m.sums m.contribs m.conflicts m.binds m.asserts m.values m.rewards m.penalties m.prefers m.rules m.interests xs

-- ---- group by group

others_elements : (m : Lists) (xs : List Element) (y : Element) (ys : List Element) → xs ++ y ∷ ys ≡ m.elements → NamesOthers m (to_elements m xs) y.name (things.Element (length xs))
others_elements m xs y ys e (things.Element k) is =
    let before = named_before (λ (x : Element). x.name) xs y ys m.elements e k y.name is in
    (before.0, λ same. let l = before.1 in let at : k ≡ length xs = cc in omega arith)
others_elements m xs y ys e (things.Refinement k) is = absurd (none-some y.name is)
others_elements m xs y ys e (things.Var k) is = absurd (none-some y.name is)
others_elements m xs y ys e (things.Sum k) is = absurd (none-some y.name is)

others_refinements : (m : Lists) (xs : List Refinement) (y : Refinement) (ys : List Refinement) → xs ++ y ∷ ys ≡ m.refinements → NamesOthers m (to_refinements m xs) y.name (things.Refinement (length xs))
others_refinements m xs y ys e (things.Element k) is = (is, λ same. cc)
others_refinements m xs y ys e (things.Refinement k) is =
    let before = named_before (λ (x : Refinement). x.name) xs y ys m.refinements e k y.name is in
    (before.0, λ same. let l = before.1 in let at : k ≡ length xs = cc in omega arith)
others_refinements m xs y ys e (things.Var k) is = absurd (none-some y.name is)
others_refinements m xs y ys e (things.Sum k) is = absurd (none-some y.name is)

others_vars : (m : Lists) (xs : List Variable) (y : Variable) (ys : List Variable) → xs ++ y ∷ ys ≡ m.vars → NamesOthers m (to_vars m xs) y.name (things.Var (length xs))
others_vars m xs y ys e (things.Element k) is = (is, λ same. cc)
others_vars m xs y ys e (things.Refinement k) is = (is, λ same. cc)
others_vars m xs y ys e (things.Var k) is =
    let before = named_before (λ (x : Variable). x.name) xs y ys m.vars e k y.name is in
    (before.0, λ same. let l = before.1 in let at : k ≡ length xs = cc in omega arith)
others_vars m xs y ys e (things.Sum k) is = absurd (none-some y.name is)

others_sums : (m : Lists) (xs : List Sum) (y : Sum) (ys : List Sum) → xs ++ y ∷ ys ≡ m.sums → NamesOthers m (to_sums m xs) y.name (things.Sum (length xs))
others_sums m xs y ys e (things.Element k) is = (is, λ same. cc)
others_sums m xs y ys e (things.Refinement k) is = (is, λ same. cc)
others_sums m xs y ys e (things.Var k) is = (is, λ same. cc)
others_sums m xs y ys e (things.Sum k) is =
    let before = named_before (λ (x : Sum). x.name) xs y ys m.sums e k y.name is in
    (before.0, λ same. let l = before.1 in let at : k ≡ length xs = cc in omega arith)

next_elements : (m : Lists) → IsWellFormedModel m → (xs : List Element) (y : Element) (ys : List Element) → xs ++ y ∷ ys ≡ m.elements → IsNext (to_elements m xs) (statements.Element y)
next_elements m w xs y ys e =
    let p : Lists = to_elements m xs in
    let s : Statement = statements.Element y in
    let one : IsElement y = item_of (IsElement) xs ys m.elements y e w.elements in
    let c = counts m p s w (omega (arith, middle_short xs y ys m.elements e)) (front_short (xs ++ y ∷ []) ys m.elements (shift xs y ys m.elements e)) (omega arith) (front_total [] m.rules m.rules refl) (omega arith) in
    let t : Thing = things.Element (length xs) in
    let n = one_name m p w y.name t (named_here (λ (x : Element). x.name) xs y ys m.elements e) (others_elements m xs y ys e) in
    (one, IsAllowed-passes p s ((λ x. x), λ k d l. absurd (omega arith)) (other_passes p s n refl refl refl refl refl refl refl c))

next_refinements : (m : Lists) → IsWellFormedModel m → (xs : List Refinement) (y : Refinement) (ys : List Refinement) → xs ++ y ∷ ys ≡ m.refinements → IsNext (to_refinements m xs) (statements.Refine y)
next_refinements m w xs y ys e =
    let p : Lists = to_refinements m xs in
    let s : Statement = statements.Refine y in
    let one : (IsRefinement m) y = item_of (IsRefinement m) xs ys m.refinements y e w.refinements in
    let c = counts m p s w (omega (arith, middle_short xs y ys m.refinements e)) (omega arith) (front_short (xs ++ y ∷ []) ys m.refinements (shift xs y ys m.refinements e)) (front_total [] m.rules m.rules refl) (omega arith) in
    let t : Thing = things.Refinement (length xs) in
    let n = one_name m p w y.name t (named_here (λ (x : Refinement). x.name) xs y ys m.refinements e) (others_refinements m xs y ys e) in
    let there : y.target < length m.elements = omega (arith, slice_get_within (map (λ (x : Element). x.kind) m.elements) y.target _ one.target, length-map m.elements (λ (x : Element). x.kind)) in
    let f = w.acyclic.0 in
    let keeps : Refinement → Type 0 = λ x. All (λ source. f source < f x.target) x.sources in
    let kept = front_holds keeps (xs ++ y ∷ []) ys (subst (All keeps) (sym (shift xs y ys m.refinements e)) w.acyclic.1) in
    let passes : Passes p s true = record {
      short = n.short;
      spelled = n.spelled;
      new = n.new;
      coefficients = refl;
      bounds = refl;
      ordered = refl;
      sources_distinct = one.distinct;
      terms_distinct = refl;
      interest = refl;
      no_task = ap (λ k. not (is_task k)) one.target;
      no_assumption = ap (λ k. not (is_assumption k)) one.target;
      acyclic = refl;
      statements = c.statements;
      elements = c.elements;
      refinements = c.refinements;
      sources = le-leb (length y.sources) (limit_number limits.Sources) one.few;
      nodes = c.nodes;
      objectives = c.objectives;
    } in
    ((there, one.there, one.known), IsAllowed-passes p s (f, kept) (passes))

next_vars : (m : Lists) → IsWellFormedModel m → (xs : List Variable) (y : Variable) (ys : List Variable) → xs ++ y ∷ ys ≡ m.vars → IsNext (to_vars m xs) (statements.Variable y)
next_vars m w xs y ys e =
    let p : Lists = to_vars m xs in
    let s : Statement = statements.Variable y in
    let one : IsVariable y = item_of (IsVariable) xs ys m.vars y e w.vars in
    let c = counts m p s w (omega (arith, middle_short xs y ys m.vars e)) (omega arith) (omega arith) (front_total [] m.rules m.rules refl) (omega arith) in
    let t : Thing = things.Var (length xs) in
    let n = one_name m p w y.name t (named_here (λ (x : Variable). x.name) xs y ys m.vars e) (others_vars m xs y ys e) in
    let lo = le-leb (unsigned_abs y.lo) (limit_number limits.VariableBound) one.low in
    let hi = le-leb (unsigned_abs y.hi) (limit_number limits.VariableBound) one.high in
    let small = and_from (nat_le (unsigned_abs y.lo) (limit_number limits.VariableBound)) (nat_le (unsigned_abs y.hi) (limit_number limits.VariableBound)) lo hi in
    (tt, IsAllowed-passes p s w.acyclic (other_passes p s n refl small (in_order y one.ordered) refl refl refl refl c))

next_sums : (m : Lists) → IsWellFormedModel m → (xs : List Sum) (y : Sum) (ys : List Sum) → xs ++ y ∷ ys ≡ m.sums → IsNext (to_sums m xs) (statements.Sum y)
next_sums m w xs y ys e =
    let p : Lists = to_sums m xs in
    let s : Statement = statements.Sum y in
    let c = counts m p s w (omega (arith, middle_short xs y ys m.sums e)) (omega arith) (omega arith) (front_total [] m.rules m.rules refl) (omega arith) in
    let t : Thing = things.Sum (length xs) in
    let n = one_name m p w y.name t (named_here (λ (x : Sum). x.name) xs y ys m.sums e) (others_sums m xs y ys e) in
    (tt, IsAllowed-passes p s w.acyclic (other_passes p s n refl refl refl refl refl refl refl c))

next_contribs : (m : Lists) → IsWellFormedModel m → (xs : List Edge) (y : Edge) (ys : List Edge) → xs ++ y ∷ ys ≡ m.contribs → IsNext (to_contribs m xs) (statements.Contrib y)
next_contribs m w xs y ys e =
    let p : Lists = to_contribs m xs in
    let s : Statement = statements.Contrib y in
    let one : (IsEdgeOf (length m.elements)) y = item_of (IsEdgeOf (length m.elements)) xs ys m.contribs y e w.contribs in
    let c = counts m p s w (omega (arith, middle_short xs y ys m.contribs e)) (omega arith) (omega arith) (front_total [] m.rules m.rules refl) (omega arith) in
    (one, IsAllowed-passes p s w.acyclic (plain_passes p s refl refl refl refl refl refl refl refl c))

next_conflicts : (m : Lists) → IsWellFormedModel m → (xs : List Edge) (y : Edge) (ys : List Edge) → xs ++ y ∷ ys ≡ m.conflicts → IsNext (to_conflicts m xs) (statements.Conflict y)
next_conflicts m w xs y ys e =
    let p : Lists = to_conflicts m xs in
    let s : Statement = statements.Conflict y in
    let one : (IsEdgeOf (length m.elements)) y = item_of (IsEdgeOf (length m.elements)) xs ys m.conflicts y e w.conflicts in
    let c = counts m p s w (omega (arith, middle_short xs y ys m.conflicts e)) (omega arith) (omega arith) (front_total [] m.rules m.rules refl) (omega arith) in
    (one, IsAllowed-passes p s w.acyclic (plain_passes p s refl refl refl refl refl refl refl refl c))

next_binds : (m : Lists) → IsWellFormedModel m → (xs : List Edge) (y : Edge) (ys : List Edge) → xs ++ y ∷ ys ≡ m.binds → IsNext (to_binds m xs) (statements.Bind y)
next_binds m w xs y ys e =
    let p : Lists = to_binds m xs in
    let s : Statement = statements.Bind y in
    let one : (IsEdgeOf (length m.refinements)) y = item_of (IsEdgeOf (length m.refinements)) xs ys m.binds y e w.binds in
    let c = counts m p s w (omega (arith, middle_short xs y ys m.binds e)) (omega arith) (omega arith) (front_total [] m.rules m.rules refl) (omega arith) in
    (one, IsAllowed-passes p s w.acyclic (plain_passes p s refl refl refl refl refl refl refl refl c))

next_asserts : (m : Lists) → IsWellFormedModel m → (xs : List Assertion) (y : Assertion) (ys : List Assertion) → xs ++ y ∷ ys ≡ m.asserts → IsNext (to_asserts m xs) (statements.Assert y)
next_asserts m w xs y ys e =
    let p : Lists = to_asserts m xs in
    let s : Statement = statements.Assert y in
    let one : (IsAssertion m) y = item_of (IsAssertion m) xs ys m.asserts y e w.asserts in
    let c = counts m p s w (omega (arith, middle_short xs y ys m.asserts e)) (omega arith) (omega arith) (front_total [] m.rules m.rules refl) (omega arith) in
    (one, IsAllowed-passes p s w.acyclic (plain_passes p s refl refl refl refl refl refl refl refl c))

next_values : (m : Lists) → IsWellFormedModel m → (xs : List SumValue) (y : SumValue) (ys : List SumValue) → xs ++ y ∷ ys ≡ m.values → IsNext (to_values m xs) (statements.Value y)
next_values m w xs y ys e =
    let p : Lists = to_values m xs in
    let s : Statement = statements.Value y in
    let one : (IsValue m) y = item_of (IsValue m) xs ys m.values y e w.values in
    let c = counts m p s w (omega (arith, middle_short xs y ys m.values e)) (omega arith) (omega arith) (front_total [] m.rules m.rules refl) (omega arith) in
    ((one.sum, one.of), IsAllowed-passes p s w.acyclic (plain_passes p s refl (small_number y.k one.small) refl refl refl refl refl refl c))

next_rewards : (m : Lists) → IsWellFormedModel m → (xs : List Weighing) (y : Weighing) (ys : List Weighing) → xs ++ y ∷ ys ≡ m.rewards → IsNext (to_rewards m xs) (statements.Reward y)
next_rewards m w xs y ys e =
    let p : Lists = to_rewards m xs in
    let s : Statement = statements.Reward y in
    let one : (IsProperWeighing m) y = item_of (IsProperWeighing m) xs ys m.rewards y e w.rewards in
    let c = counts m p s w (omega (arith, middle_short xs y ys m.rewards e)) (omega arith) (omega arith) (front_total [] m.rules m.rules refl) (omega arith) in
    (one.element, IsAllowed-passes p s w.acyclic (plain_passes p s refl (small_number y.k one.small) refl refl refl refl refl refl c))

next_penalties : (m : Lists) → IsWellFormedModel m → (xs : List Weighing) (y : Weighing) (ys : List Weighing) → xs ++ y ∷ ys ≡ m.penalties → IsNext (to_penalties m xs) (statements.Penalty y)
next_penalties m w xs y ys e =
    let p : Lists = to_penalties m xs in
    let s : Statement = statements.Penalty y in
    let one : (IsProperWeighing m) y = item_of (IsProperWeighing m) xs ys m.penalties y e w.penalties in
    let c = counts m p s w (omega (arith, middle_short xs y ys m.penalties e)) (omega arith) (omega arith) (front_total [] m.rules m.rules refl) (omega arith) in
    (one.element, IsAllowed-passes p s w.acyclic (plain_passes p s refl (small_number y.k one.small) refl refl refl refl refl refl c))

next_prefers : (m : Lists) → IsWellFormedModel m → (xs : List Preference) (y : Preference) (ys : List Preference) → xs ++ y ∷ ys ≡ m.prefers → IsNext (to_prefers m xs) (statements.Prefer y)
next_prefers m w xs y ys e =
    let p : Lists = to_prefers m xs in
    let s : Statement = statements.Prefer y in
    let one : (IsProperPreference m) y = item_of (IsProperPreference m) xs ys m.prefers y e w.prefers in
    let c = counts m p s w (omega (arith, middle_short xs y ys m.prefers e)) (omega arith) (omega arith) (front_total [] m.rules m.rules refl) (omega arith) in
    (one, IsAllowed-passes p s w.acyclic (plain_passes p s refl refl refl refl refl refl refl refl c))

next_rules : (m : Lists) → IsWellFormedModel m → (xs : List Rule) (y : Rule) (ys : List Rule) → xs ++ y ∷ ys ≡ m.rules → IsNext (to_rules m xs) (statements.Rule y)
next_rules m w xs y ys e =
    let p : Lists = to_rules m xs in
    let s : Statement = statements.Rule y in
    let one : (IsRule m) y = item_of (IsRule m) xs ys m.rules y e w.rules in
    let c = counts m p s w (omega (arith, middle_short xs y ys m.rules e)) (omega arith) (omega arith) (front_total (xs ++ y ∷ []) ys m.rules (shift xs y ys m.rules e)) (omega arith) in
    let proper : IsProperStatement p s = record {
      condition = one.proper.condition;
      formula = record {
        names = one.proper.formula.names;
        numbers = one.proper.formula.numbers;
        full = one.proper.formula.full;
        depth = one.proper.formula.depth;
      };
    } in
    (proper, IsAllowed-passes p s w.acyclic (plain_passes p s refl one.small refl refl refl one.distinct refl refl c))

next_interests : (m : Lists) → IsWellFormedModel m → (xs : List ℕ) (y : ℕ) (ys : List ℕ) → xs ++ y ∷ ys ≡ m.interests → IsNext (to_interests m xs) (statements.Interest y)
next_interests m w xs y ys e =
    let p : Lists = to_interests m xs in
    let s : Statement = statements.Interest y in
    let one = item_of (λ k. k < length m.elements) xs ys m.interests y e w.interests in
    let c = counts m p s w (omega (arith, middle_short xs y ys m.interests e)) (omega arith) (omega arith) (front_total m.rules [] m.rules (append-nil m.rules)) (omega arith) in
    let distinct : is_distinct (xs ++ y ∷ ys) ≡ true = subst (λ (ks : List ℕ). is_distinct ks ≡ true) (sym e) w.distinct_interests in
    let new = unmet (λ j k. j == k) eqb_swap xs ys y distinct in
    (one, IsAllowed-passes p s w.acyclic (plain_passes p s refl refl refl refl refl refl new refl c))

next_objectives : (m : Lists) → IsWellFormedModel m → (xs : List Objective) (y : Objective) (ys : List Objective) → xs ++ y ∷ ys ≡ m.objectives → IsNext (to_objectives m xs) (statements.Objective y)
next_objectives m w xs y ys e =
    let p : Lists = to_objectives m xs in
    let s : Statement = statements.Objective y in
    let one = item_of (λ (o : Objective). IsKnownQuantity m o.of) xs ys m.objectives y e w.objectives in
    let c = counts m p s w (omega (arith, middle_short xs y ys m.objectives e)) (omega arith) (omega arith) (front_total m.rules [] m.rules (append-nil m.rules)) (front_short (xs ++ y ∷ []) ys m.objectives (shift xs y ys m.objectives e)) in
    (one, IsAllowed-passes p s w.acyclic (plain_passes p s refl refl refl refl refl refl refl refl c))

-- ---- the whole

abbrev from_objectives : Lists → List Statement
from_objectives m = map (λ o. statements.Objective o) m.objectives

abbrev from_interests : Lists → List Statement
from_interests m = map (λ k. statements.Interest k) m.interests ++ from_objectives m

abbrev from_rules : Lists → List Statement
from_rules m = map (λ r. statements.Rule r) m.rules ++ from_interests m

abbrev from_prefers : Lists → List Statement
from_prefers m = map (λ p. statements.Prefer p) m.prefers ++ from_rules m

abbrev from_penalties : Lists → List Statement
from_penalties m = map (λ w. statements.Penalty w) m.penalties ++ from_prefers m

abbrev from_rewards : Lists → List Statement
from_rewards m = map (λ w. statements.Reward w) m.rewards ++ from_penalties m

abbrev from_values : Lists → List Statement
from_values m = map (λ v. statements.Value v) m.values ++ from_rewards m

abbrev from_asserts : Lists → List Statement
from_asserts m = map (λ a. statements.Assert a) m.asserts ++ from_values m

abbrev from_binds : Lists → List Statement
from_binds m = map (λ e. statements.Bind e) m.binds ++ from_asserts m

abbrev from_conflicts : Lists → List Statement
from_conflicts m = map (λ e. statements.Conflict e) m.conflicts ++ from_binds m

abbrev from_contribs : Lists → List Statement
from_contribs m = map (λ e. statements.Contrib e) m.contribs ++ from_conflicts m

abbrev from_sums : Lists → List Statement
from_sums m = map (λ x. statements.Sum x) m.sums ++ from_contribs m

abbrev from_vars : Lists → List Statement
from_vars m = map (λ v. statements.Variable v) m.vars ++ from_sums m

abbrev from_refinements : Lists → List Statement
from_refinements m = map (λ r. statements.Refine r) m.refinements ++ from_vars m

abbrev from_elements : Lists → List Statement
from_elements m = map (λ e. statements.Element e) m.elements ++ from_refinements m

pub stands_in_order : (m : Lists) → IsWellFormedModel m → StatementsStandInOrder no_lists (statements_of m)
stands_in_order m w =
    let objectives : StatementsStandInOrder (to_objectives m []) (from_objectives m) = subst (StatementsStandInOrder (to_objectives m [])) (append-nil (from_objectives m)) (stand (λ o. statements.Objective o) (to_objectives m) (λ xs x. refl) m.objectives (next_objectives m w) [] tt) in
    let interests : StatementsStandInOrder (to_interests m []) (from_interests m) = stand (λ k. statements.Interest k) (to_interests m) (λ xs x. refl) m.interests (next_interests m w) (from_objectives m) objectives in
    let rules : StatementsStandInOrder (to_rules m []) (from_rules m) = stand (λ r. statements.Rule r) (to_rules m) (λ xs x. refl) m.rules (next_rules m w) (from_interests m) interests in
    let prefers : StatementsStandInOrder (to_prefers m []) (from_prefers m) = stand (λ p. statements.Prefer p) (to_prefers m) (λ xs x. refl) m.prefers (next_prefers m w) (from_rules m) rules in
    let penalties : StatementsStandInOrder (to_penalties m []) (from_penalties m) = stand (λ w. statements.Penalty w) (to_penalties m) (λ xs x. refl) m.penalties (next_penalties m w) (from_prefers m) prefers in
    let rewards : StatementsStandInOrder (to_rewards m []) (from_rewards m) = stand (λ w. statements.Reward w) (to_rewards m) (λ xs x. refl) m.rewards (next_rewards m w) (from_penalties m) penalties in
    let values : StatementsStandInOrder (to_values m []) (from_values m) = stand (λ v. statements.Value v) (to_values m) (λ xs x. refl) m.values (next_values m w) (from_rewards m) rewards in
    let asserts : StatementsStandInOrder (to_asserts m []) (from_asserts m) = stand (λ a. statements.Assert a) (to_asserts m) (λ xs x. refl) m.asserts (next_asserts m w) (from_values m) values in
    let binds : StatementsStandInOrder (to_binds m []) (from_binds m) = stand (λ e. statements.Bind e) (to_binds m) (λ xs x. refl) m.binds (next_binds m w) (from_asserts m) asserts in
    let conflicts : StatementsStandInOrder (to_conflicts m []) (from_conflicts m) = stand (λ e. statements.Conflict e) (to_conflicts m) (λ xs x. refl) m.conflicts (next_conflicts m w) (from_binds m) binds in
    let contribs : StatementsStandInOrder (to_contribs m []) (from_contribs m) = stand (λ e. statements.Contrib e) (to_contribs m) (λ xs x. refl) m.contribs (next_contribs m w) (from_conflicts m) conflicts in
    let sums : StatementsStandInOrder (to_sums m []) (from_sums m) = stand (λ x. statements.Sum x) (to_sums m) (λ xs x. refl) m.sums (next_sums m w) (from_contribs m) contribs in
    let vars : StatementsStandInOrder (to_vars m []) (from_vars m) = stand (λ v. statements.Variable v) (to_vars m) (λ xs x. refl) m.vars (next_vars m w) (from_sums m) sums in
    let refinements : StatementsStandInOrder (to_refinements m []) (from_refinements m) = stand (λ r. statements.Refine r) (to_refinements m) (λ xs x. refl) m.refinements (next_refinements m w) (from_vars m) vars in
    stand (λ e. statements.Element e) (to_elements m) (λ xs x. refl) m.elements (next_elements m w) (from_refinements m) refinements

-- the statements of lists give these lists
pub after_all : (m : Lists) → after no_lists (statements_of m) ≡ m
after_all m =
    give (λ e. statements.Element e) (to_elements m) (λ xs x. refl) m.elements (from_refinements m)
    ∙ (give (λ r. statements.Refine r) (to_refinements m) (λ xs x. refl) m.refinements (from_vars m)
    ∙ (give (λ v. statements.Variable v) (to_vars m) (λ xs x. refl) m.vars (from_sums m)
    ∙ (give (λ x. statements.Sum x) (to_sums m) (λ xs x. refl) m.sums (from_contribs m)
    ∙ (give (λ e. statements.Contrib e) (to_contribs m) (λ xs x. refl) m.contribs (from_conflicts m)
    ∙ (give (λ e. statements.Conflict e) (to_conflicts m) (λ xs x. refl) m.conflicts (from_binds m)
    ∙ (give (λ e. statements.Bind e) (to_binds m) (λ xs x. refl) m.binds (from_asserts m)
    ∙ (give (λ a. statements.Assert a) (to_asserts m) (λ xs x. refl) m.asserts (from_values m)
    ∙ (give (λ v. statements.Value v) (to_values m) (λ xs x. refl) m.values (from_rewards m)
    ∙ (give (λ w. statements.Reward w) (to_rewards m) (λ xs x. refl) m.rewards (from_penalties m)
    ∙ (give (λ w. statements.Penalty w) (to_penalties m) (λ xs x. refl) m.penalties (from_prefers m)
    ∙ (give (λ p. statements.Prefer p) (to_prefers m) (λ xs x. refl) m.prefers (from_rules m)
    ∙ (give (λ r. statements.Rule r) (to_rules m) (λ xs x. refl) m.rules (from_interests m)
    ∙ (give (λ k. statements.Interest k) (to_interests m) (λ xs x. refl) m.interests (from_objectives m)
    ∙ (ap (after (to_objectives m [])) (sym (append-nil (from_objectives m)))
    ∙ (give (λ o. statements.Objective o) (to_objectives m) (λ xs x. refl) m.objectives [])))))))))))))))
