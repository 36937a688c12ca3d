-- Lists stay well formed where an allowed, proper statement is added.
use Rattle.std.proofs.Common.{◌≡◌, ◌≢◌, ℕ, zero, suc, ◌<◌, ◌≤◌, ◌++◌, ◌+◌, ◌==◌, ℤ, Bool, true, false, cond, ◌&&◌, not, nat_le, IsTrue, List, [], ◌∷◌, Some, length, map, get_or, slice_get, refl, sym, ◌∙◌, ap, subst, All, arith}
use Rattle.std.specs.Prelude.{unsigned_abs, int_le}
use Rattle.std.specs.List.{AllPairs, list_any}
use Rattle.std.specs.Str.{bytes_eq}
use Rattle.std.proofs.lemmas.Bool.{and_parts, not-true, leb-true, ltb-true, both_ways}
use Rattle.std.proofs.lemmas.Int.{ints}
use Rattle.std.proofs.lemmas.List.{append_assoc, append-nil, map_push, length_push, length-map}
use Rattle.std.proofs.lemmas.List.Elements.{All-append, All-cons, All-nil, All-push}
use Rattle.std.proofs.lemmas.List.Folds.{list_any_at}
use Rattle.std.proofs.lemmas.Option.{slice_get-get_or}
use Rattle.std.proofs.lemmas.Slice.Eq.{bytes_eq-Decides}
use Rattle.cgm_base.specs.declared.limit.Which.TheVariants as limits
use Rattle.cgm_base.specs.Words.{limit_number}
use Rattle.cgm_formula.specs.declared.formula.Number.{Number}
use Rattle.cgm_formula.specs.declared.formula.Number.TheVariants as number
use Rattle.cgm_formula.specs.declared.formula.Truth.{Truth}
use Rattle.cgm_formula.specs.declared.formula.Truth.TheVariants as truth
use Rattle.cgm_formula.specs.Nodes as nodes
use Rattle.cgm_model.specs.declared.lists.Edge.{Edge}
use Rattle.cgm_model.specs.declared.lists.Element.{Element}
use Rattle.cgm_model.specs.declared.lists.ElementKind.{ElementKind}
use Rattle.cgm_model.specs.declared.lists.ElementKind.TheVariants as kinds
use Rattle.cgm_model.specs.declared.lists.Lists.{Lists}
use Rattle.cgm_model.specs.declared.lists.Objective.{Objective}
use Rattle.cgm_model.specs.declared.lists.Preference.{Preference}
use Rattle.cgm_model.specs.declared.lists.Quantity.{Quantity}
use Rattle.cgm_model.specs.declared.lists.Quantity.TheVariants as quantities
use Rattle.cgm_model.specs.declared.lists.Refinement.{Refinement}
use Rattle.cgm_model.specs.declared.lists.Rule.{Rule}
use Rattle.cgm_model.specs.declared.lists.Statement.{Statement}
use Rattle.cgm_model.specs.declared.lists.Statement.TheVariants as statements
use Rattle.cgm_model.specs.declared.lists.Sum.{Sum}
use Rattle.cgm_model.specs.declared.lists.SumValue.{SumValue}
use Rattle.cgm_model.specs.declared.lists.Variable.{Variable}
use Rattle.cgm_model.specs.declared.lists.Weighing.{Weighing}
use Rattle.cgm_model.specs.Formulas.{IsKnownTruth, IsKnownNumber, formula_of, condition_names, is_small, node_total}
use Rattle.cgm_model.specs.Graph.{IsAcyclic}
use Rattle.cgm_model.specs.Lists.{added, statement_count, no_lists}
use Rattle.cgm_model.specs.Name.{is_name}
use Rattle.cgm_model.specs.Named.{names, element_names, refinement_names, variable_names, sum_names}
use Rattle.cgm_model.specs.Statement.{IsProperStatement, IsAllowed, IsEdgeOf, IsProperPreference, IsKnownQuantity, is_short, is_task, is_assumption, is_distinct}
use Rattle.cgm_model.specs.WellFormed.{AreNames, IsElement, IsRefinement, IsVariable, IsAssertion, IsValue, IsProperWeighing, IsRule, AreWithinLimits, IsWellFormedModel}
use Rattle.cgm_model.proofs.Distinct.{distinct_push}
use Rattle.cgm_model.proofs.Refusals.{Passes, Passes-none}
use Rattle.cgm_model.proofs.Swaps.{eqb_swap}

-- ---- lists with one more in the middle

All-front : {X : Type 0} (P : X → Type 0) (xs ys : List X) → All P (xs ++ ys) → All P xs
All-front P [] ys h = All-nil P
All-front P (x ∷ xs) ys h = All-cons P x xs (h 0 x (omega arith)) (All-front P xs ys (λ k d l. h (suc k) d (omega arith)))

All-back : {X : Type 0} (P : X → Type 0) (xs ys : List X) → All P (xs ++ ys) → All P ys
All-back P [] ys h = h
All-back P (x ∷ xs) ys h = All-back P xs ys (λ k d l. h (suc k) d (omega arith))

All-middle : {X : Type 0} (P : X → Type 0) (xs : List X) (y : X) (zs : List X) → All P (xs ++ zs) → P y → All P (xs ++ y ∷ zs)
All-middle P xs y zs h p =
    All-append P xs (y ∷ zs) (All-front P xs zs h) (All-cons P y zs p (All-back P xs zs h))

pairs_cons : {X : Type 0} (R : X → X → Type 0) (x : X) (xs : List X) → All (λ y. R x y) xs → AllPairs R xs → AllPairs R (x ∷ xs)
pairs_cons R x xs h t zero zero d l m = absurd (omega arith)
pairs_cons R x xs h t zero (suc j) d l m = h j d (omega arith)
pairs_cons R x xs h t (suc i) zero d l m = absurd (omega arith)
pairs_cons R x xs h t (suc i) (suc j) d l m = t i j d (omega arith) (omega arith)

pairs_head : {X : Type 0} (R : X → X → Type 0) (x : X) (xs : List X) → AllPairs R (x ∷ xs) → All (λ y. R x y) xs
pairs_head R x xs h k d l = h 0 (suc k) d (omega arith) (omega arith)

pairs_tail : {X : Type 0} (R : X → X → Type 0) (x : X) (xs : List X) → AllPairs R (x ∷ xs) → AllPairs R xs
pairs_tail R x xs h i j d l m = h (suc i) (suc j) d (omega arith) (omega arith)

pairs_middle : {X : Type 0} (R : X → X → Type 0) (xs : List X) (y : X) (zs : List X) → AllPairs R (xs ++ zs) → All (λ x. R x y) xs → All (λ z. R y z) zs → AllPairs R (xs ++ y ∷ zs)
pairs_middle R [] y zs h before after = pairs_cons R y zs after h
pairs_middle R (x ∷ xs) y zs h before after =
    let head = pairs_head R x (xs ++ zs) h in
    pairs_cons R x (xs ++ y ∷ zs)
    (All-middle (λ k. R x k) xs y zs head (before 0 x (omega arith)))
    (pairs_middle R xs y zs (pairs_tail R x (xs ++ zs) h) (λ k d l. before (suc k) d (omega arith)) after)

-- one more name
apart : (xs : List (List ℕ)) (name : List ℕ) → not (list_any (bytes_eq name) xs) ≡ true → All (λ x. name ≢ x) xs
apart xs name e k d l same =
    both_ways (list_any (bytes_eq name) xs) (not-true (list_any (bytes_eq name) xs) e)
    (list_any_at (bytes_eq name) xs k d l ((bytes_eq-Decides name (get_or xs k d)).1 same))

-- ---- names

keeps_names : (xs : List (List ℕ)) (name : List ℕ) (zs old new : List (List ℕ)) → old ≡ xs ++ zs → new ≡ xs ++ name ∷ zs → (is_short name && true) ≡ true → (is_name name && true) ≡ true → (not (list_any (bytes_eq name) old) && true) ≡ true → AreNames old → AreNames new
keeps_names xs name zs old new is_old is_now short spelled absent h =
    let least = and_parts (is_short name) true short in
    let is = and_parts (is_name name) true spelled in
    let other : All (λ x. name ≢ x) (xs ++ zs) = subst (λ ns. All (λ x. name ≢ x) ns) is_old (apart old name (and_parts (not (list_any (bytes_eq name) old)) true absent).0) in
    let before = subst AreNames is_old h in
    subst AreNames (sym is_now) (record {
      spelled = All-middle (λ n. IsTrue (is_name n)) xs name zs before.spelled is.0;
      short = All-middle (λ n. length n ≤ limit_number limits.NameBytes) xs name zs before.short (leb-true (length name) (limit_number limits.NameBytes) least.0);
      distinct = pairs_middle (λ one other. one ≢ other) xs name zs before.distinct
          (λ k d l same. All-front (λ x. name ≢ x) xs zs other k d l (sym same))
          (All-back (λ x. name ≢ x) xs zs other);
    })

element_name_last : (m : Lists) (e : Element) → names (added m (statements.Element e)) ≡ element_names m ++ e.name ∷ (refinement_names m ++ (variable_names m ++ sum_names m))
element_name_last m e =
    let later = refinement_names m ++ (variable_names m ++ sum_names m) in
    ap (λ xs. xs ++ later) (map_push (λ (x : Element). x.name) m.elements e)
    ∙ append_assoc (element_names m) (e.name ∷ []) later

refinement_name_last : (m : Lists) (r : Refinement) → names (added m (statements.Refine r)) ≡ (element_names m ++ refinement_names m) ++ r.name ∷ (variable_names m ++ sum_names m)
refinement_name_last m r =
    let later = variable_names m ++ sum_names m in
    ap (λ xs. element_names m ++ (xs ++ later)) (map_push (λ (x : Refinement). x.name) m.refinements r)
    ∙ (ap (λ xs. element_names m ++ xs) (append_assoc (refinement_names m) (r.name ∷ []) later)
    ∙ sym (append_assoc (element_names m) (refinement_names m) (r.name ∷ later)))

-- the names before the sums
abbrev earlier_names : Lists → List (List ℕ)
earlier_names m = element_names m ++ (refinement_names m ++ variable_names m)

names_split : (xs ys zs ws : List (List ℕ)) → xs ++ (ys ++ (zs ++ ws)) ≡ (xs ++ (ys ++ zs)) ++ ws
names_split xs ys zs ws =
    ap (λ ns. xs ++ ns) (sym (append_assoc ys zs ws)) ∙ sym (append_assoc xs (ys ++ zs) ws)

variable_name_last : (m : Lists) (v : Variable) → names (added m (statements.Variable v)) ≡ earlier_names m ++ v.name ∷ sum_names m
variable_name_last m v =
    ap (λ xs. element_names m ++ (refinement_names m ++ (xs ++ sum_names m))) (map_push (λ (x : Variable). x.name) m.vars v)
    ∙ (ap (λ xs. element_names m ++ (refinement_names m ++ xs)) (append_assoc (variable_names m) (v.name ∷ []) (sum_names m))
    ∙ names_split (element_names m) (refinement_names m) (variable_names m) (v.name ∷ sum_names m))

sum_name_last : (m : Lists) (x : Sum) → names (added m (statements.Sum x)) ≡ names m ++ x.name ∷ []
sum_name_last m x =
    let split = names_split (element_names m) (refinement_names m) (variable_names m) in
    ap (λ xs. element_names m ++ (refinement_names m ++ (variable_names m ++ xs))) (map_push (λ (y : Sum). y.name) m.sums x)
    ∙ (split (sum_names m ++ x.name ∷ [])
    ∙ (sym (append_assoc (earlier_names m) (sum_names m) (x.name ∷ []))
    ∙ ap (λ xs. xs ++ x.name ∷ []) (sym (split (sum_names m)))))

AreNames-added : (m : Lists) (s : Statement) → Passes m s true → AreNames (names m) → AreNames (names (added m s))
AreNames-added m (statements.Element e) p h =
    keeps_names (element_names m) e.name (refinement_names m ++ (variable_names m ++ sum_names m)) (names m) (names (added m (statements.Element e))) refl (element_name_last m e) p.short p.spelled p.new h
AreNames-added m (statements.Refine r) p h =
    keeps_names (element_names m ++ refinement_names m) r.name (variable_names m ++ sum_names m) (names m) (names (added m (statements.Refine r))) (sym (append_assoc (element_names m) (refinement_names m) (variable_names m ++ sum_names m))) (refinement_name_last m r) p.short p.spelled p.new h
AreNames-added m (statements.Variable v) p h =
    keeps_names (earlier_names m) v.name (sum_names m) (names m) (names (added m (statements.Variable v))) (names_split (element_names m) (refinement_names m) (variable_names m) (sum_names m)) (variable_name_last m v) p.short p.spelled p.new h
AreNames-added m (statements.Sum x) p h =
    keeps_names (names m) x.name [] (names m) (names (added m (statements.Sum x))) (sym (append-nil (names m))) (sum_name_last m x) p.short p.spelled p.new h
AreNames-added m (statements.Contrib e) p h = h
AreNames-added m (statements.Conflict e) p h = h
AreNames-added m (statements.Bind e) p h = h
AreNames-added m (statements.Assert a) p h = h
AreNames-added m (statements.Value v) p h = h
AreNames-added m (statements.Reward w) p h = h
AreNames-added m (statements.Penalty w) p h = h
AreNames-added m (statements.Prefer e) p h = h
AreNames-added m (statements.Rule r) p h = h
AreNames-added m (statements.Interest k) p h = h
AreNames-added m (statements.Objective o) p h = h

-- ---- what was there before is there still

slice_get-append_left : {X : Type 0} (xs ys : List X) (k : ℕ) (x : X) → slice_get xs k ≡ Some x → slice_get (xs ++ ys) k ≡ Some x
slice_get-append_left [] ys k x e = absurd cc
slice_get-append_left (y ∷ xs) ys zero x e = e
slice_get-append_left (y ∷ xs) ys (suc k) x e = slice_get-append_left xs ys k x e

abbrev kinds_of : Lists → List ElementKind
kinds_of m = map (λ (e : Element). e.kind) m.elements

-- what statements can name: the kinds of the elements, and how many there are of each thing
record Things : Type 0 where
  kinds : List ElementKind
  elements : ℕ
  refinements : ℕ
  vars : ℕ
  sums : ℕ

abbrev things_of : Lists → Things
things_of m = record {
  kinds = kinds_of m;
  elements = length m.elements;
  refinements = length m.refinements;
  vars = length m.vars;
  sums = length m.sums;
}

record Extends (old new : Things) : Type 0 where
  kinds : (k : ℕ) → slice_get old.kinds k ≡ Some kinds.Goal → slice_get new.kinds k ≡ Some kinds.Goal
  elements : old.elements ≤ new.elements
  refinements : old.refinements ≤ new.refinements
  vars : old.vars ≤ new.vars
  sums : old.sums ≤ new.sums

Extends-same : (things : Things) → Extends things things
Extends-same things = record {
  kinds = λ k is. is;
  elements = omega arith;
  refinements = omega arith;
  vars = omega arith;
  sums = omega arith;
}

Extends-added : (m : Lists) (s : Statement) → Extends (things_of m) (things_of (added m s))
Extends-added m (statements.Element e) = record {
  kinds = λ k is. rw (map_push (λ (x : Element). x.kind) m.elements e) (slice_get-append_left (kinds_of m) (e.kind ∷ []) k kinds.Goal is);
  elements = omega (arith, length_push m.elements e);
  refinements = omega arith;
  vars = omega arith;
  sums = omega arith;
}
Extends-added m (statements.Refine r) = record {
  kinds = λ k is. is;
  elements = omega arith;
  refinements = omega (arith, length_push m.refinements r);
  vars = omega arith;
  sums = omega arith;
}
Extends-added m (statements.Variable v) = record {
  kinds = λ k is. is;
  elements = omega arith;
  refinements = omega arith;
  vars = omega (arith, length_push m.vars v);
  sums = omega arith;
}
Extends-added m (statements.Sum x) = record {
  kinds = λ k is. is;
  elements = omega arith;
  refinements = omega arith;
  vars = omega arith;
  sums = omega (arith, length_push m.sums x);
}
Extends-added m (statements.Contrib e) = Extends-same (things_of m)
Extends-added m (statements.Conflict e) = Extends-same (things_of m)
Extends-added m (statements.Bind e) = Extends-same (things_of m)
Extends-added m (statements.Assert a) = Extends-same (things_of m)
Extends-added m (statements.Value v) = Extends-same (things_of m)
Extends-added m (statements.Reward w) = Extends-same (things_of m)
Extends-added m (statements.Penalty w) = Extends-same (things_of m)
Extends-added m (statements.Prefer p) = Extends-same (things_of m)
Extends-added m (statements.Rule r) = Extends-same (things_of m)
Extends-added m (statements.Interest k) = Extends-same (things_of m)
Extends-added m (statements.Objective o) = Extends-same (things_of m)

module _ (old new : Lists) (x : Extends (things_of old) (things_of new)) where
  IsKnownTruth-kept : (name : Truth) → IsKnownTruth old name → IsKnownTruth new name
  IsKnownTruth-kept (truth.Element k) h = omega (arith, x.elements)
  IsKnownTruth-kept (truth.Refinement k) h = omega (arith, x.refinements)

  IsKnownNumber-kept : (of : Number) → IsKnownNumber old of → IsKnownNumber new of
  IsKnownNumber-kept (number.Var k) h = omega (arith, x.vars)
  IsKnownNumber-kept (number.Sum k) h = omega (arith, x.sums)

  IsKnownQuantity-kept : (of : Quantity) → IsKnownQuantity old of → IsKnownQuantity new of
  IsKnownQuantity-kept (quantities.Var k) h = omega (arith, x.vars)
  IsKnownQuantity-kept (quantities.Sum k) h = omega (arith, x.sums)
  IsKnownQuantity-kept quantities.Weight h = h
  IsKnownQuantity-kept quantities.UnsatPrefs h = h
  IsKnownQuantity-kept quantities.UnsatReqs h = h
  IsKnownQuantity-kept quantities.SatTasks h = h
  IsKnownQuantity-kept quantities.Familiarity h = h
  IsKnownQuantity-kept quantities.Effort h = h

  IsRefinement-kept : (r : Refinement) → IsRefinement old r → IsRefinement new r
  IsRefinement-kept r h = record {
    target = x.kinds r.target h.target;
    known = λ k d l. let less = h.known k d l in omega (arith, x.elements);
    there = h.there;
    few = h.few;
    distinct = h.distinct;
  }

  IsValue-kept : (v : SumValue) → IsValue old v → IsValue new v
  IsValue-kept v h = record {
    sum = omega (arith, h.sum, x.sums);
    of = IsKnownTruth-kept v.of h.of;
    small = h.small;
  }

  IsWeighing-kept : (w : Weighing) → IsProperWeighing old w → IsProperWeighing new w
  IsWeighing-kept w h = record {
    element = omega (arith, h.element, x.elements);
    small = h.small;
  }

  IsPreference-kept : (p : Preference) → IsProperPreference old p → IsProperPreference new p
  IsPreference-kept p h = (IsKnownTruth-kept p.better h.0, IsKnownTruth-kept p.worse h.1)

  IsRule-kept : (r : Rule) → IsRule old r → IsRule new r
  IsRule-kept r h = record {
    proper = record {
      condition = λ k d l. IsKnownTruth-kept (get_or (condition_names r) k d) (h.proper.condition k d l);
      formula = record {
        names = λ k d l. IsKnownTruth-kept (get_or (nodes.formula_names (formula_of r)) k d) (h.proper.formula.names k d l);
        numbers = λ k d l j e m. IsKnownNumber-kept (get_or (get_or (nodes.comparisons (formula_of r)) k d).0.terms j e).1 (h.proper.formula.numbers k d l j e m);
        full = h.proper.formula.full;
        depth = h.proper.formula.depth;
      };
    };
    small = h.small;
    distinct = h.distinct;
  }

  IsElementEdge-kept : (e : Edge) → IsEdgeOf (length old.elements) e → IsEdgeOf (length new.elements) e
  IsElementEdge-kept e h = (omega (arith, h.0, x.elements), omega (arith, h.1, x.elements))

  IsRefinementEdge-kept : (e : Edge) → IsEdgeOf (length old.refinements) e → IsEdgeOf (length new.refinements) e
  IsRefinementEdge-kept e h = (omega (arith, h.0, x.refinements), omega (arith, h.1, x.refinements))

-- ---- the groups of the second lists, as the first lists see them

record AreGroups (ctx m : Lists) : Type 0 where
  elements : All (IsElement) m.elements
  refinements : All (IsRefinement ctx) m.refinements
  vars : All (IsVariable) m.vars
  contribs : All (IsEdgeOf (length ctx.elements)) m.contribs
  conflicts : All (IsEdgeOf (length ctx.elements)) m.conflicts
  binds : All (IsEdgeOf (length ctx.refinements)) m.binds
  asserts : All (IsAssertion ctx) m.asserts
  values : All (IsValue ctx) m.values
  rewards : All (IsProperWeighing ctx) m.rewards
  penalties : All (IsProperWeighing ctx) m.penalties
  prefers : All (IsProperPreference ctx) m.prefers
  rules : All (IsRule ctx) m.rules
  interests : All (λ k. k < length ctx.elements) m.interests
  distinct_interests : IsTrue (is_distinct m.interests)
  objectives : All (λ o. IsKnownQuantity ctx o.of) m.objectives

AreGroups-kept : (old new m : Lists) → Extends (things_of old) (things_of new) → AreGroups old m → AreGroups new m
AreGroups-kept old new m x g = record {
  elements = g.elements;
  refinements = λ k d l. IsRefinement-kept old new x (get_or m.refinements k d) (g.refinements k d l);
  vars = g.vars;
  contribs = λ k d l. IsElementEdge-kept old new x (get_or m.contribs k d) (g.contribs k d l);
  conflicts = λ k d l. IsElementEdge-kept old new x (get_or m.conflicts k d) (g.conflicts k d l);
  binds = λ k d l. IsRefinementEdge-kept old new x (get_or m.binds k d) (g.binds k d l);
  asserts = λ k d l. let less = g.asserts k d l in omega (arith, x.elements);
  values = λ k d l. IsValue-kept old new x (get_or m.values k d) (g.values k d l);
  rewards = λ k d l. IsWeighing-kept old new x (get_or m.rewards k d) (g.rewards k d l);
  penalties = λ k d l. IsWeighing-kept old new x (get_or m.penalties k d) (g.penalties k d l);
  prefers = λ k d l. IsPreference-kept old new x (get_or m.prefers k d) (g.prefers k d l);
  rules = λ k d l. IsRule-kept old new x (get_or m.rules k d) (g.rules k d l);
  interests = λ k d l. let less = g.interests k d l in omega (arith, x.elements);
  distinct_interests = g.distinct_interests;
  objectives = λ k d l. IsKnownQuantity-kept old new x (get_or m.objectives k d).of (g.objectives k d l);
}

-- the statement is one of its kind, and one more beside the others
abbrev IsNew : Lists → Lists → Statement → Type 0
IsNew ctx m (statements.Element e) = IsElement e
IsNew ctx m (statements.Refine r) = IsRefinement ctx r
IsNew ctx m (statements.Variable v) = IsVariable v
IsNew ctx m (statements.Sum x) = Unit {0}
IsNew ctx m (statements.Contrib e) = IsEdgeOf (length ctx.elements) e
IsNew ctx m (statements.Conflict e) = IsEdgeOf (length ctx.elements) e
IsNew ctx m (statements.Bind e) = IsEdgeOf (length ctx.refinements) e
IsNew ctx m (statements.Assert a) = IsAssertion ctx a
IsNew ctx m (statements.Value v) = IsValue ctx v
IsNew ctx m (statements.Reward w) = IsProperWeighing ctx w
IsNew ctx m (statements.Penalty w) = IsProperWeighing ctx w
IsNew ctx m (statements.Prefer p) = IsProperPreference ctx p
IsNew ctx m (statements.Rule r) = IsRule ctx r
IsNew ctx m (statements.Interest k) = (k < length ctx.elements) × (list_any (λ j. j == k) m.interests ≡ false)
IsNew ctx m (statements.Objective o) = IsKnownQuantity ctx o.of

groups : (ctx m : Lists) → All (IsElement) m.elements → All (IsRefinement ctx) m.refinements → All (IsVariable) m.vars → All (IsEdgeOf (length ctx.elements)) m.contribs → All (IsEdgeOf (length ctx.elements)) m.conflicts → All (IsEdgeOf (length ctx.refinements)) m.binds → All (IsAssertion ctx) m.asserts → All (IsValue ctx) m.values → All (IsProperWeighing ctx) m.rewards → All (IsProperWeighing ctx) m.penalties → All (IsProperPreference ctx) m.prefers → All (IsRule ctx) m.rules → All (λ k. k < length ctx.elements) m.interests → IsTrue (is_distinct m.interests) → All (λ o. IsKnownQuantity ctx o.of) m.objectives → AreGroups ctx m
groups ctx m elements refinements vars contribs conflicts binds asserts values rewards penalties prefers rules interests distinct_interests objectives = record {
  elements = elements;
  refinements = refinements;
  vars = vars;
  contribs = contribs;
  conflicts = conflicts;
  binds = binds;
  asserts = asserts;
  values = values;
  rewards = rewards;
  penalties = penalties;
  prefers = prefers;
  rules = rules;
  interests = interests;
  distinct_interests = distinct_interests;
  objectives = objectives;
}

AreGroups-added : (ctx m : Lists) (s : Statement) → AreGroups ctx m → IsNew ctx m s → AreGroups ctx (added m s)
AreGroups-added ctx m (statements.Element e) g n =
    groups ctx (added m (statements.Element e)) (All-push (IsElement) m.elements e g.elements n) g.refinements g.vars g.contribs g.conflicts g.binds g.asserts g.values g.rewards g.penalties g.prefers g.rules g.interests g.distinct_interests g.objectives
AreGroups-added ctx m (statements.Refine r) g n =
    groups ctx (added m (statements.Refine r)) g.elements (All-push (IsRefinement ctx) m.refinements r g.refinements n) g.vars g.contribs g.conflicts g.binds g.asserts g.values g.rewards g.penalties g.prefers g.rules g.interests g.distinct_interests g.objectives
AreGroups-added ctx m (statements.Variable v) g n =
    groups ctx (added m (statements.Variable v)) g.elements g.refinements (All-push (IsVariable) m.vars v g.vars n) g.contribs g.conflicts g.binds g.asserts g.values g.rewards g.penalties g.prefers g.rules g.interests g.distinct_interests g.objectives
AreGroups-added ctx m (statements.Sum x) g n =
    groups ctx (added m (statements.Sum x)) g.elements g.refinements g.vars g.contribs g.conflicts g.binds g.asserts g.values g.rewards g.penalties g.prefers g.rules g.interests g.distinct_interests g.objectives
AreGroups-added ctx m (statements.Contrib e) g n =
    groups ctx (added m (statements.Contrib e)) g.elements g.refinements g.vars (All-push (IsEdgeOf (length ctx.elements)) m.contribs e g.contribs n) g.conflicts g.binds g.asserts g.values g.rewards g.penalties g.prefers g.rules g.interests g.distinct_interests g.objectives
AreGroups-added ctx m (statements.Conflict e) g n =
    groups ctx (added m (statements.Conflict e)) g.elements g.refinements g.vars g.contribs (All-push (IsEdgeOf (length ctx.elements)) m.conflicts e g.conflicts n) g.binds g.asserts g.values g.rewards g.penalties g.prefers g.rules g.interests g.distinct_interests g.objectives
AreGroups-added ctx m (statements.Bind e) g n =
    groups ctx (added m (statements.Bind e)) g.elements g.refinements g.vars g.contribs g.conflicts (All-push (IsEdgeOf (length ctx.refinements)) m.binds e g.binds n) g.asserts g.values g.rewards g.penalties g.prefers g.rules g.interests g.distinct_interests g.objectives
AreGroups-added ctx m (statements.Assert a) g n =
    groups ctx (added m (statements.Assert a)) g.elements g.refinements g.vars g.contribs g.conflicts g.binds (All-push (IsAssertion ctx) m.asserts a g.asserts n) g.values g.rewards g.penalties g.prefers g.rules g.interests g.distinct_interests g.objectives
AreGroups-added ctx m (statements.Value v) g n =
    groups ctx (added m (statements.Value v)) g.elements g.refinements g.vars g.contribs g.conflicts g.binds g.asserts (All-push (IsValue ctx) m.values v g.values n) g.rewards g.penalties g.prefers g.rules g.interests g.distinct_interests g.objectives
AreGroups-added ctx m (statements.Reward w) g n =
    groups ctx (added m (statements.Reward w)) g.elements g.refinements g.vars g.contribs g.conflicts g.binds g.asserts g.values (All-push (IsProperWeighing ctx) m.rewards w g.rewards n) g.penalties g.prefers g.rules g.interests g.distinct_interests g.objectives
AreGroups-added ctx m (statements.Penalty w) g n =
    groups ctx (added m (statements.Penalty w)) g.elements g.refinements g.vars g.contribs g.conflicts g.binds g.asserts g.values g.rewards (All-push (IsProperWeighing ctx) m.penalties w g.penalties n) g.prefers g.rules g.interests g.distinct_interests g.objectives
AreGroups-added ctx m (statements.Prefer p) g n =
    groups ctx (added m (statements.Prefer p)) g.elements g.refinements g.vars g.contribs g.conflicts g.binds g.asserts g.values g.rewards g.penalties (All-push (IsProperPreference ctx) m.prefers p g.prefers n) g.rules g.interests g.distinct_interests g.objectives
AreGroups-added ctx m (statements.Rule r) g n =
    groups ctx (added m (statements.Rule r)) g.elements g.refinements g.vars g.contribs g.conflicts g.binds g.asserts g.values g.rewards g.penalties g.prefers (All-push (IsRule ctx) m.rules r g.rules n) g.interests g.distinct_interests g.objectives
AreGroups-added ctx m (statements.Interest k) g n =
    groups ctx (added m (statements.Interest k)) g.elements g.refinements g.vars g.contribs g.conflicts g.binds g.asserts g.values g.rewards g.penalties g.prefers g.rules (All-push (λ j. j < length ctx.elements) m.interests k g.interests n.0) (distinct_push (λ y x. y == x) eqb_swap m.interests k g.distinct_interests n.1) g.objectives
AreGroups-added ctx m (statements.Objective o) g n =
    groups ctx (added m (statements.Objective o)) g.elements g.refinements g.vars g.contribs g.conflicts g.binds g.asserts g.values g.rewards g.penalties g.prefers g.rules g.interests g.distinct_interests (All-push (λ (p : Objective). IsKnownQuantity ctx p.of) m.objectives o g.objectives n)

goal_kind : (kind : ElementKind) → not (is_task (Some kind)) ≡ true → not (is_assumption (Some kind)) ≡ true → Some kind ≡ Some kinds.Goal
goal_kind kinds.Goal task assumption = refl
goal_kind kinds.Task task assumption = absurd cc
goal_kind kinds.Assume task assumption = absurd cc

target_goal : (m : Lists) (r : Refinement) → r.target < length m.elements → Passes m (statements.Refine r) true → slice_get (kinds_of m) r.target ≡ Some kinds.Goal
target_goal m r l p =
    let xs : List ElementKind = kinds_of m in
    let at : slice_get xs r.target ≡ Some (get_or xs r.target kinds.Goal) = slice_get-get_or xs r.target kinds.Goal (omega (arith, length-map m.elements (λ (x : Element). x.kind))) in
    at
    ∙ goal_kind (get_or xs r.target kinds.Goal) (rw at at p.no_task) (rw at at p.no_assumption)

small_number : (k : ℤ) → is_small k ≡ true → unsigned_abs k ≤ limit_number limits.Coefficient
small_number k e = leb-true (unsigned_abs k) (limit_number limits.Coefficient) e

IsNew-passed : (m : Lists) (s : Statement) → IsProperStatement m s → Passes m s true → IsNew m m s
IsNew-passed m (statements.Element e) proper p = proper
IsNew-passed m (statements.Refine r) proper p = record {
  target = target_goal m r proper.0 p;
  known = proper.2;
  there = proper.1;
  few = leb-true (length r.sources) (limit_number limits.Sources) p.sources;
  distinct = p.sources_distinct;
}
IsNew-passed m (statements.Variable v) proper p =
    let both = and_parts (nat_le (unsigned_abs v.lo) (limit_number limits.VariableBound)) (nat_le (unsigned_abs v.hi) (limit_number limits.VariableBound)) p.bounds in
    let in_order : int_le v.lo v.hi ≡ true = p.ordered in
    record {
      low = leb-true (unsigned_abs v.lo) (limit_number limits.VariableBound) both.0;
      high = leb-true (unsigned_abs v.hi) (limit_number limits.VariableBound) both.1;
      ordered = omega (arith, ints, in_order);
    }
IsNew-passed m (statements.Sum x) proper p = tt
IsNew-passed m (statements.Contrib e) proper p = proper
IsNew-passed m (statements.Conflict e) proper p = proper
IsNew-passed m (statements.Bind e) proper p = proper
IsNew-passed m (statements.Assert a) proper p = proper
IsNew-passed m (statements.Value v) proper p = record {
  sum = proper.0;
  of = proper.1;
  small = small_number v.k p.coefficients;
}
IsNew-passed m (statements.Reward w) proper p = record { element = proper; small = small_number w.k p.coefficients }
IsNew-passed m (statements.Penalty w) proper p = record { element = proper; small = small_number w.k p.coefficients }
IsNew-passed m (statements.Prefer e) proper p = proper
IsNew-passed m (statements.Rule r) proper p = record {
  proper = proper;
  small = p.coefficients;
  distinct = p.terms_distinct;
}
IsNew-passed m (statements.Interest k) proper p =
    (proper, not-true (list_any (λ j. j == k) m.interests) p.interest)
IsNew-passed m (statements.Objective o) proper p = proper

-- ---- the whole

pub statement_count-added : (m : Lists) (s : Statement) → statement_count (added m s) ≡ statement_count m + 1
statement_count-added m (statements.Element e) = omega (arith, length_push m.elements e)
statement_count-added m (statements.Refine r) = omega (arith, length_push m.refinements r)
statement_count-added m (statements.Variable v) = omega (arith, length_push m.vars v)
statement_count-added m (statements.Sum x) = omega (arith, length_push m.sums x)
statement_count-added m (statements.Contrib e) = omega (arith, length_push m.contribs e)
statement_count-added m (statements.Conflict e) = omega (arith, length_push m.conflicts e)
statement_count-added m (statements.Bind e) = omega (arith, length_push m.binds e)
statement_count-added m (statements.Assert a) = omega (arith, length_push m.asserts a)
statement_count-added m (statements.Value v) = omega (arith, length_push m.values v)
statement_count-added m (statements.Reward w) = omega (arith, length_push m.rewards w)
statement_count-added m (statements.Penalty w) = omega (arith, length_push m.penalties w)
statement_count-added m (statements.Prefer p) = omega (arith, length_push m.prefers p)
statement_count-added m (statements.Rule r) = omega (arith, length_push m.rules r)
statement_count-added m (statements.Interest k) = omega (arith, length_push m.interests k)
statement_count-added m (statements.Objective o) = omega (arith, length_push m.objectives o)

AreGroups-of : (m : Lists) → IsWellFormedModel m → AreGroups m m
AreGroups-of m w = record {
  elements = w.elements;
  refinements = w.refinements;
  vars = w.vars;
  contribs = w.contribs;
  conflicts = w.conflicts;
  binds = w.binds;
  asserts = w.asserts;
  values = w.values;
  rewards = w.rewards;
  penalties = w.penalties;
  prefers = w.prefers;
  rules = w.rules;
  interests = w.interests;
  distinct_interests = w.distinct_interests;
  objectives = w.objectives;
}

IsWellFormed-groups : (m : Lists) → AreGroups m m → AreNames (names m) → IsAcyclic m.refinements → AreWithinLimits m → IsWellFormedModel m
IsWellFormed-groups m g n acyclic within = record {
  names = n;
  elements = g.elements;
  refinements = g.refinements;
  acyclic = acyclic;
  vars = g.vars;
  contribs = g.contribs;
  conflicts = g.conflicts;
  binds = g.binds;
  asserts = g.asserts;
  values = g.values;
  rewards = g.rewards;
  penalties = g.penalties;
  prefers = g.prefers;
  rules = g.rules;
  interests = g.interests;
  distinct_interests = g.distinct_interests;
  objectives = g.objectives;
  limits = within;
}

pub IsWellFormed-added : (m : Lists) (s : Statement) → IsWellFormedModel m → IsProperStatement m s → IsAllowed m s → IsWellFormedModel (added m s)
IsWellFormed-added m s w proper allowed =
    let p = Passes-none m s true allowed.passes in
    let new = added m s in
    let groups = AreGroups-added m m s (AreGroups-of m w) (IsNew-passed m s proper p) in
    IsWellFormed-groups new (AreGroups-kept m new new (Extends-added m s) groups) (AreNames-added m s p w.names) allowed.acyclic
    (record {
      statements = omega (arith, statement_count-added m s, ltb-true (statement_count m) (limit_number limits.Statements) p.statements);
      elements = leb-true (length new.elements) (limit_number limits.Elements) p.elements;
      refinements = leb-true (length new.refinements) (limit_number limits.Refinements) p.refinements;
      formula_nodes = leb-true (node_total new.rules) (limit_number limits.FormulaNodes) p.nodes;
      objectives = leb-true (length new.objectives) (limit_number limits.Objectives) p.objectives;
    })

pub IsWellFormed-none : IsWellFormedModel no_lists
IsWellFormed-none = record {
  names = record {
    spelled = All-nil (λ n. IsTrue (is_name n));
    short = All-nil (λ n. length n ≤ limit_number limits.NameBytes);
    distinct = λ i j d l m. absurd (omega arith);
  };
  elements = λ k d l. absurd (omega arith);
  refinements = λ k d l. absurd (omega arith);
  vars = λ k d l. absurd (omega arith);
  contribs = λ k d l. absurd (omega arith);
  conflicts = λ k d l. absurd (omega arith);
  binds = λ k d l. absurd (omega arith);
  asserts = λ k d l. absurd (omega arith);
  values = λ k d l. absurd (omega arith);
  rewards = λ k d l. absurd (omega arith);
  penalties = λ k d l. absurd (omega arith);
  prefers = λ k d l. absurd (omega arith);
  rules = λ k d l. absurd (omega arith);
  interests = λ k d l. absurd (omega arith);
  distinct_interests = refl;
  objectives = λ k d l. absurd (omega arith);
  acyclic = ((λ x. x), λ k d l. absurd (omega arith));
  limits = record {
    statements = omega arith;
    elements = omega arith;
    refinements = omega arith;
    formula_nodes = omega arith;
    objectives = omega arith;
  };
}

-- the lists with the statement, or as they were
pub IsWellFormed-after : (stands : Bool) (m : Lists) (s : Statement) (new : Lists) → new ≡ cond stands (added m s) m → IsWellFormedModel m → IsProperStatement m s → IsAllowed m s → IsWellFormedModel new
IsWellFormed-after true m s new e w proper allowed =
    subst IsWellFormedModel (sym e) (IsWellFormed-added m s w proper allowed)
IsWellFormed-after false m s new e w proper allowed = subst IsWellFormedModel (sym e) w
