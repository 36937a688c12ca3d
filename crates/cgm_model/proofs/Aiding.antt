-- The builder's aids stay true to its lists: names, graph, room for nodes and marks of interest, over each kind of change.
use Rattle.std.proofs.Common.{◌≡◌, Result, Ok, Err, OnOk, is_ok, ℕ, zero, suc, ◌+◌, ◌≤◌, ◌<◌, ◌++◌, ◌⊎◌, inl, inr, Bool, true, false, cond, not, ◌||◌, ◌==◌, get_or, set, Vec, Global, List, [], ◌∷◌, Option, None, Some, length, map, slice_get, refl, sym, ◌∙◌, ap, subst, arith, ⊎_elim, MatchOption}
use Rattle.std.specs.List.{list_any}
use Rattle.std.specs.Option.{is_some, unwrap_or}
use Rattle.std.specs.Str.{bytes_eq}
use Rattle.std.proofs.Math.Bool.{or-false}
use Rattle.std.proofs.lemmas.Bool.{false≢true, or_left, or_right, eq-eqb, ne_eqb, cases_eq}
use Rattle.std.proofs.lemmas.List.{map_push, length_push, length-map, length-set, get_or-set_same, get_or-set_other}
use Rattle.std.proofs.lemmas.List.Folds.{list_any-append}
use Rattle.std.proofs.lemmas.List.Sums.{sum_by-append, sum_by-cons}
use Rattle.std.proofs.lemmas.Option.{none-some, same_Some}
use Rattle.std.proofs.lemmas.Slice.Eq.{bytes_eq-Decides}
use Rattle.cgm_base.specs.declared.limit.Which.TheVariants as limits
use Rattle.cgm_base.specs.Words.{limit_number}
use Rattle.cgm_formula.specs.Nodes.{node_count}
use Rattle.cgm_model.specs.declared.aids.Aids.{Aids}
use Rattle.cgm_model.specs.declared.graph.Graph.{Graph}
use Rattle.cgm_model.specs.declared.lists.Element.{Element}
use Rattle.cgm_model.specs.declared.lists.Lists.{Lists}
use Rattle.cgm_model.specs.declared.lists.Refinement.{Refinement}
use Rattle.cgm_model.specs.declared.lists.Rule.{Rule}
use Rattle.cgm_model.specs.declared.lists.Statement.TheVariants as statements
use Rattle.cgm_model.specs.declared.lists.Thing.{Thing}
use Rattle.cgm_model.specs.declared.lists.Thing.TheVariants as things
use Rattle.cgm_model.specs.declared.lists.Sum.{Sum}
use Rattle.cgm_model.specs.declared.lists.Variable.{Variable}
use Rattle.cgm_model.specs.declared.names.NameTable.{NameTable}
use Rattle.cgm_model.specs.Formulas.{formula_of, node_total}
use Rattle.cgm_model.specs.Keeping.{AreFor, HasGraphRoom}
use Rattle.cgm_model.specs.Lists.{added, no_lists}
use Rattle.cgm_model.specs.Named.{IsNamedThing, thing_named}
use Rattle.cgm_model.specs.NameTable.{thing_found}
use Rattle.cgm_model.specs.Statement.{is_new}
use Rattle.cgm_model.specs.TargetIndex.{IsTargetIndexOf, HasTargetRoomFor}
use Rattle.cgm_model.proofs.Lookups.{thing_named-is_some, not_some-thing_named}

-- ---- the lists stay

-- more room changes nothing that the aids say
pub AreFor-graph : (m : Lists) (old : Aids) (g : Graph) → ((rs : List Refinement) → IsTargetIndexOf rs old.graph → IsTargetIndexOf rs g) → ((count : ℕ) → HasTargetRoomFor count old.graph → HasTargetRoomFor count g) → AreFor m old → AreFor m (record old { graph = g })
AreFor-graph m old g kept room h = record {
  names = h.names;
  graph = kept m.refinements h.graph;
  room = record { graph = room (length m.elements) h.room.graph; interests = h.room.interests };
  nodes = h.nodes;
  interests = h.interests;
}

marked_push : (marks : List Bool) (k : ℕ) → get_or (marks ++ false ∷ []) k false ≡ get_or marks k false
marked_push [] zero = refl
marked_push [] (suc k) = refl
marked_push (b ∷ marks) zero = refl
marked_push (b ∷ marks) (suc k) = marked_push marks k

-- the marks with one more, or as they were
pub AreFor-marks : (m : Lists) (old : Aids) (marks : Vec Bool Global) (ok : Bool) → marks.items ≡ cond ok (old.interests.items ++ false ∷ []) old.interests.items → AreFor m old → AreFor m (record old { interests = marks })
AreFor-marks m old marks true is h = record {
  names = h.names;
  graph = h.graph;
  room = record {
    graph = h.room.graph;
    interests = omega (arith, h.room.interests, ap (λ (bs : List Bool). length bs) is, length_push old.interests.items false);
  };
  nodes = h.nodes;
  interests = λ k. ap (λ (bs : List Bool). get_or bs k false) is ∙ (marked_push old.interests.items k ∙ h.interests k);
}
AreFor-marks m old marks false is h = record {
  names = h.names;
  graph = h.graph;
  room = record {
    graph = h.room.graph;
    interests = omega (arith, h.room.interests, ap (λ (bs : List Bool). length bs) is);
  };
  nodes = h.nodes;
  interests = λ k. ap (λ (bs : List Bool). get_or bs k false) is ∙ h.interests k;
}

pub AreFor-names : (m : Lists) (old : Aids) (names : NameTable) → ((q : List ℕ) → thing_found names q ≡ thing_found old.names q) → AreFor m old → AreFor m (record old { names = names })
AreFor-names m old names same h = record {
  names = λ q t is. same q ∙ h.names q t is;
  graph = h.graph;
  room = record { graph = h.room.graph; interests = h.room.interests };
  nodes = h.nodes;
  interests = h.interests;
}

-- ---- a name more

not_none : {X : Type 0} (x : Option X) → not (is_some x) ≡ true → x ≡ None
not_none None e = refl
not_none (Some x) e = absurd (false≢true e)

-- a new name stands for nothing
new_apart : (m : Lists) (name q : List ℕ) (t : Thing) → is_new m name ≡ true → IsNamedThing m q t → bytes_eq q name ≡ true → ⊥
new_apart m name q t new is same =
    let one : q ≡ name = (bytes_eq-Decides q name).0 same in
    thing_named-is_some m q t is (ap (thing_named m) one ∙ not_none (thing_named m name) (not_some-thing_named m name ∙ new))

chosen : (b : Bool) (x y : Option Thing) → (b ≡ true → ⊥) → cond b x y ≡ y
chosen true x y h = absurd (h refl)
chosen false x y h = refl

names_kept : (m : Lists) (name : List ℕ) (t : Thing) (old new : NameTable) → ((q : List ℕ) → thing_found new q ≡ cond (bytes_eq q name) (Some t) (thing_found old q)) → is_new m name ≡ true → (q : List ℕ) (u : Thing) → IsNamedThing m q u → thing_found old q ≡ Some u → thing_found new q ≡ Some u
names_kept m name t old new set fresh q u is h =
    set q ∙ (chosen (bytes_eq q name) (Some t) (thing_found old q) (new_apart m name q u fresh is) ∙ h)

name_here : (name : List ℕ) (t : Thing) (old new : NameTable) → ((q : List ℕ) → thing_found new q ≡ cond (bytes_eq q name) (Some t) (thing_found old q)) → (q : List ℕ) → q ≡ name → thing_found new q ≡ Some t
name_here name t old new set q same =
    set q ∙ ap (λ b. cond b (Some t) (thing_found old q)) ((bytes_eq-Decides q name).1 same)

pub AreFor-declared : (m : Lists) (name : List ℕ) (t : Thing) (old : Aids) (names : NameTable) → ((q : List ℕ) → thing_found names q ≡ cond (bytes_eq q name) (Some t) (thing_found old.names q)) → is_new m name ≡ true → AreFor m old → AreFor m (record old { names = names })
AreFor-declared m name t old names set fresh h = record {
  names = λ q u is. names_kept m name t old.names names set fresh q u is (h.names q u is);
  graph = h.graph;
  room = record { graph = h.room.graph; interests = h.room.interests };
  nodes = h.nodes;
  interests = h.interests;
}

-- ---- a thing more

push_at : (xs : List (List ℕ)) (n : List ℕ) (k : ℕ) (q : List ℕ) → slice_get (xs ++ n ∷ []) k ≡ Some q → (slice_get xs k ≡ Some q) ⊎ ((k ≡ length xs) × (q ≡ n))
push_at [] n zero q e = inr (refl, sym (same_Some n q e))
push_at [] n (suc k) q e = absurd (none-some q e)
push_at (x ∷ xs) n zero q e = inl e
push_at (x ∷ xs) n (suc k) q e =
    ⊎_elim (λ h. inl h) (λ h. inr (let same = h.0 in omega arith, h.1)) (push_at xs n k q e)

at_last : {X : Type 0} (f : X → List ℕ) (xs : List X) (x : X) (k : ℕ) (q : List ℕ) → slice_get (map f (xs ++ x ∷ [])) k ≡ Some q → (slice_get (map f xs) k ≡ Some q) ⊎ ((k ≡ length xs) × (q ≡ f x))
at_last f xs x k q e =
    ⊎_elim
    (λ h. inl h)
    (λ h. inr (h.0 ∙ length-map xs f, h.1))
    (push_at (map f xs) (f x) k q (rw (map_push f xs x) at e))

-- what the new lists name is this thing, or it was named before
abbrev pub NamesMore : Lists → Lists → List ℕ → Thing → Type 0
NamesMore old new name t = (q : List ℕ) (u : Thing) → IsNamedThing new q u → IsNamedThing old q u ⊎ ((u ≡ t) × (q ≡ name))

pub named_more : (m new : Lists) (name : List ℕ) (t : Thing) (old names : NameTable) → ((q : List ℕ) → thing_found names q ≡ cond (bytes_eq q name) (Some t) (thing_found old q)) → is_new m name ≡ true → ((q : List ℕ) (u : Thing) → IsNamedThing m q u → thing_found old q ≡ Some u) → NamesMore m new name t → (q : List ℕ) (u : Thing) → IsNamedThing new q u → thing_found names q ≡ Some u
named_more m new name t old names set fresh h more q u is =
    ⊎_elim
    (λ before. names_kept m name t old names set fresh q u before (h q u before))
    (λ last. name_here name t old names set q last.1 ∙ ap (λ x. Some x) (sym last.0))
    (more q u is)

element_more : (m : Lists) (e : Element) → NamesMore m (added m (statements.Element e)) e.name (things.Element (length m.elements))
element_more m e q (things.Element k) is =
    ⊎_elim (λ before. inl before) (λ last. inr (ap (λ n. things.Element n) last.0, last.1)) (at_last (λ (x : Element). x.name) m.elements e k q is)
element_more m e q (things.Refinement k) is = inl is
element_more m e q (things.Var k) is = inl is
element_more m e q (things.Sum k) is = inl is

refinement_more : (m : Lists) (r : Refinement) → NamesMore m (added m (statements.Refine r)) r.name (things.Refinement (length m.refinements))
refinement_more m r q (things.Element k) is = inl is
refinement_more m r q (things.Refinement k) is =
    ⊎_elim (λ before. inl before) (λ last. inr (ap (λ n. things.Refinement n) last.0, last.1)) (at_last (λ (x : Refinement). x.name) m.refinements r k q is)
refinement_more m r q (things.Var k) is = inl is
refinement_more m r q (things.Sum k) is = inl is

variable_more : (m : Lists) (v : Variable) → NamesMore m (added m (statements.Variable v)) v.name (things.Var (length m.vars))
variable_more m v q (things.Element k) is = inl is
variable_more m v q (things.Refinement k) is = inl is
variable_more m v q (things.Var k) is =
    ⊎_elim (λ before. inl before) (λ last. inr (ap (λ n. things.Var n) last.0, last.1)) (at_last (λ (x : Variable). x.name) m.vars v k q is)
variable_more m v q (things.Sum k) is = inl is

sum_more : (m : Lists) (s : Sum) → NamesMore m (added m (statements.Sum s)) s.name (things.Sum (length m.sums))
sum_more m s q (things.Element k) is = inl is
sum_more m s q (things.Refinement k) is = inl is
sum_more m s q (things.Var k) is = inl is
sum_more m s q (things.Sum k) is =
    ⊎_elim (λ before. inl before) (λ last. inr (ap (λ n. things.Sum n) last.0, last.1)) (at_last (λ (x : Sum). x.name) m.sums s k q is)

pub AreFor-element : (m : Lists) (e : Element) (old : Aids) (names : NameTable) → ((q : List ℕ) → thing_found names q ≡ cond (bytes_eq q e.name) (Some (things.Element (length m.elements))) (thing_found old.names q)) → is_new m e.name ≡ true → HasGraphRoom (length m.elements + 1) old → AreFor m old → AreFor (added m (statements.Element e)) (record old { names = names })
AreFor-element m e old names set fresh room h = record {
  names = named_more m (added m (statements.Element e)) e.name (things.Element (length m.elements)) old.names names set fresh h.names (element_more m e);
  graph = h.graph;
  room = record {
    graph = omega (arith, room.graph, length_push m.elements e);
    interests = omega (arith, room.interests, length_push m.elements e);
  };
  nodes = h.nodes;
  interests = h.interests;
}

pub AreFor-refinement : (m : Lists) (r : Refinement) (old : Aids) (names : NameTable) → ((q : List ℕ) → thing_found names q ≡ cond (bytes_eq q r.name) (Some (things.Refinement (length m.refinements))) (thing_found old.names q)) → is_new m r.name ≡ true → IsTargetIndexOf (m.refinements ++ r ∷ []) old.graph → AreFor m old → AreFor (added m (statements.Refine r)) (record old { names = names })
AreFor-refinement m r old names set fresh linked h = record {
  names = named_more m (added m (statements.Refine r)) r.name (things.Refinement (length m.refinements)) old.names names set fresh h.names (refinement_more m r);
  graph = linked;
  room = record { graph = h.room.graph; interests = h.room.interests };
  nodes = h.nodes;
  interests = h.interests;
}

pub AreFor-variable : (m : Lists) (v : Variable) (old : Aids) (names : NameTable) → ((q : List ℕ) → thing_found names q ≡ cond (bytes_eq q v.name) (Some (things.Var (length m.vars))) (thing_found old.names q)) → is_new m v.name ≡ true → AreFor m old → AreFor (added m (statements.Variable v)) (record old { names = names })
AreFor-variable m v old names set fresh h = record {
  names = named_more m (added m (statements.Variable v)) v.name (things.Var (length m.vars)) old.names names set fresh h.names (variable_more m v);
  graph = h.graph;
  room = record { graph = h.room.graph; interests = h.room.interests };
  nodes = h.nodes;
  interests = h.interests;
}

pub AreFor-sum : (m : Lists) (s : Sum) (old : Aids) (names : NameTable) → ((q : List ℕ) → thing_found names q ≡ cond (bytes_eq q s.name) (Some (things.Sum (length m.sums))) (thing_found old.names q)) → is_new m s.name ≡ true → AreFor m old → AreFor (added m (statements.Sum s)) (record old { names = names })
AreFor-sum m s old names set fresh h = record {
  names = named_more m (added m (statements.Sum s)) s.name (things.Sum (length m.sums)) old.names names set fresh h.names (sum_more m s);
  graph = h.graph;
  room = record { graph = h.room.graph; interests = h.room.interests };
  nodes = h.nodes;
  interests = h.interests;
}

-- ---- a rule more

node_total-push : (rs : List Rule) (r : Rule) → node_total (rs ++ r ∷ []) ≡ node_total rs + node_count (formula_of r)
node_total-push rs r =
    let nodes : Rule → ℕ = λ q. node_count (formula_of q) in
    let split : node_total (rs ++ r ∷ []) ≡ node_total rs + node_total (r ∷ []) = sum_by-append nodes rs (r ∷ []) in
    let last : node_total (r ∷ []) ≡ node_count (formula_of r) + 0 = sum_by-cons nodes r [] in
    omega (arith, split, last)

pub room_left : (o : Option ℕ) (room nodes : ℕ) → MatchOption o (room < nodes) (λ left. left + nodes ≡ room) → nodes ≤ room → unwrap_or o 0 + nodes ≡ room
room_left None room nodes h l = absurd (omega arith)
room_left (Some left) room nodes h l = h

pub nodes_fit : (m : Lists) (r : Rule) (aids : Aids) → AreFor m aids → node_total (m.rules ++ r ∷ []) ≤ limit_number limits.FormulaNodes → node_count (formula_of r) ≤ aids.node_room
nodes_fit m r aids h l = omega (arith, h.nodes, l, node_total-push m.rules r)

pub AreFor-rule : (m : Lists) (r : Rule) (old : Aids) (left : ℕ) → left + node_count (formula_of r) ≡ old.node_room → AreFor m old → AreFor (added m (statements.Rule r)) (record old { node_room = left })
AreFor-rule m r old left e h = record {
  names = h.names;
  graph = h.graph;
  room = record { graph = h.room.graph; interests = h.room.interests };
  nodes = omega (arith, e, h.nodes, node_total-push m.rules r);
  interests = h.interests;
}

-- ---- an element of interest more

marked_set : (marks : List Bool) (ks : List ℕ) (element k : ℕ) → element < length marks → get_or marks k false ≡ list_any (λ j. j == k) ks → get_or (set marks element true) k false ≡ list_any (λ j. j == k) (ks ++ element ∷ [])
marked_set marks ks element k l h =
    let before = list_any (λ j. j == k) ks in
    let now : list_any (λ j. j == k) (ks ++ element ∷ []) ≡ (before || ((element == k) || false)) = list_any-append (λ j. j == k) ks (element ∷ []) in
    ⊎_elim
    (λ same.
    ap (λ i. get_or (set marks element true) i false) same
    ∙ (get_or-set_same marks element true false l
    ∙ sym (now ∙ or_right before ((element == k) || false) (or_left (element == k) false (eq-eqb element k (sym same))))))
    (λ ne.
    get_or-set_other marks element k true false ne
    ∙ (h ∙ sym (now ∙ (ap (λ b. before || (b || false)) (ne_eqb element k (λ e. ne (sym e))) ∙ or-false before))))
    (cases_eq k element)

pub AreFor-interest : (m : Lists) (element : ℕ) (old : Aids) (marks : Vec Bool Global) → marks.items ≡ set old.interests.items element true → element < length old.interests.items → AreFor m old → AreFor (added m (statements.Interest element)) (record old { interests = marks })
AreFor-interest m element old marks is l h = record {
  names = h.names;
  graph = h.graph;
  room = record {
    graph = h.room.graph;
    interests = omega (arith, h.room.interests, ap (λ (bs : List Bool). length bs) is, length-set old.interests.items element true);
  };
  nodes = h.nodes;
  interests = λ k. ap (λ (bs : List Bool). get_or bs k false) is ∙ marked_set old.interests.items m.interests element k l (h.interests k);
}

-- ---- the lists with the item, or as they were

pub after_push : {X : Type 0} (P : List X → Type 0) (ok : Bool) (xs : List X) (x : X) (new : List X) → new ≡ cond ok (xs ++ x ∷ []) xs → P xs → P (xs ++ x ∷ []) → P new
after_push P true xs x new is before after = subst P (sym is) after
after_push P false xs x new is before after = subst P (sym is) before

-- ---- no statement yet

nothing_named : (q : List ℕ) (t : Thing) → ¬ IsNamedThing no_lists q t
nothing_named q (things.Element k) e = none-some q e
nothing_named q (things.Refinement k) e = none-some q e
nothing_named q (things.Var k) e = none-some q e
nothing_named q (things.Sum k) e = none-some q e

pub AreFor-none : (aids : Aids) → IsTargetIndexOf [] aids.graph → HasTargetRoomFor 0 aids.graph → aids.node_room ≡ limit_number limits.FormulaNodes → aids.interests.items ≡ [] → AreFor no_lists aids
AreFor-none aids graph room nodes marks = record {
  names = λ q t e. absurd (nothing_named q t e);
  graph = graph;
  room = record { graph = room; interests = omega arith };
  nodes = omega (arith, nodes);
  interests = λ k. ap (λ (bs : List Bool). get_or bs k false) marks;
}
