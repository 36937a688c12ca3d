-- What the clauses of one refinement, element, edge, goal or assertion mean, for an assignment that the values stand for.
use Rattle.std.proofs.Common.{◌≡◌, ℕ, zero, suc, ◌+◌, ◌<◌, ◌≤◌, ◌==◌, ◌↔◌, ◌⊎◌, Bool, true, false, cond, not, ◌&&◌, ◌||◌, IsTrue, List, [], ◌∷◌, ◌++◌, None, Some, length, get_or, map, slice_get, refl, sym, ap, ◌∙◌, subst, inl, inr, ⊎_elim, Decides, arith}
use Rattle.std.specs.Prelude.{ℤ, slice_index_or}
use Rattle.std.specs.List.{All, enumerate_from, filter, list_all, list_any}
use Rattle.std.proofs.lemmas.Bool.{false≢true, eqb-true, eq-eqb, or_cases, or_left, or_right}
use Rattle.std.proofs.lemmas.Bool.Decides.{Decides-and, Decides-at, Decides-like, Decides-not}
use Rattle.std.proofs.lemmas.List.{get_or-map}
use Rattle.std.proofs.lemmas.List.Elements.{All-cons, All-head, All-nil, All-tail}
use Rattle.std.proofs.lemmas.Option.{none-some, same_Some, slice_get_cases, slice_get_within}
use Rattle.cgm_atom.specs.declared.constraints.Clause.{Clause}
use Rattle.cgm_atom.specs.Atoms.{atom_true, clause_true}
use Rattle.cgm_atom.specs.Literals.{clause, implication, literal, negated, truth_at}
use Rattle.cgm_atom.proofs.ClauseTruths.{Decides-implies, implication-true, literals-any, negated-any, negated-true}
use Rattle.cgm_formula.specs.declared.assignment.Assignment.{Assignment}
use Rattle.cgm_model.specs.declared.lists.Assertion.{Assertion}
use Rattle.cgm_model.specs.declared.lists.Edge.{Edge}
use Rattle.cgm_model.specs.declared.lists.Element.{Element}
use Rattle.cgm_model.specs.declared.lists.Lists.{Lists}
use Rattle.cgm_model.specs.declared.lists.Refinement.{Refinement}
use Rattle.cgm_model.specs.Assignment.{ElementIsTrue, RefinementIsTrue}
use Rattle.cgm_model.specs.Graph.{HasKnownElements}
use Rattle.cgm_model.specs.Realization.{KeepsAssertion, KeepsBind, KeepsConflict, KeepsContrib, KeepsElement, KeepsMust, KeepsRefinement, Refines, TargetIsTrue}
use Rattle.cgm_model.specs.Statement.{IsEdgeOf}
use Rattle.cgm_model.specs.TruthVariables.{StandFor}
use Rattle.cgm_enc_graph.specs.GraphClauses.{assertion_clause, bind_clauses, conflict_clause, contrib_clause, element_clauses, must_clauses, numbered_refinements, refinement_clauses, target_of, variables_for}
use Rattle.cgm_enc_graph.proofs.Groups.{Mean, Mean-append}

-- ---- truth values that decide facts

by_equal : (s t : Bool) → s ≡ t → Decides t (IsTrue s)
by_equal s t e = (λ h. e ∙ h, λ h. sym e ∙ h)

and_true : (t : Bool) → (t && true) ≡ t
and_true true = refl
and_true false = refl

-- a group of one clause
pub Mean-one : (values : List ℤ) (c : Clause) (t : Bool) (P : Type 0) → clause_true values c ≡ t → Decides t P → Mean values (c ∷ []) P
Mean-one values c t P e h = Decides-at (clause_true values c && true) t (and_true (clause_true values c) ∙ e) h

-- two clauses
Mean-two : (values : List ℤ) (c d : Clause) (P Q : Type 0) → Mean values (c ∷ []) P → Mean values (d ∷ []) Q → Mean values (c ∷ d ∷ []) (P × Q)
Mean-two values c d P Q h k = Mean-append values (c ∷ []) (d ∷ []) P Q h k

-- ---- the refinements of an element

-- one of them, at a place after the first variable, passes the test
record Found (test : ℕ → Bool) (first element : ℕ) (refinements : List Refinement) : Type 0 where
  place : ℕ
  refinement : Refinement
  at : slice_get refinements place ≡ Some refinement
  target : refinement.target ≡ element
  passes : test (first + place) ≡ true

found_later : (test : ℕ → Bool) (first element : ℕ) (r : Refinement) (refinements : List Refinement) → Found test (first + 1) element refinements → Found test first element (r ∷ refinements)
found_later test first element r refinements f =
    let next : first + 1 + f.place ≡ first + suc f.place = omega arith in
    record { place = suc f.place; refinement = f.refinement; at = f.at; target = f.target; passes = ap test (sym next) ∙ f.passes }

found_by : (test : ℕ → Bool) (first element : ℕ) (r : Refinement) (refinements : List Refinement) (rest : List (ℕ × Refinement)) (t : Bool) → (r.target == element) ≡ t → list_any test (map (λ (s : ℕ × Refinement). s.0) (cond t ((first, r) ∷ rest) rest)) ≡ true → (list_any test (map (λ (s : ℕ × Refinement). s.0) rest) ≡ true → Found test (first + 1) element refinements) → Found test first element (r ∷ refinements)
found_by test first element r refinements rest false e h later = found_later test first element r refinements (later h)
found_by test first element r refinements rest true e h later =
    ⊎_elim
    (λ (passes : test first ≡ true).
    let here : first + 0 ≡ first = omega arith in
    record { place = 0; refinement = r; at = refl; target = eqb-true r.target element e; passes = ap test here ∙ passes })
    (λ (more : list_any test (map (λ (s : ℕ × Refinement). s.0) rest) ≡ true). found_later test first element r refinements (later more))
    (or_cases (test first) (list_any test (map (λ (s : ℕ × Refinement). s.0) rest)) h)

found : (test : ℕ → Bool) (first element : ℕ) (refinements : List Refinement) → list_any test (variables_for (enumerate_from first refinements) element) ≡ true → Found test first element refinements
found test first element [] h = absurd (false≢true h)
found test first element (r ∷ refinements) h =
    found_by test first element r refinements (filter (λ s. s.1.target == element) (enumerate_from (first + 1) refinements)) (r.target == element) refl h
    (found test (first + 1) element refinements)

placed_here : (test : ℕ → Bool) (first : ℕ) (r : Refinement) (rest : List (ℕ × Refinement)) (t : Bool) → t ≡ true → test first ≡ true → list_any test (map (λ (s : ℕ × Refinement). s.0) (cond t ((first, r) ∷ rest) rest)) ≡ true
placed_here test first r rest true e h = or_left (test first) (list_any test (map (λ (s : ℕ × Refinement). s.0) rest)) h
placed_here test first r rest false e h = absurd (false≢true e)

placed_later : (test : ℕ → Bool) (first : ℕ) (r : Refinement) (rest : List (ℕ × Refinement)) (t : Bool) → list_any test (map (λ (s : ℕ × Refinement). s.0) rest) ≡ true → list_any test (map (λ (s : ℕ × Refinement). s.0) (cond t ((first, r) ∷ rest) rest)) ≡ true
placed_later test first r rest true h = or_right (test first) (list_any test (map (λ (s : ℕ × Refinement). s.0) rest)) h
placed_later test first r rest false h = h

placed : (test : ℕ → Bool) (first element : ℕ) (refinements : List Refinement) (place : ℕ) (r : Refinement) → slice_get refinements place ≡ Some r → r.target ≡ element → test (first + place) ≡ true → list_any test (variables_for (enumerate_from first refinements) element) ≡ true
placed test first element [] place r at target h = absurd (none-some r at)
placed test first element (q ∷ refinements) zero r at target h =
    let here : first + 0 ≡ first = omega arith in
    let same : q ≡ r = same_Some q r at in
    placed_here test first q (filter (λ s. s.1.target == element) (enumerate_from (first + 1) refinements)) (q.target == element)
    (eq-eqb q.target element (ap (λ (x : Refinement). x.target) same ∙ target))
    (ap test (sym here) ∙ h)
placed test first element (q ∷ refinements) (suc place) r at target h =
    let next : first + 1 + place ≡ first + suc place = omega arith in
    placed_later test first q (filter (λ s. s.1.target == element) (enumerate_from (first + 1) refinements)) (q.target == element)
    (placed test (first + 1) element refinements place r at target (ap test next ∙ h))

module _ (m : Lists) (values : List ℤ) (a : Assignment) (stand : StandFor m (truth_at values) a) where
  element_truth : (k : ℕ) → k < length m.elements → Decides (truth_at values k) (ElementIsTrue a k)
  element_truth k within = by_equal (slice_index_or a.elements k false) (truth_at values k) (stand.elements k within)

  refinement_truth : (k : ℕ) → k < length m.refinements → Decides (truth_at values (length m.elements + k)) (RefinementIsTrue a k)
  refinement_truth k within = by_equal (slice_index_or a.refinements k false) (truth_at values (length m.elements + k)) (stand.refinements k within)

  implication_means : (x y : ℕ) (P Q : Type 0) → Decides (truth_at values x) P → Decides (truth_at values y) Q → Mean values (implication x y ∷ []) (P → Q)
  implication_means x y P Q p q =
      Mean-one values (implication x y) (not (truth_at values x) || truth_at values y) (P → Q) (implication-true values x y)
      (Decides-implies (truth_at values x) (truth_at values y) P Q p q)

  -- ---- refinements

  sources_truth : (sources : List ℕ) → All (λ source. source < length m.elements) sources → Decides (list_all (truth_at values) sources) (All (ElementIsTrue a) sources)
  sources_truth [] known = (λ _. All-nil (ElementIsTrue a), λ _. refl)
  sources_truth (s ∷ sources) known =
      Decides-like (truth_at values s && list_all (truth_at values) sources)
      (λ h. All-cons (ElementIsTrue a) s sources h.0 h.1)
      (λ h. (All-head (ElementIsTrue a) s sources h, All-tail (ElementIsTrue a) s sources h))
      (Decides-and (truth_at values s) (list_all (truth_at values) sources)
      (element_truth s (All-head (λ source. source < length m.elements) s sources known))
      (sources_truth sources (All-tail (λ source. source < length m.elements) s sources known)))

  sources_means : (x : ℕ) (P : Type 0) (sources : List ℕ) → All (λ source. source < length m.elements) sources → Decides (truth_at values x) P → Mean values (map (implication x) sources) (P → All (ElementIsTrue a) sources)
  sources_means x P [] known p = (λ _ _. All-nil (ElementIsTrue a), λ _. refl)
  sources_means x P (s ∷ sources) known p =
      Decides-like (list_all (clause_true values) (map (implication x) (s ∷ sources)))
      (λ h t. All-cons (ElementIsTrue a) s sources (h.0 t) (h.1 t))
      (λ h. (λ t. All-head (ElementIsTrue a) s sources (h t), λ t. All-tail (ElementIsTrue a) s sources (h t)))
      (Mean-append values (implication x s ∷ []) (map (implication x) sources) (P → ElementIsTrue a s) (P → All (ElementIsTrue a) sources)
      (implication_means x s P (ElementIsTrue a s) p (element_truth s (All-head (λ source. source < length m.elements) s sources known)))
      (sources_means x P sources (All-tail (λ source. source < length m.elements) s sources known) p))

  pub refinement_means : (k : ℕ) (r : Refinement) → k < length m.refinements → HasKnownElements (length m.elements) r → Mean values (refinement_clauses (length m.elements + k, r)) (KeepsRefinement a k r)
  refinement_means k r within known =
      let x = length m.elements + k in
      let P = RefinementIsTrue a k in
      let S = All (ElementIsTrue a) r.sources in
      let T = ElementIsTrue a r.target in
      let p = refinement_truth k within in
      let converse = clause (map negated r.sources ++ literal x ∷ []) in
      let back : Mean values (converse ∷ []) (S → P) =
      Mean-one values converse (not (list_all (truth_at values) r.sources) || truth_at values x) (S → P) (negated-any values r.sources x)
      (Decides-implies (list_all (truth_at values) r.sources) (truth_at values x) S P (sources_truth r.sources known.sources) p) in
      let last = implication_means x r.target P T p (element_truth r.target known.target) in
      let both = Mean-two values converse (implication x r.target) (S → P) (P → T) back last in
      let parts = Mean-append values (map (implication x) r.sources) (converse ∷ implication x r.target ∷ []) (P → S) ((S → P) × (P → T))
      (sources_means x P r.sources known.sources p) both in
      Decides-like (list_all (clause_true values) (refinement_clauses (x, r)))
      (λ h. record { sources = (h.0, h.1.0); target = h.1.1 })
      (λ h. (h.sources.0, (h.sources.1, h.target)))
      parts

  -- ---- contributions and conflicts

  pub contrib_means : (place : ℕ) (e : Edge) → IsEdgeOf (length m.elements) e → Mean values (contrib_clause e ∷ []) (KeepsContrib a place e)
  contrib_means place e known =
      implication_means e.from e.to (ElementIsTrue a e.from) (ElementIsTrue a e.to) (element_truth e.from known.0) (element_truth e.to known.1)

  not_two : (s t : Bool) → (not s || (not t || false)) ≡ not (s && t)
  not_two true true = refl
  not_two true false = refl
  not_two false t = refl

  pub conflict_means : (place : ℕ) (e : Edge) → IsEdgeOf (length m.elements) e → Mean values (conflict_clause e ∷ []) (KeepsConflict a place e)
  conflict_means place e known =
      let s = truth_at values e.from in
      let t = truth_at values e.to in
      Mean-one values (conflict_clause e) (not (s && t)) (KeepsConflict a place e)
      (ap (λ (b : Bool). b || (atom_true values (negated e.to) || false)) (negated-true values e.from)
      ∙ ap (λ (b : Bool). not s || (b || false)) (negated-true values e.to)
      ∙ not_two s t)
      (Decides-not (s && t) (Decides-and s t (element_truth e.from known.0) (element_truth e.to known.1)))

  -- ---- goals with `must` and assertions

  or_false : (t : Bool) → (t || false) ≡ t
  or_false true = refl
  or_false false = refl

  holds_means : (x : ℕ) (P : Type 0) → Decides (truth_at values x) P → Mean values (clause (literal x ∷ []) ∷ []) P
  holds_means x P p = Mean-one values (clause (literal x ∷ [])) (truth_at values x) P (or_false (truth_at values x)) p

  fails_means : (x : ℕ) (P : Type 0) → Decides (truth_at values x) P → Mean values (clause (negated x ∷ []) ∷ []) (¬ P)
  fails_means x P p =
      Mean-one values (clause (negated x ∷ [])) (not (truth_at values x)) (¬ P) (or_false (atom_true values (negated x)) ∙ negated-true values x)
      (Decides-not (truth_at values x) p)

  must_by : (t : Bool) (x : ℕ) (P : Type 0) → Decides (truth_at values x) P → Mean values (cond t (clause (literal x ∷ []) ∷ []) []) (IsTrue t → P)
  must_by true x P p =
      Decides-like (list_all (clause_true values) (clause (literal x ∷ []) ∷ [])) (λ h _. h) (λ f. f refl) (holds_means x P p)
  must_by false x P p = (λ _ h. absurd (false≢true h), λ _. refl)

  pub must_means : (k : ℕ) (e : Element) → k < length m.elements → Mean values (must_clauses (k, e)) (KeepsMust a k e)
  must_means k e within = must_by e.must k (ElementIsTrue a k) (element_truth k within)

  asserted_by : (t : Bool) (x : ℕ) (P : Type 0) → Decides (truth_at values x) P → Mean values (clause (cond t (literal x) (negated x) ∷ []) ∷ []) (P ↔ IsTrue t)
  asserted_by true x P p =
      Decides-like (list_all (clause_true values) (clause (literal x ∷ []) ∷ [])) (λ h. (λ _. refl, λ _. h)) (λ f. f.1 refl) (holds_means x P p)
  asserted_by false x P p =
      Decides-like (list_all (clause_true values) (clause (negated x ∷ []) ∷ []))
      (λ n. (λ h. absurd (n h), λ h. absurd (false≢true h)))
      (λ f h. false≢true (f.0 h))
      (fails_means x P p)

  pub assertion_means : (place : ℕ) (s : Assertion) → s.element < length m.elements → Mean values (assertion_clause s ∷ []) (KeepsAssertion a place s)
  assertion_means place s within = asserted_by s.truth s.element (ElementIsTrue a s.element) (element_truth s.element within)

  -- ---- bindings

  target_truth : (k : ℕ) → All (HasKnownElements (length m.elements)) m.refinements → k < length m.refinements → Decides (truth_at values (target_of m k)) (TargetIsTrue m a k)
  target_truth k known within = by_place (slice_get_cases m.refinements k).1
    where
      by_place : ((r : Refinement) × (k < length m.refinements) × (slice_get m.refinements k ≡ Some r) × (get_or m.refinements k r ≡ r)) ⊎ ((length m.refinements ≤ k) × (slice_get m.refinements k ≡ None)) → Decides (truth_at values (target_of m k)) (TargetIsTrue m a k)
      by_place (inl there) =
          let r = there.0 in
          let is : HasKnownElements (length m.elements) r = subst (λ (q : Refinement). HasKnownElements (length m.elements) q) there.3 (known k r within) in
          let target : target_of m k ≡ r.target = get_or-map (λ (q : Refinement). q.target) m.refinements k r 0 within ∙ ap (λ (q : Refinement). q.target) there.3 in
          Decides-at (truth_at values (target_of m k)) (truth_at values r.target) (ap (λ (x : ℕ). truth_at values x) target)
          (Decides-like (truth_at values r.target)
          (λ h. (r, there.2, h))
          (λ w. subst (λ (q : Refinement). ElementIsTrue a q.target) (same_Some w.0 r (sym w.1 ∙ there.2)) w.2)
          (element_truth r.target is.target))
      by_place (inr past) = absurd (let beyond = past.0 in omega arith)

  four : (e1 e2 r1 r2 : ℕ) → (atom_true values (negated e1) || (atom_true values (negated e2) || (atom_true values (negated r1) || (truth_at values r2 || false)))) ≡ (not (truth_at values e1) || (not (truth_at values e2) || (not (truth_at values r1) || truth_at values r2)))
  four e1 e2 r1 r2 =
      ap (λ (x : Bool). x || (atom_true values (negated e2) || (atom_true values (negated r1) || (truth_at values r2 || false)))) (negated-true values e1)
      ∙ ap (λ (x : Bool). not (truth_at values e1) || (x || (atom_true values (negated r1) || (truth_at values r2 || false)))) (negated-true values e2)
      ∙ ap (λ (x : Bool). not (truth_at values e1) || (not (truth_at values e2) || (x || (truth_at values r2 || false)))) (negated-true values r1)
      ∙ ap (λ (x : Bool). not (truth_at values e1) || (not (truth_at values e2) || (not (truth_at values r1) || x))) (or_false (truth_at values r2))

  swapped : (s t : Bool) → (s || (t || false)) ≡ (t || (s || false))
  swapped true true = refl
  swapped true false = refl
  swapped false true = refl
  swapped false false = refl

  bound_means : (e1 e2 r1 r2 : ℕ) (E1 E2 R1 R2 : Type 0) → Decides (truth_at values e1) E1 → Decides (truth_at values e2) E2 → Decides (truth_at values r1) R1 → Decides (truth_at values r2) R2 → Mean values (clause (negated e1 ∷ negated e2 ∷ negated r1 ∷ literal r2 ∷ []) ∷ []) (E1 → E2 → R1 → R2)
  bound_means e1 e2 r1 r2 E1 E2 R1 R2 p q s t =
      let inner = Decides-implies (truth_at values r1) (truth_at values r2) R1 R2 s t in
      let middle = Decides-implies (truth_at values e2) (not (truth_at values r1) || truth_at values r2) E2 (R1 → R2) q inner in
      Mean-one values (clause (negated e1 ∷ negated e2 ∷ negated r1 ∷ literal r2 ∷ []))
      (not (truth_at values e1) || (not (truth_at values e2) || (not (truth_at values r1) || truth_at values r2)))
      (E1 → E2 → R1 → R2) (four e1 e2 r1 r2)
      (Decides-implies (truth_at values e1) (not (truth_at values e2) || (not (truth_at values r1) || truth_at values r2)) E1 (E2 → R1 → R2) p middle)

  pub bind_means : (place : ℕ) (e : Edge) → All (HasKnownElements (length m.elements)) m.refinements → IsEdgeOf (length m.refinements) e → Mean values (bind_clauses m e) (KeepsBind m a place e)
  bind_means place e refinements known =
      let e1 = target_of m e.from in
      let e2 = target_of m e.to in
      let r1 = length m.elements + e.from in
      let r2 = length m.elements + e.to in
      let E1 = TargetIsTrue m a e.from in
      let E2 = TargetIsTrue m a e.to in
      let R1 = RefinementIsTrue a e.from in
      let R2 = RefinementIsTrue a e.to in
      let p = target_truth e.from refinements known.0 in
      let q = target_truth e.to refinements known.1 in
      let s = refinement_truth e.from known.0 in
      let t = refinement_truth e.to known.1 in
      let c = clause (negated e1 ∷ negated e2 ∷ negated r1 ∷ literal r2 ∷ []) in
      let d = clause (negated e1 ∷ negated e2 ∷ literal r1 ∷ negated r2 ∷ []) in
      let turned = clause (negated e1 ∷ negated e2 ∷ negated r2 ∷ literal r1 ∷ []) in
      let same : clause_true values d ≡ clause_true values turned =
      ap (λ (x : Bool). atom_true values (negated e1) || (atom_true values (negated e2) || x)) (swapped (truth_at values r1) (atom_true values (negated r2))) in
      let there = bound_means e1 e2 r1 r2 E1 E2 R1 R2 p q s t in
      let back : Mean values (d ∷ []) (E1 → E2 → R2 → R1) =
      Decides-at (clause_true values d && true) (clause_true values turned && true) (ap (λ (x : Bool). x && true) same) (bound_means e1 e2 r2 r1 E1 E2 R2 R1 p q t s) in
      Decides-like (list_all (clause_true values) (bind_clauses m e))
      (λ h x y. (h.0 x y, h.1 x y))
      (λ keeps. (λ x y. (keeps x y).0, λ x y. (keeps x y).1))
      (Mean-two values c d (E1 → E2 → R1 → R2) (E1 → E2 → R2 → R1) there back)

  -- ---- refined elements

  some_truth : (k : ℕ) → Decides (list_any (truth_at values) (variables_for (numbered_refinements m) k)) ((j : ℕ) × (Refines m j k × RefinementIsTrue a j))
  some_truth k = (
    λ h.
        let f = found (truth_at values) (length m.elements) k m.refinements h in
        let within = slice_get_within m.refinements f.place f.refinement f.at in
        (f.place, ((f.refinement, f.at, f.target), (refinement_truth f.place within).0 f.passes)),
    λ w.
        let within = slice_get_within m.refinements w.0 w.1.0.0 w.1.0.1 in
        placed (truth_at values) (length m.elements) k m.refinements w.0 w.1.0.0 w.1.0.1 w.1.0.2 ((refinement_truth w.0 within).1 w.1.1),
  )

  element_by : (k : ℕ) (e : Element) (rs : List ℕ) → rs ≡ variables_for (numbered_refinements m) k → k < length m.elements → Mean values (element_clauses k rs) (KeepsElement m a k e)
  element_by k e [] is within = (
    λ _ _ j refines.
        let there = placed (λ _. true) (length m.elements) k m.refinements j refines.0 refines.1 refines.2 refl in
        absurd (false≢true (ap (λ (xs : List ℕ). list_any (λ _. true) xs) is ∙ there)),
    λ _. refl,
  )
  element_by k e (r ∷ rs) is within =
      let some = list_any (truth_at values) (r ∷ rs) in
      let S = (j : ℕ) × (Refines m j k × RefinementIsTrue a j) in
      let c = clause (negated k ∷ map literal (r ∷ rs)) in
      let first = found (λ _. true) (length m.elements) k m.refinements (ap (λ (xs : List ℕ). list_any (λ _. true) xs) (sym is)) in
      let one_true : Decides some S = Decides-at some (list_any (truth_at values) (variables_for (numbered_refinements m) k)) (ap (λ (xs : List ℕ). list_any (truth_at values) xs) is) (some_truth k) in
      let is_clause : clause_true values c ≡ (not (truth_at values k) || some) =
      ap (λ (t : Bool). t || list_any (atom_true values) (map literal (r ∷ rs))) (negated-true values k)
      ∙ ap (λ (t : Bool). not (truth_at values k) || t) (literals-any values (r ∷ rs)) in
      Decides-like (list_all (clause_true values) (c ∷ []))
      (λ f t j refines. f t)
      (λ keeps t. keeps t first.place (first.refinement, first.at, first.target))
      (Mean-one values c (not (truth_at values k) || some) (ElementIsTrue a k → S) is_clause
      (Decides-implies (truth_at values k) some (ElementIsTrue a k) S (element_truth k within) one_true))

  pub element_means : (k : ℕ) (e : Element) → k < length m.elements → Mean values (element_clauses k (variables_for (numbered_refinements m) k)) (KeepsElement m a k e)
  element_means k e within = element_by k e (variables_for (numbered_refinements m) k) refl within
