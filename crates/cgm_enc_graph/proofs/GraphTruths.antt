-- All clauses of a graph and what they mean, group by group.
use Rattle.std.proofs.Common.{◌≡◌, ℕ, ◌+◌, ◌<◌, ◌↔◌, IsTrue, List, [], ◌∷◌, ◌++◌, length, map, refl, sym, ◌∙◌, subst, arith}
use Rattle.std.specs.Prelude.{ℤ}
use Rattle.std.specs.List.{All, enumerate_from, flat_map, list_all}
use Rattle.std.proofs.lemmas.Bool.Decides.{Decides-like}
use Rattle.std.proofs.lemmas.List.Sums.{AllPass-from_list_all, list_all-from_AllPass}
use Rattle.cgm_atom.specs.declared.constraints.Clause.{Clause}
use Rattle.cgm_atom.specs.Atoms.{clause_true}
use Rattle.cgm_atom.specs.Literals.{truth_at}
use Rattle.cgm_atom.proofs.Additions.{all_at, all_of, flattened, flattened-steps, mapped, mapped-steps, numbered, numbered-all, numbered-steps, one_of}
use Rattle.cgm_atom.proofs.ClauseTruths.{all_repeats-true}
use Rattle.cgm_formula.specs.declared.assignment.Assignment.{Assignment}
use Rattle.cgm_model.specs.declared.lists.Element.{Element}
use Rattle.cgm_model.specs.declared.lists.Lists.{Lists}
use Rattle.cgm_model.specs.Graph.{HasKnownElements}
use Rattle.cgm_base.specs.Place.{Each}
use Rattle.cgm_model.specs.Realization.{IsRealization, KeepsAssertion, KeepsBind, KeepsConflict, KeepsContrib, KeepsElement, KeepsMust, KeepsRefinement, KeepsRule}
use Rattle.cgm_model.specs.Statement.{IsEdgeOf}
use Rattle.cgm_model.specs.TruthVariables.{StandFor}
use Rattle.cgm_model.specs.WellFormed.{IsAssertion, IsWellFormedModel}
use Rattle.cgm_enc_graph.specs.GraphClauses.{assertion_clause, bind_clauses, conflict_clause, contrib_clause, element_clauses, graph_clauses, must_clauses, numbered_elements, numbered_refinements, refinement_clauses, variables_for, written_clauses}
use Rattle.cgm_enc_graph.specs.GraphRules.{KeepsGraph}
use Rattle.cgm_enc_graph.proofs.Groups.{Mean, Mean-append, each_from, whole_means}
use Rattle.cgm_enc_graph.proofs.KnownNames.{HasKnownNames, known_names}
use Rattle.cgm_enc_graph.proofs.RuleTruths.{assertion_means, bind_means, conflict_means, contrib_means, element_means, must_means, refinement_means}

anything : {X : Type 0} (xs : List X) → All (λ _. Unit {0}) xs
anything xs k d within = tt

-- ---- what each group means

module _ (m : Lists) (values : List ℤ) (a : Assignment) (known : HasKnownNames m) (stand : StandFor m (truth_at values) a) where
  mapped_means : {X : Type 0} (f : X → Clause) (A : X → Type 0) (Q : ℕ → X → Type 0) (xs : List X) → All A xs → ((k : ℕ) (x : X) → A x → Mean values (f x ∷ []) (Q k x)) → Mean values (map f xs) (Each Q xs)
  mapped_means f A Q xs all h =
      whole_means (mapped f) (one_of f) values Q 0 xs (mapped-steps f) (λ _. refl)
      (each_from A (λ k x. Mean values (f x ∷ []) (Q k x)) (length xs) 0 xs (omega arith) all (λ k x within is. h k x is))

  flattened_means : {X : Type 0} (f : X → List Clause) (A : X → Type 0) (Q : ℕ → X → Type 0) (xs : List X) → All A xs → ((k : ℕ) (x : X) → A x → Mean values (f x) (Q k x)) → Mean values (flat_map f xs) (Each Q xs)
  flattened_means f A Q xs all h =
      whole_means (flattened f) (all_of f) values Q 0 xs (flattened-steps f) (λ _. refl)
      (each_from A (λ k x. Mean values (f x) (Q k x)) (length xs) 0 xs (omega arith) all (λ k x within is. h k x is))

  numbered_means : {X : Type 0} (f : ℕ × X → List Clause) (first : ℕ) (A : X → Type 0) (Q : ℕ → X → Type 0) (xs : List X) → All A xs → ((k : ℕ) (x : X) → k < length xs → A x → Mean values (f (first + k, x)) (Q k x)) → Mean values (flat_map f (enumerate_from first xs)) (Each Q xs)
  numbered_means f first A Q xs all h =
      subst (λ (clauses : List Clause). Mean values clauses (Each Q xs)) (numbered-all f first xs)
      (whole_means (numbered f first) (all_at f first) values Q 0 xs (numbered-steps f first) (λ _. refl)
      (each_from A (λ k x. Mean values (f (first + k, x)) (Q k x)) (length xs) 0 xs (omega arith) all h))

  -- an element's variable is its number
  elements_means : (f : ℕ × Element → List Clause) (Q : ℕ → Element → Type 0) → ((k : ℕ) (e : Element) → k < length m.elements → Mean values (f (k, e)) (Q k e)) → Mean values (flat_map f (numbered_elements m)) (Each Q m.elements)
  elements_means f Q h =
      numbered_means f 0 (λ _. Unit {0}) Q m.elements (anything m.elements)
      (λ k e within _. let here : 0 + k ≡ k = omega arith in subst (λ (x : ℕ). Mean values (f (x, e)) (Q k e)) (sym here) (h k e within))

  pub written_mean : Mean values (written_clauses m) (KeepsGraph m a)
  written_mean =
      let R = Each (KeepsRefinement a) m.refinements in
      let E = Each (KeepsElement m a) m.elements in
      let C = Each (KeepsContrib a) m.contribs in
      let F = Each (KeepsConflict a) m.conflicts in
      let B = Each (KeepsBind m a) m.binds in
      let M = Each (KeepsMust a) m.elements in
      let A = Each (KeepsAssertion a) m.asserts in
      let rs = flat_map refinement_clauses (numbered_refinements m) in
      let es = flat_map (λ (e : ℕ × Element). element_clauses e.0 (variables_for (numbered_refinements m) e.0)) (numbered_elements m) in
      let cs = map contrib_clause m.contribs in
      let fs = map conflict_clause m.conflicts in
      let bs = flat_map (bind_clauses m) m.binds in
      let ms = flat_map must_clauses (numbered_elements m) in
      let xs = map assertion_clause m.asserts in
      let refinements : Mean values rs R = numbered_means refinement_clauses (length m.elements) (HasKnownElements (length m.elements)) (KeepsRefinement a) m.refinements known.refinements (refinement_means m values a stand) in
      let elements : Mean values es E = elements_means (λ e. element_clauses e.0 (variables_for (numbered_refinements m) e.0)) (KeepsElement m a) (element_means m values a stand) in
      let contribs : Mean values cs C = mapped_means contrib_clause (IsEdgeOf (length m.elements)) (KeepsContrib a) m.contribs known.contribs (contrib_means m values a stand) in
      let conflicts : Mean values fs F = mapped_means conflict_clause (IsEdgeOf (length m.elements)) (KeepsConflict a) m.conflicts known.conflicts (conflict_means m values a stand) in
      let binds : Mean values bs B = flattened_means (bind_clauses m) (IsEdgeOf (length m.refinements)) (KeepsBind m a) m.binds known.binds (λ k e is. bind_means m values a stand k e known.refinements is) in
      let musts : Mean values ms M = elements_means must_clauses (KeepsMust a) (must_means m values a stand) in
      let asserts : Mean values xs A = mapped_means assertion_clause (IsAssertion m) (KeepsAssertion a) m.asserts known.asserts (assertion_means m values a stand) in
      let first = Mean-append values rs es R E refinements elements in
      let from_conflicts = Mean-append values fs bs F B conflicts binds in
      let second = Mean-append values cs (fs ++ bs) C (F × B) contribs from_conflicts in
      let third = Mean-append values ms xs M A musts asserts in
      let from_second = Mean-append values (cs ++ (fs ++ bs)) (ms ++ xs) (C × (F × B)) (M × A) second third in
      Decides-like (list_all (clause_true values) (written_clauses m))
      (λ h. record {
        refinements = h.0.0;
        elements = h.0.1;
        contribs = h.1.0.0;
        conflicts = h.1.0.1.0;
        binds = h.1.0.1.1;
        musts = h.1.1.0;
        asserts = h.1.1.1;
      })
      (λ h. ((h.refinements, h.elements), ((h.contribs, (h.conflicts, h.binds)), (h.musts, h.asserts))))
      (Mean-append values (rs ++ es) ((cs ++ (fs ++ bs)) ++ (ms ++ xs)) (R × E) ((C × (F × B)) × (M × A)) first from_second)

-- each clause is true exactly where the graph is kept
pub graph_means : (m : Lists) (values : List ℤ) (a : Assignment) → ∥ IsWellFormedModel m ∥₁ → StandFor m (truth_at values) a → All (λ c. IsTrue (clause_true values c)) (graph_clauses m) ↔ KeepsGraph m a
unfolding graph_clauses
graph_means m values a well stand =
    let means = written_mean m values a (known_names m well) stand in
    let same = all_repeats-true values (written_clauses m) in (
      λ h. means.0 (sym same ∙ list_all-from_AllPass (clause_true values) (graph_clauses m) h),
      λ keeps. AllPass-from_list_all (clause_true values) (graph_clauses m) (same ∙ means.1 keeps),
    )

pub realization_keeps : (m : Lists) (a : Assignment) (sums : List ℤ) → IsRealization m a sums ↔ (KeepsGraph m a × Each (KeepsRule a sums) m.rules)
realization_keeps m a sums = (
  λ h. (record { refinements = h.refinements; elements = h.elements; contribs = h.contribs; conflicts = h.conflicts; binds = h.binds; musts = h.musts; asserts = h.asserts }, h.rules),
  λ h. record { refinements = h.0.refinements; elements = h.0.elements; contribs = h.0.contribs; conflicts = h.0.conflicts; binds = h.0.binds; musts = h.0.musts; asserts = h.0.asserts; rules = h.1 },
)
