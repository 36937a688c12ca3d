-- All clauses of a graph: which variables they have, and how many they are.
use Rattle.std.proofs.Common.{◌≡◌, ℕ, ◌+◌, ◌*◌, ◌^◌, ◌<◌, ◌≤◌, ◌==◌, Bool, true, false, cond, List, [], ◌∷◌, ◌++◌, length, get_or, map, refl, sym, subst, arith}
use Rattle.std.specs.List.{All, enumerate_from, filter, flat_map}
use Rattle.std.proofs.lemmas.List.{length-append, length-map}
use Rattle.std.proofs.lemmas.List.Elements.{All-append, All-cons, All-filter, All-map, All-nil, All-weaker}
use Rattle.std.proofs.lemmas.List.FromFn.{get_or-enumerate_from, length-enumerate_from}
use Rattle.cgm_atom.specs.declared.constraints.Atom.{Atom}
use Rattle.cgm_atom.specs.declared.constraints.Clause.{Clause}
use Rattle.cgm_atom.specs.Adding.{CanTake}
use Rattle.cgm_atom.specs.Building.{without_repeats}
use Rattle.cgm_atom.specs.Instance.{Instance, var_count}
use Rattle.cgm_atom.specs.Limits.{IsAtomOf, IsClauseOf}
use Rattle.cgm_atom.specs.Literals.{clause, implication, literal, negated}
use Rattle.cgm_atom.proofs.Additions.{all_at, all_of, flattened, flattened-steps, numbered, numbered-all, numbered-steps}
use Rattle.cgm_atom.proofs.Fresh.{All-first_atoms}
use Rattle.cgm_base.specs.declared.limit.Which.TheVariants as limits
use Rattle.cgm_base.specs.Words.{limit_number}
use Rattle.cgm_model.specs.declared.lists.Edge.{Edge}
use Rattle.cgm_model.specs.declared.lists.Element.{Element}
use Rattle.cgm_model.specs.declared.lists.Lists.{Lists}
use Rattle.cgm_model.specs.declared.lists.Refinement.{Refinement}
use Rattle.cgm_model.specs.Graph.{HasKnownElements}
use Rattle.cgm_model.specs.Statement.{IsEdgeOf}
use Rattle.cgm_model.specs.TruthVariables.{truth_variables}
use Rattle.cgm_model.specs.WellFormed.{IsAssertion, IsWellFormedModel}
use Rattle.cgm_enc_graph.specs.GraphClauses.{assertion_clause, bind_clauses, conflict_clause, contrib_clause, edge_group, element_clauses, fact_group, graph_clauses, must_clauses, numbered_elements, numbered_refinements, refinement_clauses, refinement_group, target_of, variables_for, written_clauses}
use Rattle.cgm_enc_graph.specs.Laws.{max_graph_clauses}
use Rattle.cgm_enc_graph.proofs.Groups.{each_from, whole_all, whole_few}
use Rattle.cgm_enc_graph.proofs.KnownNames.{HasKnownNames, known_names}

anything : {X : Type 0} (xs : List X) → All (λ _. Unit {0}) xs
anything xs k d within = tt

-- ---- variables of clauses

module _ (count : ℕ) where
  literal_known : (x : ℕ) → x < count → IsAtomOf count (literal x)
  literal_known x h = (h, omega arith)

  negated_known : (x : ℕ) → x < count → IsAtomOf count (negated x)
  negated_known x h = (h, omega arith)

  of_one : (a : Atom) → IsAtomOf count a → IsClauseOf count (clause (a ∷ []))
  of_one a h = All-cons (IsAtomOf count) a [] h (All-nil (IsAtomOf count))

  of_two : (a b : Atom) → IsAtomOf count a → IsAtomOf count b → IsClauseOf count (clause (a ∷ b ∷ []))
  of_two a b h k = All-cons (IsAtomOf count) a (b ∷ []) h (of_one b k)

  of_four : (a b c d : Atom) → IsAtomOf count a → IsAtomOf count b → IsAtomOf count c → IsAtomOf count d → IsClauseOf count (clause (a ∷ b ∷ c ∷ d ∷ []))
  of_four a b c d h k l m = All-cons (IsAtomOf count) a (b ∷ c ∷ d ∷ []) h (All-cons (IsAtomOf count) b (c ∷ d ∷ []) k (of_two c d l m))

  one_clause : (c : Clause) → IsClauseOf count c → All (IsClauseOf count) (c ∷ [])
  one_clause c h = All-cons (IsClauseOf count) c [] h (All-nil (IsClauseOf count))

  two_clauses : (c d : Clause) → IsClauseOf count c → IsClauseOf count d → All (IsClauseOf count) (c ∷ d ∷ [])
  two_clauses c d h k = All-cons (IsClauseOf count) c (d ∷ []) h (one_clause d k)

  implication_known : (x y : ℕ) → x < count → y < count → IsClauseOf count (implication x y)
  implication_known x y h k = of_two (negated x) (literal y) (negated_known x h) (literal_known y k)

  refinement_known : (elements x : ℕ) (r : Refinement) → elements ≤ count → x < count → HasKnownElements elements r → All (IsClauseOf count) (refinement_clauses (x, r))
  refinement_known elements x r few within known =
      let sources : All (λ source. source < count) r.sources = λ k d l. (let here = known.sources k d l in omega arith) in
      let target = known.target in
      let converse = clause (map negated r.sources ++ literal x ∷ []) in
      All-append (IsClauseOf count) (map (implication x) r.sources) (converse ∷ implication x r.target ∷ [])
      (All-map (IsClauseOf count) (implication x) r.sources (λ k d l. implication_known x (get_or r.sources k d) within (sources k d l)))
      (two_clauses converse (implication x r.target)
      (All-append (IsAtomOf count) (map negated r.sources) (literal x ∷ [])
      (All-map (IsAtomOf count) negated r.sources (λ k d l. negated_known (get_or r.sources k d) (sources k d l)))
      (All-cons (IsAtomOf count) (literal x) [] (literal_known x within) (All-nil (IsAtomOf count))))
      (implication_known x r.target within (omega arith)))

  element_known : (x : ℕ) (rs : List ℕ) → x < count → All (λ r. r < count) rs → All (IsClauseOf count) (element_clauses x rs)
  element_known x [] within known = All-nil (IsClauseOf count)
  element_known x (r ∷ rs) within known =
      one_clause (clause (negated x ∷ map literal (r ∷ rs)))
      (All-cons (IsAtomOf count) (negated x) (map literal (r ∷ rs)) (negated_known x within)
      (All-map (IsAtomOf count) literal (r ∷ rs) (λ k d l. literal_known (get_or (r ∷ rs) k d) (known k d l))))

  must_by : (t : Bool) (x : ℕ) → x < count → All (IsClauseOf count) (cond t (clause (literal x ∷ []) ∷ []) [])
  must_by true x h = one_clause (clause (literal x ∷ [])) (of_one (literal x) (literal_known x h))
  must_by false x h = All-nil (IsClauseOf count)

  asserted_by : (t : Bool) (x : ℕ) → x < count → IsClauseOf count (clause (cond t (literal x) (negated x) ∷ []))
  asserted_by true x h = of_one (literal x) (literal_known x h)
  asserted_by false x h = of_one (negated x) (negated_known x h)

-- ---- groups

module _ (P : Clause → Type 0) where
  mapped_all : {X : Type 0} (f : X → Clause) (xs : List X) → All (λ x. P (f x)) xs → All P (map f xs)
  mapped_all f xs h = All-map P f xs h

  flattened_all : {X : Type 0} (f : X → List Clause) (A : X → Type 0) (xs : List X) → All A xs → ((x : X) → A x → All P (f x)) → All P (flat_map f xs)
  flattened_all f A xs all h =
      whole_all (flattened f) (all_of f) P 0 xs (flattened-steps f) (λ _. refl)
      (each_from A (λ k x. All P (f x)) (length xs) 0 xs (omega arith) all (λ k x within is. h x is))

  numbered_all : {X : Type 0} (f : ℕ × X → List Clause) (first : ℕ) (A : X → Type 0) (xs : List X) → All A xs → ((k : ℕ) (x : X) → k < length xs → A x → All P (f (first + k, x))) → All P (flat_map f (enumerate_from first xs))
  numbered_all f first A xs all h =
      subst (λ (clauses : List Clause). All P clauses) (numbered-all f first xs)
      (whole_all (numbered f first) (all_at f first) P 0 xs (numbered-steps f first) (λ _. refl)
      (each_from A (λ k x. All P (f (first + k, x))) (length xs) 0 xs (omega arith) all h))

flattened_few : {X : Type 0} (f : X → List Clause) (most : ℕ) (xs : List X) → ((x : X) → length (f x) ≤ most) → length (flat_map f xs) ≤ length xs * most
flattened_few f most xs h =
    whole_few (flattened f) (all_of f) most 0 xs (flattened-steps f) (λ _. refl)
    (each_from (λ _. Unit {0}) (λ k x. length (f x) ≤ most) (length xs) 0 xs (omega arith) (anything xs) (λ k x within _. h x))

numbered_few : {X : Type 0} (f : ℕ × X → List Clause) (first most : ℕ) (A : X → Type 0) (xs : List X) → All A xs → ((k : ℕ) (x : X) → A x → length (f (k, x)) ≤ most) → length (flat_map f (enumerate_from first xs)) ≤ length xs * most
numbered_few f first most A xs all h =
    subst (λ (clauses : List Clause). length clauses ≤ length xs * most) (numbered-all f first xs)
    (whole_few (numbered f first) (all_at f first) most 0 xs (numbered-steps f first) (λ _. refl)
    (each_from A (λ k x. length (f (first + k, x)) ≤ most) (length xs) 0 xs (omega arith) all (λ k x within is. h (first + k) x is)))

-- ---- all clauses have variables of elements and refinements

enumerated_below : (first count : ℕ) (refinements : List Refinement) → first + length refinements ≤ count → All (λ r. r.0 < count) (enumerate_from first refinements)
enumerated_below first count refinements few k d within =
    let same = length-enumerate_from first refinements in
    let inside : k < length refinements = omega arith in
    subst (λ (r : ℕ × Refinement). r.0 < count) (sym (get_or-enumerate_from first refinements k d inside)) (omega arith)

variables_below : (first count : ℕ) (refinements : List Refinement) (element : ℕ) → first + length refinements ≤ count → All (λ x. x < count) (variables_for (enumerate_from first refinements) element)
variables_below first count refinements element few =
    All-map (λ x. x < count) (λ (r : ℕ × Refinement). r.0) (filter (λ r. r.1.target == element) (enumerate_from first refinements))
    (All-filter (λ (r : ℕ × Refinement). r.1.target == element) (λ r. r.0 < count) (enumerate_from first refinements) (enumerated_below first count refinements few))

target_below : (m : Lists) (k : ℕ) → HasKnownNames m → k < length m.refinements → target_of m k < length m.elements
target_below m k known within =
    let same = length-map m.refinements (λ (r : Refinement). r.target) in
    All-map (λ t. t < length m.elements) (λ (r : Refinement). r.target) m.refinements (λ i d l. (known.refinements i d l).target) k 0 (omega arith)

module _ (m : Lists) (known : HasKnownNames m) where
  refinements_are_known : All (IsClauseOf (truth_variables m)) (refinement_group m)
  refinements_are_known =
      let count = truth_variables m in
      let of_element = λ (e : ℕ × Element). element_clauses e.0 (variables_for (numbered_refinements m) e.0) in
      All-append (IsClauseOf count) (flat_map refinement_clauses (numbered_refinements m)) (flat_map of_element (numbered_elements m))
      (numbered_all (IsClauseOf count) refinement_clauses (length m.elements) (HasKnownElements (length m.elements)) m.refinements known.refinements
      (λ k r within is. refinement_known count (length m.elements) (length m.elements + k) r (omega arith) (omega arith) is))
      (numbered_all (IsClauseOf count) of_element 0 (λ _. Unit {0}) m.elements (anything m.elements)
      (λ k e within _. element_known count (0 + k) (variables_for (numbered_refinements m) (0 + k)) (omega arith) (variables_below (length m.elements) count m.refinements (0 + k) (omega arith))))

  edges_are_known : All (IsClauseOf (truth_variables m)) (edge_group m)
  edges_are_known =
      let count = truth_variables m in
      All-append (IsClauseOf count) (map contrib_clause m.contribs) (map conflict_clause m.conflicts ++ flat_map (bind_clauses m) m.binds)
      (mapped_all (IsClauseOf count) contrib_clause m.contribs
      (All-weaker (IsEdgeOf (length m.elements)) (λ e. IsClauseOf count (contrib_clause e))
      (λ e is. (let from = is.0 in let to = is.1 in implication_known count e.from e.to (omega arith) (omega arith))) m.contribs known.contribs))
      (All-append (IsClauseOf count) (map conflict_clause m.conflicts) (flat_map (bind_clauses m) m.binds)
      (mapped_all (IsClauseOf count) conflict_clause m.conflicts
      (All-weaker (IsEdgeOf (length m.elements)) (λ e. IsClauseOf count (conflict_clause e))
      (λ e is. (let from = is.0 in let to = is.1 in of_two count (negated e.from) (negated e.to) (negated_known count e.from (omega arith)) (negated_known count e.to (omega arith)))) m.conflicts known.conflicts))
      (flattened_all (IsClauseOf count) (bind_clauses m) (IsEdgeOf (length m.refinements)) m.binds known.binds (λ e is. bind_known e is)))
    where
      bind_known : (e : Edge) → IsEdgeOf (length m.refinements) e → All (IsClauseOf (truth_variables m)) (bind_clauses m e)
      bind_known e is =
          let count = truth_variables m in
          let from = is.0 in
          let to = is.1 in
          let one = target_below m e.from known from in
          let other = target_below m e.to known to in
          let e1 = target_of m e.from in
          let e2 = target_of m e.to in
          let r1 = length m.elements + e.from in
          let r2 = length m.elements + e.to in
          let h : e1 < count = omega arith in
          let k : e2 < count = omega arith in
          let p : r1 < count = omega arith in
          let q : r2 < count = omega arith in
          two_clauses count (clause (negated e1 ∷ negated e2 ∷ negated r1 ∷ literal r2 ∷ [])) (clause (negated e1 ∷ negated e2 ∷ literal r1 ∷ negated r2 ∷ []))
          (of_four count (negated e1) (negated e2) (negated r1) (literal r2) (negated_known count e1 h) (negated_known count e2 k) (negated_known count r1 p) (literal_known count r2 q))
          (of_four count (negated e1) (negated e2) (literal r1) (negated r2) (negated_known count e1 h) (negated_known count e2 k) (literal_known count r1 p) (negated_known count r2 q))

  facts_are_known : All (IsClauseOf (truth_variables m)) (fact_group m)
  facts_are_known =
      let count = truth_variables m in
      All-append (IsClauseOf count) (flat_map must_clauses (numbered_elements m)) (map assertion_clause m.asserts)
      (numbered_all (IsClauseOf count) must_clauses 0 (λ _. Unit {0}) m.elements (anything m.elements)
      (λ k e within _. must_by count e.must (0 + k) (omega arith)))
      (mapped_all (IsClauseOf count) assertion_clause m.asserts
      (All-weaker (IsAssertion m) (λ s. IsClauseOf count (assertion_clause s)) (λ s is. asserted_by count s.truth s.element (omega arith)) m.asserts known.asserts))

  written_are_known : All (IsClauseOf (truth_variables m)) (written_clauses m)
  written_are_known =
      All-append (IsClauseOf (truth_variables m)) (refinement_group m) (edge_group m ++ fact_group m) refinements_are_known
      (All-append (IsClauseOf (truth_variables m)) (edge_group m) (fact_group m) edges_are_known facts_are_known)

  -- ---- how many they are

  refinement_few : (x : ℕ) (r : Refinement) → length r.sources ≤ limit_number limits.Sources → length (refinement_clauses (x, r)) ≤ 258
  refinement_few x r few =
      let total = length-append (map (implication x) r.sources) (clause (map negated r.sources ++ literal x ∷ []) ∷ implication x r.target ∷ []) in
      let same = length-map r.sources (implication x) in
      omega arith

  element_few : (x : ℕ) (rs : List ℕ) → length (element_clauses x rs) ≤ 1
  element_few x [] = omega arith
  element_few x (r ∷ rs) = omega arith

  must_few : (t : Bool) (x : ℕ) → length (cond t (clause (literal x ∷ []) ∷ []) []) ≤ 1
  must_few true x = omega arith
  must_few false x = omega arith

  written_are_few : length (written_clauses m) ≤ max_graph_clauses
  written_are_few =
      let of_element = λ (e : ℕ × Element). element_clauses e.0 (variables_for (numbered_refinements m) e.0) in
      let rs = flat_map refinement_clauses (numbered_refinements m) in
      let es = flat_map of_element (numbered_elements m) in
      let cs = map contrib_clause m.contribs in
      let fs = map conflict_clause m.conflicts in
      let bs = flat_map (bind_clauses m) m.binds in
      let ms = flat_map must_clauses (numbered_elements m) in
      let xs = map assertion_clause m.asserts in
      let refinements : length rs ≤ length m.refinements * 258 = numbered_few refinement_clauses (length m.elements) 258 (λ r. length r.sources ≤ limit_number limits.Sources) m.refinements known.few_sources refinement_few in
      let elements : length es ≤ length m.elements * 1 = numbered_few of_element 0 1 (λ _. Unit {0}) m.elements (anything m.elements) (λ k e _. element_few k (variables_for (numbered_refinements m) k)) in
      let contribs : length cs ≡ length m.contribs = length-map m.contribs contrib_clause in
      let conflicts : length fs ≡ length m.conflicts = length-map m.conflicts conflict_clause in
      let binds : length bs ≤ length m.binds * 2 = flattened_few (bind_clauses m) 2 m.binds (λ e. omega arith) in
      let musts : length ms ≤ length m.elements * 1 = numbered_few must_clauses 0 1 (λ _. Unit {0}) m.elements (anything m.elements) (λ k e _. must_few e.must k) in
      let asserts : length xs ≡ length m.asserts = length-map m.asserts assertion_clause in
      let one = length-append rs es in
      let two = length-append fs bs in
      let three = length-append cs (fs ++ bs) in
      let four = length-append ms xs in
      let five = length-append (cs ++ (fs ++ bs)) (ms ++ xs) in
      let six = length-append (rs ++ es) ((cs ++ (fs ++ bs)) ++ (ms ++ xs)) in
      let statements = known.statements in
      omega arith

pub graph_clauses_known : (m : Lists) → ∥ IsWellFormedModel m ∥₁ → All (IsClauseOf (truth_variables m)) (graph_clauses m)
unfolding graph_clauses
graph_clauses_known m well =
    let count = truth_variables m in
    All-map (IsClauseOf count) without_repeats (written_clauses m)
    (λ k d l. All-first_atoms (IsAtomOf count) [] (get_or (written_clauses m) k d).atoms (written_are_known m (known_names m well) k d l))

pub graph_clauses_few : (m : Lists) → ∥ IsWellFormedModel m ∥₁ → length (graph_clauses m) ≤ max_graph_clauses
unfolding graph_clauses
graph_clauses_few m well =
    let same = length-map (written_clauses m) without_repeats in
    let few = written_are_few m (known_names m well) in
    omega arith

wider : (few more : ℕ) → few ≤ more → (c : Clause) → IsClauseOf few c → IsClauseOf more c
wider few more h c known = All-weaker (IsAtomOf few) (IsAtomOf more) (λ a is. (let within = is.0 in omega arith, is.1)) c.atoms known

-- a builder with a variable for each takes them all
pub graph_can_be_added : (m : Lists) (p : Instance) → ∥ IsWellFormedModel m ∥₁ → truth_variables m ≤ var_count p → length p.clauses ≤ 2 ^ 31 → CanTake p (written_clauses m)
graph_can_be_added m p well variables clauses =
    let few = written_are_few m (known_names m well) in
    record {
      known = All-weaker (IsClauseOf (truth_variables m)) (IsClauseOf (var_count p)) (wider (truth_variables m) (var_count p) variables) (written_clauses m) (written_are_known m (known_names m well));
      room = omega arith;
    }
