-- The clauses of a goal graph, by group in their order. In comments a name stands for its literal, and `~` is negation.
use Rattle.std.specs.Prelude.{ℕ, ◌==◌, cond, if◌then◌else◌, List, [], ◌∷◌, ◌++◌, length, map, filter, flat_map, slice_index}
use Rattle.std.specs.List.{enumerate_from}
use Rattle.cgm_atom.specs.declared.constraints.Clause.{Clause}
use Rattle.cgm_atom.specs.Building.{without_repeats}
use Rattle.cgm_atom.specs.Literals.{clause, implication, literal, negated}
use Rattle.cgm_formula.specs.declared.formula.Truth.TheVariants.{Refinement as RefinementName}
use Rattle.cgm_model.specs.declared.lists.Assertion.{Assertion}
use Rattle.cgm_model.specs.declared.lists.Edge.{Edge}
use Rattle.cgm_model.specs.declared.lists.Element.{Element}
use Rattle.cgm_model.specs.declared.lists.Lists.{Lists}
use Rattle.cgm_model.specs.declared.lists.Refinement.{Refinement}
use Rattle.cgm_model.specs.TruthVariables.{variable_of}

-- elements and refinements, each with its variable
abbrev pub numbered_elements : Lists → List (ℕ × Element)
numbered_elements m = enumerate_from 0 m.elements

abbrev pub numbered_refinements : Lists → List (ℕ × Refinement)
numbered_refinements m = enumerate_from (length m.elements) m.refinements

-- of a refinement R with sources E1 .. En and target T: for each i `~R Ei`, then `~E1 .. ~En R`, then `~R T`
abbrev pub refinement_clauses : ℕ × Refinement → List Clause
refinement_clauses r =
    map (implication r.0) r.1.sources
    ++ clause (map negated r.1.sources ++ literal r.0 ∷ [])
    ∷ implication r.0 r.1.target
    ∷ []

-- the variables of those refinements that have the element as target
abbrev pub variables_for : List (ℕ × Refinement) → ℕ → List ℕ
variables_for refinements element = map (λ r. r.0) (filter (λ r. r.1.target == element) refinements)

-- of an element E with refinements R1 .. Rk: `~E R1 .. Rk`; without refinements none
abbrev pub element_clauses : ℕ → List ℕ → List Clause
element_clauses e [] = []
element_clauses e (r ∷ rs) = clause (negated e ∷ map literal (r ∷ rs)) ∷ []

-- of a contribution A B: `~A B`
abbrev pub contrib_clause : Edge → Clause
contrib_clause e = implication e.from e.to

-- of a conflict A B: `~A ~B`
abbrev pub conflict_clause : Edge → Clause
conflict_clause e = clause (negated e.from ∷ negated e.to ∷ [])

-- the target of the refinement with this number
abbrev pub target_of : Lists → ℕ → ℕ
target_of m k = slice_index (map (λ r. r.target) m.refinements) k

-- of bound refinements R1 R2 with targets E1 E2: `~E1 ~E2 ~R1 R2`, then `~E1 ~E2 R1 ~R2`
abbrev pub bind_clauses : Lists → Edge → List Clause
bind_clauses m e =
    let r1 = variable_of m (RefinementName e.from) in
    let r2 = variable_of m (RefinementName e.to) in
    let e1 = target_of m e.from in
    let e2 = target_of m e.to in
    clause (negated e1 ∷ negated e2 ∷ negated r1 ∷ literal r2 ∷ [])
    ∷ clause (negated e1 ∷ negated e2 ∷ literal r1 ∷ negated r2 ∷ [])
    ∷ []

-- of a goal E with `must`: `E`
abbrev pub must_clauses : ℕ × Element → List Clause
must_clauses e = if e.1.must then clause (literal e.0 ∷ []) ∷ [] else []

-- of an assertion that E is true: `E`; that it is false: `~E`
abbrev pub assertion_clause : Assertion → Clause
assertion_clause a = clause (cond a.truth (literal a.element) (negated a.element) ∷ [])

-- refinements and the elements that they refine
abbrev pub refinement_group : Lists → List Clause
refinement_group m =
    flat_map refinement_clauses (numbered_refinements m)
    ++ flat_map (λ e. element_clauses e.0 (variables_for (numbered_refinements m) e.0)) (numbered_elements m)

-- contributions, conflicts and bindings
abbrev pub edge_group : Lists → List Clause
edge_group m = map contrib_clause m.contribs ++ (map conflict_clause m.conflicts ++ flat_map (bind_clauses m) m.binds)

-- goals with `must` and assertions
abbrev pub fact_group : Lists → List Clause
fact_group m = flat_map must_clauses (numbered_elements m) ++ map assertion_clause m.asserts

-- all of them in order, as they are written
abbrev pub written_clauses : Lists → List Clause
written_clauses m = refinement_group m ++ (edge_group m ++ fact_group m)

-- a later equal atom of a clause is dropped
unfoldable pub graph_clauses : Lists → List Clause
graph_clauses m = map without_repeats (written_clauses m)
