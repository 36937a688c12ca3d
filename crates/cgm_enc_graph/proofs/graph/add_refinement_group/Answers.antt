use Rattle.std.proofs.Common.{◌≡◌, ℕ, ◌<◌, List, length, get_or, ap, ◌∙◌, subst, sym, arith}
use Rattle.std.specs.List.{enumerate_from, flat_map}
use Rattle.std.proofs.lemmas.Result.{on_ok_weaker}
use Rattle.cgm_atom.specs.declared.constraints.Clause.{Clause}
use Rattle.cgm_atom.specs.Adding.{CanTake, with_written}
use Rattle.cgm_atom.proofs.Additions.{first_left, left_all, left_last, left_more}
use Rattle.cgm_model.specs.declared.lists.Element.{Element}
use Rattle.cgm_model.specs.declared.lists.Refinement.{Refinement}
use Rattle.cgm_model.specs.Model.{lists_of}
use Rattle.cgm_enc_graph.specs.GraphClauses.{element_clauses, refinement_clauses, refinement_group, numbered_elements, numbered_refinements, variables_for}
use Rattle.cgm_enc_graph.proofs.KnownNames.{known_names}
use Rattle.cgm_enc_graph.proofs.VariableLists.{listed_model}
use Rattle.cgm_enc_graph.proofs.graph.add_refinement_group.Goals as goal

pub add_refinements-requires-clause-few : goal.add_refinements-requires-clause-few
add_refinements-requires-clause-few c =
    let m = lists_of c.args.model.now in
    let known = known_names m c.args.model.now.well_formed in
    let elements = known.few_elements in
    let refinements = known.few_refinements in
    let rs = ap (λ (xs : List Refinement). length xs) c.as_slice-refinements.ensures in
    let count = ap (λ (xs : List Element). length xs) c.as_slice-count.ensures in
    omega arith

pub add_refinements-requires-clause-room : goal.add_refinements-requires-clause-room
add_refinements-requires-clause-room c =
    let m = lists_of c.args.model.now in
    let b = c.args.builder.now in
    let refinements = c.as_slice-refinements.result.now in
    let rs = flat_map refinement_clauses (numbered_refinements m) in
    let es = flat_map (λ (e : ℕ × Element). element_clauses e.0 (variables_for (numbered_refinements m) e.0)) (numbered_elements m) in
    let numbered : enumerate_from (length c.as_slice-count.result.now) refinements ≡ numbered_refinements m =
    ap (λ (xs : List Element). enumerate_from (length xs) refinements) c.as_slice-count.ensures
    ∙ ap (λ (xs : List Refinement). enumerate_from (length m.elements) xs) c.as_slice-refinements.ensures in
    subst (λ (xs : List (ℕ × Refinement)). CanTake b (flat_map refinement_clauses xs)) (sym numbered)
    (first_left b b (refinement_group m) rs es (left_all b (refinement_group m) c.requires))

pub by_target-requires-clause-known : goal.by_target-requires-clause-known
by_target-requires-clause-known c = λ k d l.
    let m = lists_of c.args.model.now in
    let known = known_names m c.args.model.now.well_formed in
    let rs = c.as_slice-refinements.ensures in
    let count = ap (λ (xs : List Element). length xs) c.as_slice-count.ensures in
    let within : k < length m.refinements = subst (λ (xs : List Refinement). k < length xs) rs l in
    let target = (known.refinements k d within).target in
    let same = ap (λ (xs : List Refinement). (get_or xs k d).target) rs in
    omega arith

pub by_target-requires-clause-few : goal.by_target-requires-clause-few
by_target-requires-clause-few c =
    let m = lists_of c.args.model.now in
    let known = known_names m c.args.model.now.well_formed in
    let elements = known.few_elements in
    let refinements = known.few_refinements in
    let rs = ap (λ (xs : List Refinement). length xs) c.as_slice-refinements.ensures in
    let count = ap (λ (xs : List Element). length xs) c.as_slice-count.ensures in
    omega arith

pub add_elements-requires-clause-few : goal.add_elements-requires-clause-few
add_elements-requires-clause-few c =
    let m = lists_of c.args.model.now in
    let elements = (known_names m c.args.model.now.well_formed).few_elements in
    let count = ap (λ (xs : List Element). length xs) c.as_slice-count.ensures in
    let lists = ap (λ (xs : List (List ℕ)). length xs) c.as_slice.ensures.value in
    let same = c.in_ok-lists.ensures.count in
    omega arith

pub add_elements-requires-clause-room : goal.add_elements-requires-clause-room
add_elements-requires-clause-room c =
    let m = lists_of c.args.model.now in
    let b = c.args.builder.now in
    let refinements = c.as_slice-refinements.result.now in
    let elements = c.as_slice-count.result.now in
    let rs = flat_map refinement_clauses (numbered_refinements m) in
    let es = flat_map (λ (e : ℕ × Element). element_clauses e.0 (variables_for (numbered_refinements m) e.0)) (numbered_elements m) in
    let clauses_of : List (List ℕ) → List Clause = λ lists. flat_map (λ (e : ℕ × List ℕ). element_clauses e.0 e.1) (enumerate_from 0 lists) in
    let numbered : enumerate_from (length elements) refinements ≡ numbered_refinements m =
    ap (λ (xs : List Element). enumerate_from (length xs) refinements) c.as_slice-count.ensures
    ∙ ap (λ (xs : List Refinement). enumerate_from (length m.elements) xs) c.as_slice-refinements.ensures in
    let added : c.add_refinements.new.builder ≡ with_written b rs =
    c.in_ok-add_refinements.ensures ∙ ap (λ (xs : List (ℕ × Refinement)). with_written b (flat_map refinement_clauses xs)) numbered in
    let lists : clauses_of c.as_slice.result.now ≡ es =
    ap clauses_of c.as_slice.ensures.value
    ∙ listed_model m c.in_ok-lists.lists.items elements refinements c.as_slice-count.ensures c.as_slice-refinements.ensures c.in_ok-lists.ensures.count c.in_ok-lists.ensures.lists in
    let far = left_more b b c.add_refinements.new.builder (refinement_group m) rs es (left_all b (refinement_group m) c.requires) added in
    subst (λ (clauses : List Clause). CanTake c.add_refinements.new.builder clauses) (sym lists) far.room

pub returns : goal.returns
returns c =
    let m = lists_of c.args.model.now in
    let b = c.args.builder.now in
    let refinements = c.as_slice-refinements.result.now in
    let elements = c.as_slice-count.result.now in
    let rs = flat_map refinement_clauses (numbered_refinements m) in
    let es = flat_map (λ (e : ℕ × Element). element_clauses e.0 (variables_for (numbered_refinements m) e.0)) (numbered_elements m) in
    let clauses_of : List (List ℕ) → List Clause = λ lists. flat_map (λ (e : ℕ × List ℕ). element_clauses e.0 e.1) (enumerate_from 0 lists) in
    let numbered : enumerate_from (length elements) refinements ≡ numbered_refinements m =
    ap (λ (xs : List Element). enumerate_from (length xs) refinements) c.as_slice-count.ensures
    ∙ ap (λ (xs : List Refinement). enumerate_from (length m.elements) xs) c.as_slice-refinements.ensures in
    let added : c.add_refinements.new.builder ≡ with_written b rs =
    c.in_ok-add_refinements.ensures ∙ ap (λ (xs : List (ℕ × Refinement)). with_written b (flat_map refinement_clauses xs)) numbered in
    let lists : clauses_of c.as_slice.result.now ≡ es =
    ap clauses_of c.as_slice.ensures.value
    ∙ listed_model m c.in_ok-lists.lists.items elements refinements c.as_slice-count.ensures c.as_slice-refinements.ensures c.in_ok-lists.ensures.count c.in_ok-lists.ensures.lists in
    let far = left_more b b c.add_refinements.new.builder (refinement_group m) rs es (left_all b (refinement_group m) c.requires) added in
    on_ok_weaker c.add_elements.result
    (λ more. left_last b c.add_refinements.new.builder c.add_elements.new.builder (refinement_group m) es far (more ∙ ap (λ (clauses : List Clause). with_written c.add_refinements.new.builder clauses) lists))
    c.add_elements.ensures
