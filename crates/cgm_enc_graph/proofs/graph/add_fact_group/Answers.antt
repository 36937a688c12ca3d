use Rattle.std.proofs.Common.{List, length, map, ap, ◌∙◌, subst, sym, arith}
use Rattle.std.specs.List.{enumerate_from, flat_map}
use Rattle.std.proofs.lemmas.Result.{on_ok_weaker}
use Rattle.cgm_atom.specs.Adding.{CanTake, with_written}
use Rattle.cgm_atom.proofs.Additions.{first_left, left_all, left_last, left_more}
use Rattle.cgm_model.specs.declared.lists.Assertion.{Assertion}
use Rattle.cgm_model.specs.declared.lists.Element.{Element}
use Rattle.cgm_model.specs.Model.{lists_of}
use Rattle.cgm_enc_graph.specs.GraphClauses.{assertion_clause, fact_group, must_clauses}
use Rattle.cgm_enc_graph.proofs.KnownNames.{known_names}
use Rattle.cgm_enc_graph.proofs.graph.add_fact_group.Goals as goal

pub add_musts-requires-clause-few : goal.add_musts-requires-clause-few
add_musts-requires-clause-few c =
    let few = (known_names (lists_of c.args.model.now) c.args.model.now.well_formed).few_elements in
    let count = ap (λ (xs : List Element). length xs) c.as_slice.ensures in
    omega arith

pub add_musts-requires-clause-room : goal.add_musts-requires-clause-room
add_musts-requires-clause-room c =
    let m = lists_of c.args.model.now in
    let b = c.args.builder.now in
    let musts = flat_map must_clauses (enumerate_from 0 m.elements) in
    let asserts = map assertion_clause m.asserts in
    subst (λ (xs : List Element). CanTake b (flat_map must_clauses (enumerate_from 0 xs))) (sym c.as_slice.ensures)
    (first_left b b (fact_group m) musts asserts (left_all b (fact_group m) c.requires))

pub add_asserts-requires : goal.add_asserts-requires
add_asserts-requires c =
    let m = lists_of c.args.model.now in
    let b = c.args.builder.now in
    let musts = flat_map must_clauses (enumerate_from 0 m.elements) in
    let asserts = map assertion_clause m.asserts in
    let added = c.in_ok-add_musts.ensures ∙ ap (λ (xs : List Element). with_written b (flat_map must_clauses (enumerate_from 0 xs))) c.as_slice.ensures in
    let far = left_more b b c.add_musts.new.builder (fact_group m) musts asserts (left_all b (fact_group m) c.requires) added in
    subst (λ (xs : List Assertion). CanTake c.add_musts.new.builder (map assertion_clause xs)) (sym c.as_slice-2.ensures) far.room

pub returns : goal.returns
returns c =
    let m = lists_of c.args.model.now in
    let b = c.args.builder.now in
    let musts = flat_map must_clauses (enumerate_from 0 m.elements) in
    let asserts = map assertion_clause m.asserts in
    let added = c.in_ok-add_musts.ensures ∙ ap (λ (xs : List Element). with_written b (flat_map must_clauses (enumerate_from 0 xs))) c.as_slice.ensures in
    let far = left_more b b c.add_musts.new.builder (fact_group m) musts asserts (left_all b (fact_group m) c.requires) added in
    on_ok_weaker c.add_asserts.result
    (λ last.
    left_last b c.add_musts.new.builder c.add_asserts.new.builder (fact_group m) asserts far
    (last ∙ ap (λ (xs : List Assertion). with_written c.add_musts.new.builder (map assertion_clause xs)) c.as_slice-2.ensures))
    c.add_asserts.ensures
