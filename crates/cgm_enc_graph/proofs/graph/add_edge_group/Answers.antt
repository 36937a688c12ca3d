use Rattle.std.proofs.Common.{◌++◌, List, All, length, map, ap, ◌∙◌, subst, sym}
use Rattle.std.specs.List.{flat_map}
use Rattle.std.proofs.lemmas.Result.{on_ok_weaker}
use Rattle.cgm_atom.specs.Adding.{CanTake, with_written}
use Rattle.cgm_atom.proofs.Additions.{first_left, left_all, left_last, left_more}
use Rattle.cgm_model.specs.declared.lists.Edge.{Edge}
use Rattle.cgm_model.specs.Model.{lists_of}
use Rattle.cgm_model.specs.Statement.{IsEdgeOf}
use Rattle.cgm_enc_graph.specs.GraphClauses.{bind_clauses, conflict_clause, contrib_clause, edge_group}
use Rattle.cgm_enc_graph.proofs.KnownNames.{known_names}
use Rattle.cgm_enc_graph.proofs.graph.add_edge_group.Goals as goal

pub add_contribs-requires : goal.add_contribs-requires
add_contribs-requires c =
    let m = lists_of c.args.model.now in
    let b = c.args.builder.now in
    let contribs = map contrib_clause m.contribs in
    let conflicts = map conflict_clause m.conflicts in
    let binds = flat_map (bind_clauses m) m.binds in
    subst (λ (xs : List Edge). CanTake b (map contrib_clause xs)) (sym c.as_slice.ensures)
    (first_left b b (edge_group m) contribs (conflicts ++ binds) (left_all b (edge_group m) c.requires))

pub add_conflicts-requires : goal.add_conflicts-requires
add_conflicts-requires c =
    let m = lists_of c.args.model.now in
    let b = c.args.builder.now in
    let contribs = map contrib_clause m.contribs in
    let conflicts = map conflict_clause m.conflicts in
    let binds = flat_map (bind_clauses m) m.binds in
    let added = c.in_ok-add_contribs.ensures ∙ ap (λ (xs : List Edge). with_written b (map contrib_clause xs)) c.as_slice.ensures in
    let far = left_more b b c.add_contribs.new.builder (edge_group m) contribs (conflicts ++ binds) (left_all b (edge_group m) c.requires) added in
    subst (λ (xs : List Edge). CanTake c.add_contribs.new.builder (map conflict_clause xs)) (sym c.as_slice-2.ensures)
    (first_left b c.add_contribs.new.builder (edge_group m) conflicts binds far)

pub add_binds-requires-clause-room : goal.add_binds-requires-clause-room
add_binds-requires-clause-room c =
    let m = lists_of c.args.model.now in
    let b = c.args.builder.now in
    let contribs = map contrib_clause m.contribs in
    let conflicts = map conflict_clause m.conflicts in
    let binds = flat_map (bind_clauses m) m.binds in
    let added = c.in_ok-add_contribs.ensures ∙ ap (λ (xs : List Edge). with_written b (map contrib_clause xs)) c.as_slice.ensures in
    let far = left_more b b c.add_contribs.new.builder (edge_group m) contribs (conflicts ++ binds) (left_all b (edge_group m) c.requires) added in
    let more = c.in_ok-add_conflicts.ensures ∙ ap (λ (xs : List Edge). with_written c.add_contribs.new.builder (map conflict_clause xs)) c.as_slice-2.ensures in
    let next = left_more b c.add_contribs.new.builder c.add_conflicts.new.builder (edge_group m) conflicts binds far more in
    subst (λ (xs : List Edge). CanTake c.add_conflicts.new.builder (flat_map (bind_clauses m) xs)) (sym c.as_slice-3.ensures) next.room

pub add_binds-requires-clause-known : goal.add_binds-requires-clause-known
add_binds-requires-clause-known c =
    let m = lists_of c.args.model.now in
    subst (λ (xs : List Edge). All (IsEdgeOf (length m.refinements)) xs) (sym c.as_slice-3.ensures) (known_names m c.args.model.now.well_formed).binds

pub returns : goal.returns
returns c =
    let m = lists_of c.args.model.now in
    let b = c.args.builder.now in
    let contribs = map contrib_clause m.contribs in
    let conflicts = map conflict_clause m.conflicts in
    let binds = flat_map (bind_clauses m) m.binds in
    let added = c.in_ok-add_contribs.ensures ∙ ap (λ (xs : List Edge). with_written b (map contrib_clause xs)) c.as_slice.ensures in
    let far = left_more b b c.add_contribs.new.builder (edge_group m) contribs (conflicts ++ binds) (left_all b (edge_group m) c.requires) added in
    let more = c.in_ok-add_conflicts.ensures ∙ ap (λ (xs : List Edge). with_written c.add_contribs.new.builder (map conflict_clause xs)) c.as_slice-2.ensures in
    let next = left_more b c.add_contribs.new.builder c.add_conflicts.new.builder (edge_group m) conflicts binds far more in
    on_ok_weaker c.add_binds.result
    (λ last.
    left_last b c.add_conflicts.new.builder c.add_binds.new.builder (edge_group m) binds next
    (last ∙ ap (λ (xs : List Edge). with_written c.add_conflicts.new.builder (flat_map (bind_clauses m) xs)) c.as_slice-3.ensures))
    c.add_binds.ensures
