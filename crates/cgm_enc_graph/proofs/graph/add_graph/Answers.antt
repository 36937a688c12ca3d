use Rattle.std.proofs.Common.{◌++◌}
use Rattle.std.proofs.lemmas.Result.{on_ok_weaker}
use Rattle.cgm_atom.proofs.Additions.{first_left, left_all, left_last, left_more}
use Rattle.cgm_model.specs.Model.{lists_of}
use Rattle.cgm_enc_graph.specs.GraphClauses.{edge_group, fact_group, graph_clauses, refinement_group, written_clauses}
use Rattle.cgm_enc_graph.proofs.GraphSizes.{graph_can_be_added}
use Rattle.cgm_enc_graph.proofs.graph.add_graph.Goals as goal

pub add_refinement_group-requires : goal.add_refinement_group-requires
add_refinement_group-requires c =
    let m = lists_of c.args.model.now in
    let b = c.args.builder.now in
    let room = graph_can_be_added m b c.args.model.now.well_formed c.requires.variables c.requires.room in
    first_left b b (written_clauses m) (refinement_group m) (edge_group m ++ fact_group m) (left_all b (written_clauses m) room)

pub add_edge_group-requires : goal.add_edge_group-requires
add_edge_group-requires c =
    let m = lists_of c.args.model.now in
    let b = c.args.builder.now in
    let room = graph_can_be_added m b c.args.model.now.well_formed c.requires.variables c.requires.room in
    let far = left_more b b c.add_refinement_group.new.builder (written_clauses m) (refinement_group m) (edge_group m ++ fact_group m) (left_all b (written_clauses m) room) c.in_ok-add_refinement_group.ensures in
    first_left b c.add_refinement_group.new.builder (written_clauses m) (edge_group m) (fact_group m) far

pub add_fact_group-requires : goal.add_fact_group-requires
add_fact_group-requires c =
    let m = lists_of c.args.model.now in
    let b = c.args.builder.now in
    let room = graph_can_be_added m b c.args.model.now.well_formed c.requires.variables c.requires.room in
    let far = left_more b b c.add_refinement_group.new.builder (written_clauses m) (refinement_group m) (edge_group m ++ fact_group m) (left_all b (written_clauses m) room) c.in_ok-add_refinement_group.ensures in
    let next = left_more b c.add_refinement_group.new.builder c.add_edge_group.new.builder (written_clauses m) (edge_group m) (fact_group m) far c.in_ok-add_edge_group.ensures in
    next.room

pub returns : goal.returns
unfolding graph_clauses
returns c =
    let m = lists_of c.args.model.now in
    let b = c.args.builder.now in
    let room = graph_can_be_added m b c.args.model.now.well_formed c.requires.variables c.requires.room in
    let far = left_more b b c.add_refinement_group.new.builder (written_clauses m) (refinement_group m) (edge_group m ++ fact_group m) (left_all b (written_clauses m) room) c.in_ok-add_refinement_group.ensures in
    let next = left_more b c.add_refinement_group.new.builder c.add_edge_group.new.builder (written_clauses m) (edge_group m) (fact_group m) far c.in_ok-add_edge_group.ensures in
    on_ok_weaker c.add_fact_group.result
    (λ added. left_last b c.add_edge_group.new.builder c.add_fact_group.new.builder (written_clauses m) (fact_group m) next added)
    c.add_fact_group.ensures
