use Rattle.std.proofs.Common.{get_or, map}
use Rattle.std.proofs.lemmas.List.{get_or_default}
use Rattle.cgm_atom.proofs.Additions.{loop_first, loop_more, mapped, mapped-steps, one_of}
use Rattle.cgm_model.specs.declared.lists.Edge.{Edge}
use Rattle.cgm_enc_graph.specs.GraphClauses.{contrib_clause}
use Rattle.cgm_enc_graph.proofs.edges.add_contribs.Goals as goal

pub add_implication-requires : goal.add_implication-requires
add_implication-requires c =
    let f = contrib_clause in
    let xs = c.args.contribs.now in
    let i = c.loop-e.e-index in
    let x : Edge = get_or xs i (record { from = 0; to = 0 }) in
    loop_first (mapped f) (one_of f) c.args.builder.now c.loop-e.builder (map f xs) xs i x (mapped-steps f)
    c.loop-e-test.true (get_or_default xs i (record { from = 0; to = 0 }) x c.loop-e-test.true) c.loop-e.invariant

pub loop-e-preserved : goal.loop-e-preserved
loop-e-preserved c =
    let f = contrib_clause in
    let xs = c.args.contribs.now in
    let i = c.loop-e.e-index in
    let x : Edge = get_or xs i (record { from = 0; to = 0 }) in
    loop_more (mapped f) (one_of f) c.args.builder.now c.loop-e.builder c.add_implication.new.builder (map f xs) xs i x (mapped-steps f)
    c.loop-e-test.true (get_or_default xs i (record { from = 0; to = 0 }) x c.loop-e-test.true) c.loop-e.invariant c.in_ok-add_implication.ensures
