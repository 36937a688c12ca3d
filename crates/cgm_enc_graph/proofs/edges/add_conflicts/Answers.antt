use Rattle.std.proofs.Common.{get_or, map}
use Rattle.std.proofs.lemmas.List.{get_or_default}
use Rattle.cgm_atom.proofs.Additions.{loop_first, loop_more, mapped, mapped-steps, one_of}
use Rattle.cgm_model.specs.declared.lists.Edge.{Edge}
use Rattle.cgm_enc_graph.specs.GraphClauses.{conflict_clause}
use Rattle.cgm_enc_graph.proofs.edges.add_conflicts.Goals as goal

pub add_conflict-requires : goal.add_conflict-requires
add_conflict-requires c =
    let f = conflict_clause in
    let xs = c.args.conflicts.now in
    let i = c.loop-e.e-index in
    let x : Edge = get_or xs i (record { from = 0; to = 0 }) in
    loop_first (mapped f) (one_of f) c.args.builder.now c.loop-e.builder (map f xs) xs i x (mapped-steps f)
    c.loop-e-test.true (get_or_default xs i (record { from = 0; to = 0 }) x c.loop-e-test.true) c.loop-e.invariant

pub loop-e-preserved : goal.loop-e-preserved
loop-e-preserved c =
    let f = conflict_clause in
    let xs = c.args.conflicts.now in
    let i = c.loop-e.e-index in
    let x : Edge = get_or xs i (record { from = 0; to = 0 }) in
    loop_more (mapped f) (one_of f) c.args.builder.now c.loop-e.builder c.add_conflict.new.builder (map f xs) xs i x (mapped-steps f)
    c.loop-e-test.true (get_or_default xs i (record { from = 0; to = 0 }) x c.loop-e-test.true) c.loop-e.invariant c.in_ok-add_conflict.ensures
