use Rattle.std.proofs.Common.{get_or}
use Rattle.std.specs.List.{flat_map}
use Rattle.std.proofs.lemmas.List.{get_or_default}
use Rattle.cgm_atom.proofs.Additions.{all_of, flattened, flattened-steps, loop_first, loop_more}
use Rattle.cgm_model.specs.declared.lists.Edge.{Edge}
use Rattle.cgm_model.specs.Model.{lists_of}
use Rattle.cgm_enc_graph.specs.GraphClauses.{bind_clauses}
use Rattle.cgm_enc_graph.proofs.edges.add_binds.Goals as goal

pub add_bind-requires-clause-room : goal.add_bind-requires-clause-room
add_bind-requires-clause-room c =
    let f = bind_clauses (lists_of c.args.model.now) in
    let xs = c.args.binds.now in
    let i = c.loop-e.e-index in
    let x : Edge = get_or xs i (record { from = 0; to = 0 }) in
    loop_first (flattened f) (all_of f) c.args.builder.now c.loop-e.builder (flat_map f xs) xs i x (flattened-steps f)
    c.loop-e-test.true (get_or_default xs i (record { from = 0; to = 0 }) x c.loop-e-test.true) c.loop-e.invariant

pub loop-e-preserved : goal.loop-e-preserved
loop-e-preserved c =
    let f = bind_clauses (lists_of c.args.model.now) in
    let xs = c.args.binds.now in
    let i = c.loop-e.e-index in
    let x : Edge = get_or xs i (record { from = 0; to = 0 }) in
    loop_more (flattened f) (all_of f) c.args.builder.now c.loop-e.builder c.add_bind.new.builder (flat_map f xs) xs i x (flattened-steps f)
    c.loop-e-test.true (get_or_default xs i (record { from = 0; to = 0 }) x c.loop-e-test.true) c.loop-e.invariant c.in_ok-add_bind.ensures
