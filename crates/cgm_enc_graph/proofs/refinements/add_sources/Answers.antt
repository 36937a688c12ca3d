use Rattle.std.proofs.Common.{get_or, map}
use Rattle.std.proofs.lemmas.List.{get_or_default}
use Rattle.cgm_atom.specs.Literals.{implication}
use Rattle.cgm_atom.proofs.Additions.{loop_first, loop_more, mapped, mapped-steps, one_of}
use Rattle.cgm_enc_graph.proofs.refinements.add_sources.Goals as goal

pub add_implication-requires : goal.add_implication-requires
add_implication-requires c =
    let f = implication c.args.x in
    let xs = c.args.sources.now in
    let i = c.loop-source.source-index in
    let x = get_or xs i 0 in
    loop_first (mapped f) (one_of f) c.args.builder.now c.loop-source.builder (map f xs) xs i x (mapped-steps f)
    c.loop-source-test.true (get_or_default xs i 0 x c.loop-source-test.true) c.loop-source.invariant

pub loop-source-preserved : goal.loop-source-preserved
loop-source-preserved c =
    let f = implication c.args.x in
    let xs = c.args.sources.now in
    let i = c.loop-source.source-index in
    let x = get_or xs i 0 in
    loop_more (mapped f) (one_of f) c.args.builder.now c.loop-source.builder c.add_implication.new.builder (map f xs) xs i x (mapped-steps f)
    c.loop-source-test.true (get_or_default xs i 0 x c.loop-source-test.true) c.loop-source.invariant c.in_ok-add_implication.ensures
