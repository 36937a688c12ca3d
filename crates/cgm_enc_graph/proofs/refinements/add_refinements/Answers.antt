use Rattle.std.specs.List.{enumerate_from, flat_map}
use Rattle.cgm_atom.proofs.Additions.{all_at, loop_first, loop_more, numbered, numbered-steps}
use Rattle.cgm_enc_graph.specs.GraphClauses.{refinement_clauses}
use Rattle.cgm_enc_graph.proofs.refinements.add_refinements.Goals as goal

pub add_refinement-requires : goal.add_refinement-requires
add_refinement-requires c =
    let f = refinement_clauses in
    let n = c.args.first in
    let xs = c.args.refinements.now in
    loop_first (numbered f n) (all_at f n) c.args.builder.now c.loop-number.builder (flat_map f (enumerate_from n xs)) xs c.loop-number.number
    c.index-refinements-number.result (numbered-steps f n) c.loop-number-test.true c.index-refinements-number.is c.loop-number.invariant

pub loop-number-preserved : goal.loop-number-preserved
loop-number-preserved c =
    let f = refinement_clauses in
    let n = c.args.first in
    let xs = c.args.refinements.now in
    loop_more (numbered f n) (all_at f n) c.args.builder.now c.loop-number.builder c.add_refinement.new.builder (flat_map f (enumerate_from n xs)) xs c.loop-number.number
    c.index-refinements-number.result (numbered-steps f n) c.loop-number-test.true c.index-refinements-number.is c.loop-number.invariant
    c.in_ok-add_refinement.ensures
