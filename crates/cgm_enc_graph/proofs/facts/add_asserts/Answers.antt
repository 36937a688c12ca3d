use Rattle.std.proofs.Common.{get_or, map, false}
use Rattle.std.proofs.lemmas.List.{get_or_default}
use Rattle.cgm_atom.proofs.Additions.{loop_first, loop_more, mapped, mapped-steps, one_of}
use Rattle.cgm_model.specs.declared.lists.Assertion.{Assertion}
use Rattle.cgm_enc_graph.specs.GraphClauses.{assertion_clause}
use Rattle.cgm_enc_graph.proofs.facts.add_asserts.Goals as goal

pub add_assertion-requires : goal.add_assertion-requires
add_assertion-requires c =
    let f = assertion_clause in
    let xs = c.args.asserts.now in
    let i = c.loop-a.a-index in
    let d : Assertion = record { element = 0; truth = false } in
    let x : Assertion = get_or xs i d in
    loop_first (mapped f) (one_of f) c.args.builder.now c.loop-a.builder (map f xs) xs i x (mapped-steps f)
    c.loop-a-test.true (get_or_default xs i d x c.loop-a-test.true) c.loop-a.invariant

pub loop-a-preserved : goal.loop-a-preserved
loop-a-preserved c =
    let f = assertion_clause in
    let xs = c.args.asserts.now in
    let i = c.loop-a.a-index in
    let d : Assertion = record { element = 0; truth = false } in
    let x : Assertion = get_or xs i d in
    loop_more (mapped f) (one_of f) c.args.builder.now c.loop-a.builder c.add_assertion.new.builder (map f xs) xs i x (mapped-steps f)
    c.loop-a-test.true (get_or_default xs i d x c.loop-a-test.true) c.loop-a.invariant c.in_ok-add_assertion.ensures
