use Rattle.std.proofs.Common.{◌≡◌, ℕ, ◌+◌, ap, ◌∙◌, subst, sym, arith}
use Rattle.std.specs.List.{enumerate_from, flat_map}
use Rattle.cgm_atom.specs.Adding.{CanTake, with_written}
use Rattle.cgm_atom.proofs.Additions.{all_at, loop_first, loop_more, numbered, numbered-steps}
use Rattle.cgm_enc_graph.specs.GraphClauses.{must_clauses}
use Rattle.cgm_enc_graph.proofs.facts.add_musts.Goals as goal

pub add_must-requires : goal.add_must-requires
add_must-requires c =
    let f = must_clauses in
    let xs = c.args.elements.now in
    let i = c.loop-number.number in
    let x = c.index-elements-number.result in
    let here : 0 + i ≡ i = omega arith in
    subst (λ (k : ℕ). CanTake c.loop-number.builder (must_clauses (k, x))) here
    (loop_first (numbered f 0) (all_at f 0) c.args.builder.now c.loop-number.builder (flat_map f (enumerate_from 0 xs)) xs i
    x (numbered-steps f 0) c.loop-number-test.true c.index-elements-number.is c.loop-number.invariant)

pub loop-number-preserved : goal.loop-number-preserved
loop-number-preserved c =
    let f = must_clauses in
    let xs = c.args.elements.now in
    let i = c.loop-number.number in
    let x = c.index-elements-number.result in
    let here : 0 + i ≡ i = omega arith in
    loop_more (numbered f 0) (all_at f 0) c.args.builder.now c.loop-number.builder c.add_must.new.builder (flat_map f (enumerate_from 0 xs)) xs i
    x (numbered-steps f 0) c.loop-number-test.true c.index-elements-number.is c.loop-number.invariant
    (c.in_ok-add_must.ensures ∙ ap (λ (k : ℕ). with_written c.loop-number.builder (must_clauses (k, x))) (sym here))
