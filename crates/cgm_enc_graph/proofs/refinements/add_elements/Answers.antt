use Rattle.std.proofs.Common.{◌≡◌, ℕ, ◌+◌, List, ap, ◌∙◌, sym, arith}
use Rattle.std.specs.List.{enumerate_from, flat_map}
use Rattle.cgm_atom.specs.declared.constraints.Clause.{Clause}
use Rattle.cgm_atom.specs.Adding.{with_written}
use Rattle.cgm_atom.proofs.Additions.{all_at, loop_more, numbered, numbered-steps}
use Rattle.cgm_enc_graph.specs.GraphClauses.{element_clauses}
use Rattle.cgm_enc_graph.proofs.refinements.add_elements.Goals as goal

pub loop-element-preserved : goal.loop-element-preserved
loop-element-preserved c =
    let f : ℕ × List ℕ → List Clause = λ e. element_clauses e.0 e.1 in
    let xs = c.args.refinements.now in
    let i = c.loop-element.element in
    let own = c.index-refinements-element.result in
    let here : 0 + i ≡ i = omega arith in
    loop_more (numbered f 0) (all_at f 0) c.args.builder.now c.loop-element.builder c.add_element.new.builder (flat_map f (enumerate_from 0 xs)) xs i
    own (numbered-steps f 0) c.loop-element-test.true c.index-refinements-element.is c.loop-element.invariant
    (c.in_ok-add_element.ensures
    ∙ ap (λ (ys : List ℕ). with_written c.loop-element.builder (element_clauses i ys)) c.as_slice.ensures
    ∙ ap (λ (k : ℕ). with_written c.loop-element.builder (element_clauses k own)) (sym here))
