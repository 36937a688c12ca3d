use Rattle.std.proofs.Common.{◌++◌, ◌∙◌, ap, arith}
use Rattle.cgm_atom.proofs.Tightening.{AreBounds-inside}
use Rattle.cgm_learn.specs.Walking.{upper_negation}
use Rattle.cgm_learn.proofs.Negating.{negations_step}
use Rattle.cgm_learn.proofs.negations.negations.Goals as goal

pub loop-v-preserved : goal.loop-v-preserved
loop-v-preserved c =
    let limits = c.args.problem.now.bounds in
    let valid = c.recall_well_formed.ensures in
    negations_step limits c.args.rest.now c.loop-v.v c.loop-v.atoms.items c.add_upper.new.atoms.items c.loop-v.invariant
    (c.in_ok-add_upper.ensures ∙ ap (λ xs. xs ++ upper_negation limits c.args.rest.now c.loop-v.v) c.in_ok-add_lower.ensures)
    (omega (arith, c.loop-v-test.true, c.vars-v-end.ensures.count)) (omega (arith, c.loop-v-test.true, c.vars-v-end.ensures.count, valid.var_limit))
    (AreBounds-inside limits c.args.rest.now valid.sizes c.requires.inside c.requires.ordered)

pub add_lower-requires-clause-sizes : goal.add_lower-requires-clause-sizes
add_lower-requires-clause-sizes c = AreBounds-inside c.args.problem.now.bounds c.args.rest.now c.recall_well_formed.ensures.sizes c.requires.inside c.requires.ordered

pub add_upper-requires-clause-sizes : goal.add_upper-requires-clause-sizes
add_upper-requires-clause-sizes c = AreBounds-inside c.args.problem.now.bounds c.args.rest.now c.recall_well_formed.ensures.sizes c.requires.inside c.requires.ordered
