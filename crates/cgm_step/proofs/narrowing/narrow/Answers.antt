use Rattle.cgm_atom.specs.LogState.{named}
use Rattle.cgm_step.specs.Naming.{constraint_of}
use Rattle.cgm_step.proofs.KeptValues.{found_conflict, found_keeps}
use Rattle.cgm_step.proofs.narrowing.narrow.Goals as goal

pub returns-in-Some-clause-kept : goal.returns-in-Some-clause-kept
returns-in-Some-clause-kept c =
    found_keeps (named c.args.problem.now c.args.log.now c.args.hint.now) (constraint_of c.in-Some.found.named)
    c.args.bounds.now c.narrow_by.new.bounds c.narrow_by.result c.in-Some.ensures.0 c.narrow_by.ensures.exact

pub returns-in-Some-clause-conflict : goal.returns-in-Some-clause-conflict
returns-in-Some-clause-conflict c =
    found_conflict (named c.args.problem.now c.args.log.now c.args.hint.now) (constraint_of c.in-Some.found.named)
    c.args.bounds.now c.narrow_by.new.bounds c.narrow_by.result c.in-Some.ensures.0 c.narrow_by.ensures.exact
