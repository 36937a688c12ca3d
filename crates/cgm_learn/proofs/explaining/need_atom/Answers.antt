use Rattle.cgm_learn.proofs.Needs.{added, explained_added}
use Rattle.cgm_learn.proofs.explaining.need_atom.Goals as goal

pub returns-clause-after : goal.returns-clause-after
returns-clause-after c =
    added c.args.work.now c.args.need.now c.assume.new.self c.args.atom c.assume.result c.requires.proper c.requires.inside c.requires.met c.assume.ensures.answer c.assume.ensures.after

pub returns-clause-explained : goal.returns-clause-explained
returns-clause-explained c = λ limits box.
    explained_added limits c.args.work.now c.args.need.now c.assume.new.self c.args.atom c.requires.inside c.requires.met
    (added c.args.work.now c.args.need.now c.assume.new.self c.args.atom c.assume.result c.requires.proper c.requires.inside c.requires.met c.assume.ensures.answer c.assume.ensures.after)
    (c.assume.ensures.within limits box)
