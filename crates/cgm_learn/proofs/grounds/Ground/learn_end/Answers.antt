use Rattle.std.proofs.Common.{◌∙◌, refl}
use Rattle.cgm_learn.proofs.Lessons.{lesson_at_end}
use Rattle.cgm_learn.proofs.grounds.Ground.learn_end.Goals as goal

pub returns : goal.returns
returns c = λ trail.
    lesson_at_end c.args.self.now trail _ c.args.walk c.problem.ensures.valid (rw c.problem.ensures.problem at c.recall_well_formed.ensures) c.requires
    (c.of-atoms.ensures ∙ c.new-none.ensures.items) (c.of-hints.ensures ∙ c.reversed.ensures) refl
