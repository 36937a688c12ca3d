use Rattle.std.proofs.Common.{subst, sym}
use Rattle.cgm_atom.specs.Bounds.{Bounds, IsBoxOf}
use Rattle.cgm_trail.proofs.Replaying.{box_of_itself}
use Rattle.cgm_learn.proofs.rows.copy_with.Goals as goal

pub returns-clause-within : goal.returns-clause-within
returns-clause-within c =
    c.assume.ensures.within c.args.work.now (subst (λ (b : Bounds). IsBoxOf c.args.work.now b) (sym c.in_ok-under.ensures) (box_of_itself c.args.work.now c.requires.proper))
