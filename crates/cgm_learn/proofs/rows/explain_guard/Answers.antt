use Rattle.std.proofs.Common.{sym, ◌∙◌}
use Rattle.cgm_learn.proofs.Needs.{explained_same}
use Rattle.cgm_learn.proofs.RowNeeds.{made_holds}
use Rattle.cgm_learn.proofs.rows.explain_guard.Goals as goal

pub returns-in-Some-clause-claimed : goal.returns-in-Some-clause-claimed
returns-in-Some-clause-claimed c =
    let inside = c.requires.inside in
    rw (c.in-Some.is, c.need_atom.ensures.after)
    (made_holds c.args.need.now c.in-Some.g (rw (← inside.lower_count) (rw c.in-Some.is at c.requires.known))
    (sym inside.upper_count ∙ c.requires.proper.same_count ∙ inside.lower_count))

pub returns-in-None-clause-explained : goal.returns-in-None-clause-explained
returns-in-None-clause-explained c = λ limits box. explained_same limits c.args.work.now c.args.need.now c.requires.inside box
