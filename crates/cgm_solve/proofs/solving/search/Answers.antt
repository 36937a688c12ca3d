use Rattle.cgm_solve.proofs.Telling.{told_solves}
use Rattle.cgm_solve.proofs.solving.search.Goals as goal

pub returns : goal.returns
returns c =
    told_solves c.args.encoded.now 1 c.args.plan c.in_ok-ended.ended c.args.work.now c.tell.new.work c.tell.result c.in_ok-ended.ensures c.tell.ensures
