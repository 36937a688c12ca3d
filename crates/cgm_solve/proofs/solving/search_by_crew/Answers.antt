use Rattle.cgm_crew.specs.Crews.{plan_of}
use Rattle.cgm_solve.proofs.Telling.{told_solves}
use Rattle.cgm_solve.proofs.solving.search_by_crew.Goals as goal

pub returns : goal.returns
returns g c =
    let e = c.in_ok-ended.ended in
    let over = c.in_ok-ended.ensures in
    told_solves c.args.encoded.now c.args.crew.workers (plan_of c.args.crew) e c.args.work.now c.tell.new.work c.tell.result
    (record { log = over.log; problem = over.problem; some = c.requires.some; count = over.count; ends = over.ends })
    c.tell.ensures
