use Rattle.cgm_crew.proofs.Runs.{others_ran}
use Rattle.cgm_crew.proofs.running.run_crew.Goals as goal

pub returns-clause-others : goal.returns-clause-others
returns-clause-others g c turn crew h =
    others_ran turn crew c.args.others.items c.in_ok-lead.others.items c.in_ok-lead.ensures.long c.in_ok-lead.ensures.others h
