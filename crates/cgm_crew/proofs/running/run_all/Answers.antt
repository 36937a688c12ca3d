use Rattle.cgm_crew.proofs.Runs.{lead_of_runs, others_of_runs}
use Rattle.cgm_crew.proofs.running.run_all.Goals as goal

pub returns-clause-lead : goal.returns-clause-lead
returns-clause-lead g c =
    lead_of_runs c.args.others.items c.take_last.result.1.items c.in_ok-all.all.items c.run_vec-all.result.items c.args.lead c.take_last.result.0 c.in_ok-all.ensures c.take_last.ensures c.run_vec-all.ensures.long c.run_vec-all.ensures.each

pub returns-clause-others : goal.returns-clause-others
returns-clause-others g c =
    others_of_runs c.args.others.items c.take_last.result.1.items c.in_ok-all.all.items c.run_vec-all.result.items c.args.lead c.take_last.result.0 c.in_ok-all.ensures c.take_last.ensures c.run_vec-all.ensures.long c.run_vec-all.ensures.each
