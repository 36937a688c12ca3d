use Rattle.std.proofs.Common.{◌≡◌, subst, ◌∙◌, arith}
use Rattle.cgm_atom.specs.Instance.{Instance}
use Rattle.cgm_crew.specs.Crews.{AreEndsOver, plan_of}
use Rattle.cgm_crew.proofs.Endings.{ends_over, front_of_log, others_made_none}
use Rattle.cgm_crew.proofs.crews.search_all.Goals as goal

pub end_all-ended-requires-clause-lead : goal.end_all-ended-requires-clause-lead
end_all-ended-requires-clause-lead g c = c.in_ok-lead-2.ensures.lead c.in_ok-turn.turn c.args.crew c.in_ok-lead.ensures.lead

pub end_all-ended-requires-clause-others : goal.end_all-ended-requires-clause-others
end_all-ended-requires-clause-others g c = c.in_ok-lead-2.ensures.others c.in_ok-turn.turn c.args.crew c.in_ok-lead.ensures.others

pub returns : goal.returns
returns g c =
    let e = c.end_all-ended.result in
    let j = c.end_all-ended.ensures.joining in
    let log = c.close-log.result in
    let plan = plan_of c.args.crew in
    let turn = c.in_ok-turn.turn in
    let same : turn.problem ≡ c.args.problem.now = c.in_ok-turn.ensures.turn.0 ∙ c.new-log.ensures.problem ∙ c.in_ok-copy.ensures in
    record {
      problem = c.close-log.ensures.problem ∙ j.problem ∙ same;
      log = c.recall_log.ensures;
      count = omega (arith, j.stopped_count, c.end_all-ended.ensures.out);
      ends =
          subst (λ (p : Instance). AreEndsOver p plan log.entries e.places.stopped.items e.places.trails.items) same
          (ends_over turn.problem plan e.first log.entries e.places.stopped.items e.places.trails.items
          (λ told. front_of_log e.first log.entries told c.close-log.ensures.told c.close-log.ensures.fronts) j.ends);
      makers = λ w far. others_made_none c.args.crew.workers w e.first log c.close-log.ensures j.number c.requires.some j.below far;
    }
