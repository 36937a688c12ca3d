use Rattle.std.proofs.Common.{sym, ap, ◌∙◌}
use Rattle.cgm_crew.specs.Crews.{plan_of}
use Rattle.cgm_crew.proofs.Endings.{own_end}
use Rattle.cgm_crew.proofs.ending.parts.Goals as goal

pub returns-clause-own : goal.returns-clause-own
returns-clause-own g c =
    let w = c.args.worker in
    let ended = c.into_parts-seated.ensures in
    own_end w c.args.turn.now.problem (plan_of c.args.crew) c.into_pass-pass.result c.unwrap-stopped.result c.into_parts-seated.result.1
    c.requires.ended.valid (sym c.stopped.ensures ∙ c.unwrap-stopped.ensures) c.requires.problem c.requires.plan
    (ap (λ pass. pass.told) c.into_pass-pass.ensures ∙ ended.told) ended.trail ended.spent
