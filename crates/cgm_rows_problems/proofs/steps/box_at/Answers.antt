use Rattle.std.proofs.Common.{take, ap, ◌∙◌}
use Rattle.cgm_trail.specs.TrailState.{box_after}
use Rattle.cgm_rows_problems.proofs.Boxes.{IsPlace, box_after-count, next_place}
use Rattle.cgm_rows_problems.proofs.steps.box_at.Goals as goal

pub take_back-requires-clause-known : goal.take_back-requires-clause-known
take_back-requires-clause-known c =
    let place : IsPlace c.args.trail.now.changes c.args.level c.level_start.result = next_place _ _ _ c.requires.known c.level_start.ensures.start in
    place.within

pub returns-clause-cut : goal.returns-clause-cut
returns-clause-cut c =
    let place : IsPlace c.args.trail.now.changes c.args.level c.level_start.result = next_place _ _ _ c.requires.known c.level_start.ensures.start in
    c.take_back.ensures ∙ ap (box_after c.args.trail.now.problem.bounds) place.kept

pub returns-clause-count : goal.returns-clause-count
returns-clause-count c = rw c.take_back.ensures (box_after-count c.args.trail.now.problem.bounds (take c.level_start.result c.args.trail.now.changes))
