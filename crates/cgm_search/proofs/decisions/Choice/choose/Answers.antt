use Rattle.cgm_trail.specs.TrailState.{box_of}
use Rattle.cgm_search.proofs.Halves.{half_open_if_some}
use Rattle.cgm_search.proofs.decisions.Choice.choose.Goals as goal

pub returns-clause-undecided : goal.returns-clause-undecided
returns-clause-undecided c =
    half_open_if_some c.args.trail.now.problem.bounds (box_of c.args.trail.now) c.state.result.now c.half_of-half.result c.recall_trail.ensures.place c.state.ensures.state c.half_of-half.ensures.half
