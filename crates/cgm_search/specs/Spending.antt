-- The trail of a worker that spent its budget.
use Rattle.std.specs.Prelude.{◌≡◌, ◌+◌, ◌*◌, ◌^◌, ◌<◌, ◌≤◌, List}
use Rattle.cgm_atom.specs.declared.entries.Entry.{Entry}
use Rattle.cgm_atom.specs.Instance.{Instance}
use Rattle.cgm_atom.specs.LogState.{state_of}
use Rattle.cgm_search.specs.declared.plans.Plan.{Plan}
use Rattle.cgm_search.specs.Storing.{IsSeenName}
use Rattle.cgm_trail.specs.Rank.{slack}
use Rattle.cgm_trail.specs.Steps.{AreReasoned}
use Rattle.cgm_trail.specs.TrailState.{TrailState}

-- the trail of a worker that spent the plan's budget on the problem, and left these entries
pub record IsSpentTrail (p : Instance) (plan : Plan) (entries : List Entry) (t : TrailState) : Type 0 where
  -- it is a trail of the problem
  pub problem : t.problem ≡ p
  -- it made as many moves as the plan says
  pub moves : t.moves ≡ plan.budget
  -- it made no more restarts than the plan says
  pub restarts : t.restarts ≤ plan.restarts
  -- each change that isn't a decision is one that a clause, a row, a lemma of the entries or a cut of one of their bests gives
  pub reasons : AreReasoned (IsSeenName p (state_of entries)) p.bounds t.changes
  -- a budget of so many moves can be spent
  pub few : plan.budget < (plan.restarts + 1) * 2 ^ (slack p.bounds + 1)
