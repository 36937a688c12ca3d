-- Slack and rank: each move but a restart raises the rank, and the slack bounds it, so that few restarts leave few moves.
use Rattle.std.specs.Prelude.{Bool, true, not, cond, ℕ, ◌+◌, ◌-◌, ◌*◌, ◌^◌, ◌≤◌, ℤ, ◌-ℤ◌, unsigned_abs, List, [], ◌∷◌, replicate}
use Rattle.std.specs.List.{flat_map}
use Rattle.cgm_atom.specs.Bounds.{Bounds, IsBoxOf}
use Rattle.cgm_atom.specs.Limits.{IsWellFormedProblem}
use Rattle.cgm_trail.specs.declared.changes.Change.{Change}
use Rattle.cgm_trail.specs.TrailState.{AreChanges, TrailState, box_of, is_decision}

abbrev pub slack_between : List ℤ → List ℤ → ℕ
slack_between [] upper = 0
slack_between (lo ∷ lower) [] = 0
slack_between (lo ∷ lower) (hi ∷ upper) = unsigned_abs (hi -ℤ lo) + slack_between lower upper

-- the sum of greatest less least value over the variables
unfoldable pub slack : Bounds → ℕ
slack b = slack_between b.lower b.upper

-- by how much a change shrinks the box
abbrev pub units : Change → ℕ
units c = unsigned_abs (c.atom.k -ℤ c.was)

-- a letter for each unit: false for the first of a decision, else true
abbrev pub letters_of : Change → List Bool
letters_of c = not (is_decision c) ∷ replicate (units c - 1) true

abbrev pub letters : List Change → List Bool
letters changes = flat_map letters_of changes

-- each false counts 1, and each true 2 to the power of the letters that were left before it
abbrev pub rank_from : ℕ → List Bool → ℕ
rank_from left [] = 0
rank_from left (t ∷ ls) = cond t (2 ^ left) 1 + rank_from (left - 1) ls

unfoldable pub rank : Bounds → List Change → ℕ
rank b changes = rank_from (slack b) (letters changes)

abbrev pub rank_of : TrailState → ℕ
rank_of t = rank t.problem.bounds t.changes

-- what holds of every trail
pub record IsTrail (t : TrailState) : Type 0 where
  pub problem : IsWellFormedProblem t.problem
  pub changes : AreChanges t.problem.bounds t.changes
  pub place : IsBoxOf t.problem.bounds (box_of t)
  pub counted : t.moves ≤ t.restarts * (2 ^ (slack t.problem.bounds + 1) - 1) + rank_of t
