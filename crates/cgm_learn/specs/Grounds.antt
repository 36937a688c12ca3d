-- The ground of an analysis: a problem, the state of its log, and the lemmas that are pending after it.
use Rattle.std.specs.Prelude.{◌≡◌, false, List, length, Option}
use Rattle.std.specs.List.{All}
use Rattle.cgm_atom.specs.declared.entries.Entry.{Entry}
use Rattle.cgm_atom.specs.declared.entries.Hint.{Hint}
use Rattle.cgm_atom.specs.Acceptance.{IsAcceptedAfter, IsAcceptedState}
use Rattle.cgm_atom.specs.Instance.{Instance}
use Rattle.cgm_atom.specs.LogState.{LogState}
use Rattle.cgm_atom.specs.Placing.{all_placed, placed}
use Rattle.cgm_step.specs.declared.naming.Found.{Found}
use Rattle.cgm_step.specs.Naming.{IsFound}
use Rattle.cgm_learn.specs.Learning.{IsKnownHint, IsOpenLemma, state_with_pending}

pub record GroundState : Type 0 where
  pub problem : Instance
  pub state : LogState
  pub pending : List Entry

abbrev pub ground_state : Instance → LogState → List Entry → GroundState
ground_state p s lemmas = record { problem = p; state = s; pending = lemmas }

-- the log is accepted and not closed, and the pending lemmas, which have atoms, are accepted after it
pub record IsGround (g : GroundState) : Type 0 where
  pub accepted : IsAcceptedState g.problem g.state
  pub still_open : g.state.closed ≡ false
  pub with_atoms : All IsOpenLemma g.pending
  pub follows : IsAcceptedAfter g.problem g.state (all_placed (length g.state.entries) g.pending)

-- the state of the log that the pending lemmas follow
abbrev pub whole_state : GroundState → LogState
whole_state g = state_with_pending g.state g.pending

-- a hint as it stands in that log
abbrev pub placed_on : GroundState → Hint → Hint
placed_on g h = placed (length g.state.entries) h

-- of entries the hint names one of the log, of pending lemmas one of these
abbrev pub IsKnownOn : GroundState → Hint → Type 0
IsKnownOn g h = IsKnownHint (length g.state.entries) (length g.pending) h

-- what the hint leads to in that log
abbrev pub IsFoundOn : GroundState → Hint → Option Found → Type 0
IsFoundOn g h found = IsFound g.problem (whole_state g) (placed_on g h) found
