-- The turn that its fields keep: its table has two words and one slot.
use Rattle.std.specs.Prelude.{◌≤◌}
use Rattle.cgm_turn.specs.declared.passes.Turn.TheInside.{Inside}
use Rattle.cgm_turn.specs.Passes.{TurnState}
use Rattle.cgm_turn.specs.Rule.{HasTurnSize}

abbrev pub turn_state : Inside → TurnState
turn_state x = record { table = x.table.shared.table_id; problem = x.table.shared.key.value.problem; workers = x.workers }

pub record IsTableOfTurn (x : Inside) : Type 0 where
  pub sized : HasTurnSize x.table.shared.table_id
  pub workers : x.workers ≤ 16
