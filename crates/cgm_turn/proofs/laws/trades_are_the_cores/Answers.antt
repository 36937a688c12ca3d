use Rattle.cgm_turn.proofs.CoreTrading.{trades_are_the_cores}
use Rattle.cgm_turn.proofs.laws.trades_are_the_cores.Goals as goal

pub returns : goal.returns
returns c = trades_are_the_cores
