use Rattle.std.proofs.Common.{◌-◌}
use Rattle.cgm_rows_problems.proofs.turns.+nest.Given as goal

abbrev pub decreases-nest : goal.decreases-nest
decreases-nest g l = 16 - l.number
