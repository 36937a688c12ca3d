use Rattle.cgm_clauses.proofs.Units.{given_by_unit}
use Rattle.cgm_clauses.proofs.laws.tightenings_are_by_units.Goals as goal

pub returns : goal.returns
returns c = given_by_unit
