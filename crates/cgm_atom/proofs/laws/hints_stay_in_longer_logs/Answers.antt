use Rattle.cgm_atom.proofs.LongerLogs.{carried_stays, named_stays}
use Rattle.cgm_atom.proofs.laws.hints_stay_in_longer_logs.Goals as goal

pub returns-clause-named : goal.returns-clause-named
returns-clause-named c = named_stays

pub returns-clause-carried : goal.returns-clause-carried
returns-clause-carried c = carried_stays
