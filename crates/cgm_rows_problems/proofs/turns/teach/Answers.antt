use Rattle.cgm_atom.proofs.StateLemmas.{IsAccepted-nil}
use Rattle.cgm_rows_problems.proofs.turns.teach.Goals as goal

pub is_proper-requires-clause-accepted : goal.is_proper-requires-clause-accepted
is_proper-requires-clause-accepted g c = IsAccepted-nil c.args.problem.now
