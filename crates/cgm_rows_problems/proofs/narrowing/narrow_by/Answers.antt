-- The log without entries is accepted.
use Rattle.std.proofs.Common.{[]}
use Rattle.cgm_atom.proofs.StateLemmas.{IsAccepted-nil, accepted_state}
use Rattle.cgm_rows_problems.proofs.narrowing.narrow_by.Goals as goal

pub narrow-requires-clause-accepted : goal.narrow-requires-clause-accepted
narrow-requires-clause-accepted c = accepted_state c.args.problem.now [] c.of-log.result c.of-log.ensures (IsAccepted-nil c.args.problem.now)
