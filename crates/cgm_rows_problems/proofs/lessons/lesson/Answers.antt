use Rattle.std.proofs.Common.{[]}
use Rattle.cgm_atom.proofs.StateLemmas.{IsAccepted-nil}
use Rattle.cgm_rows_problems.proofs.lessons.lesson.Goals as goal

pub taught_after-requires-clause-accepted : goal.taught_after-requires-clause-accepted
taught_after-requires-clause-accepted c = ([], IsAccepted-nil c.args.problem.now, c.of-log.ensures)
