use Rattle.std.proofs.Common.{inr}
use Rattle.cgm_cli.proofs.trial.reading_of_text.Goals as goal

pub returns-in-Err-clause-refused : goal.returns-in-Err-clause-refused
returns-in-Err-clause-refused g c = inr (c.tell_memory.ensures.status, c.tell_memory.ensures.told)
