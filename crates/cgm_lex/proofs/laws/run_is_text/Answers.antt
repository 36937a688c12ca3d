use Rattle.cgm_lex.proofs.Plain.{run_is_utf8}
use Rattle.cgm_lex.proofs.laws.run_is_text.Goals as goal

pub returns : goal.returns
returns c = run_is_utf8
