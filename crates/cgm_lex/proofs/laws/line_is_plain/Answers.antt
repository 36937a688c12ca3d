use Rattle.cgm_lex.proofs.Plain.{line_is_plain}
use Rattle.cgm_lex.proofs.laws.line_is_plain.Goals as goal

pub returns : goal.returns
returns c = line_is_plain
