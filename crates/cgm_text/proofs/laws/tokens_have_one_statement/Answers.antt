use Rattle.cgm_text.proofs.Forms.{statement_once}
use Rattle.cgm_text.proofs.laws.tokens_have_one_statement.Goals as goal

pub returns : goal.returns
returns c = statement_once
