use Rattle.cgm_text.proofs.StatementsBack.{statement_back}
use Rattle.cgm_text.proofs.printing_laws.canonical_statement_is_read_back.Goals as goal

pub returns : goal.returns
returns c p m s knows proper fits = statement_back p m knows s proper fits
