use Rattle.cgm_text.proofs.TextBack.{text_back}
use Rattle.cgm_text.proofs.printing_laws.canonical_text_is_read_back.Goals as goal

pub returns : goal.returns
returns c = text_back
