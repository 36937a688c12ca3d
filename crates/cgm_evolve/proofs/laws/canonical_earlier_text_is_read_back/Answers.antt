use Rattle.cgm_evolve.proofs.TextBack.{text_back}
use Rattle.cgm_evolve.proofs.laws.canonical_earlier_text_is_read_back.Goals as goal

pub returns : goal.returns
returns c = text_back
