use Rattle.cgm_lex.proofs.Readings.{one_text}
use Rattle.cgm_lex.proofs.laws.text_says_one_thing.Goals as goal

pub returns : goal.returns
returns g c = one_text g.D.Draft.form
