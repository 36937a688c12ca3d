use Rattle.cgm_lex.proofs.Readings.{one_first_fault}
use Rattle.cgm_lex.proofs.laws.text_fails_once.Goals as goal

pub returns : goal.returns
returns g c = one_first_fault g.D.Draft.form
