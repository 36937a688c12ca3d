use Rattle.cgm_lex.proofs.Readings.{text_or_fault, text_or_fault_some}
use Rattle.cgm_lex.proofs.laws.text_says_or_fails.Goals as goal

pub returns-clause-one : goal.returns-clause-one
returns-clause-one g c = text_or_fault g.D.Draft.form

pub returns-clause-some : goal.returns-clause-some
returns-clause-some g c = text_or_fault_some g.D.Draft.form
