use Rattle.cgm_enc_formula.proofs.Extending.{extended_defined}
use Rattle.cgm_enc_formula.proofs.laws.extended_are_defined.Goals as goal

pub returns : goal.returns
returns c = extended_defined
