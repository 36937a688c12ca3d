use Rattle.cgm_text.proofs.WrittenBack.{formula_back}
use Rattle.cgm_text.proofs.printing_laws.canonical_formula_is_read_back.Goals as goal

pub returns : goal.returns
returns c p m f knows given = formula_back p m knows f given
