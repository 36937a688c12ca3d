use Rattle.cgm_evolve.proofs.Given.{first_is_fault}
use Rattle.cgm_evolve.proofs.Giving.{fault_is_first}
use Rattle.cgm_evolve.proofs.laws.earlier_text_fails_at_its_first_faulty_line.Goals as goal

pub returns : goal.returns
returns c = λ text line fault. (fault_is_first text line fault, first_is_fault text line fault)
