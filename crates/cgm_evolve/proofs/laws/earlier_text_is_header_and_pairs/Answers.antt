use Rattle.cgm_evolve.proofs.Given.{lines_give}
use Rattle.cgm_evolve.proofs.Giving.{gives_lines}
use Rattle.cgm_evolve.proofs.laws.earlier_text_is_header_and_pairs.Goals as goal

pub returns : goal.returns
returns c = λ text pairs. (gives_lines text pairs, lines_give text pairs)
