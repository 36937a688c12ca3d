use Rattle.cgm_lex.proofs.Printing.{line_is_read}
use Rattle.cgm_lex.proofs.laws.canonical_line_is_read_back.Goals as goal

pub returns : goal.returns
returns c = line_is_read
