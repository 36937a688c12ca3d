use Rattle.cgm_lex.proofs.Parts.{spans_are_pieces}
use Rattle.cgm_lex.proofs.laws.spans_are_pieces.Goals as goal

pub returns : goal.returns
returns c = spans_are_pieces
