use Rattle.cgm_lex.proofs.Printing.{line_has_no_feed}
use Rattle.cgm_lex.proofs.laws.canonical_line_has_no_feed.Goals as goal

pub returns : goal.returns
returns c = line_has_no_feed
