use Rattle.std.proofs.Common.{◌-◌, length}
use Rattle.cgm_lex.proofs.Adding.{Going}
use Rattle.cgm_lex.proofs.lexer.add_tokens.Given as goal

abbrev pub invariant-loop-piece : goal.invariant-loop-piece
invariant-loop-piece l = Going l.text l.words l.line l.start l.at l.initial.tokens.items l.tokens.items

abbrev pub decreases-loop-piece : goal.decreases-loop-piece
decreases-loop-piece l = length l.words - l.at
