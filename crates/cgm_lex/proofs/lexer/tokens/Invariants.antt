use Rattle.std.proofs.Common.{◌-◌, length}
use Rattle.cgm_lex.proofs.Passing.{Passed}
use Rattle.cgm_lex.proofs.lexer.tokens.Given as goal

abbrev pub invariant-loop-start : goal.invariant-loop-start
invariant-loop-start l = Passed l.bytes l.line l.start l.tokens.items

abbrev pub decreases-loop-start : goal.decreases-loop-start
decreases-loop-start l = length l.bytes - l.start
