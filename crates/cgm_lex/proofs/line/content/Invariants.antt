use Rattle.std.proofs.Common.{◌≡◌, ◌++◌, take, drop}
use Rattle.cgm_lex.specs.Lines.{content}
use Rattle.cgm_lex.proofs.line.content.Given as goal

abbrev pub invariant-loop-at : goal.invariant-loop-at
invariant-loop-at l = content l.line ≡ take l.at l.line ++ content (drop l.at l.line)
