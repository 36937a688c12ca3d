use Rattle.std.proofs.Common.{◌≡◌, ℕ, drop}
use Rattle.cgm_lex.specs.Pieces.{pieces}
use Rattle.cgm_lex.specs.Spans.{spans_after}
use Rattle.cgm_lex.proofs.line.skip_blanks.Given as goal

abbrev pub invariant-loop-at : goal.invariant-loop-at
invariant-loop-at l = record {
  same : pieces (drop l.from l.words) ≡ pieces (drop l.at l.words);
  spans : (start : ℕ) → spans_after start l.from l.words ≡ spans_after start l.at l.words;
}
