use Rattle.std.proofs.Common.{◌≡◌, ℕ, ◌+◌, [], drop, slice_range}
use Rattle.cgm_lex.specs.Pieces.{pieces_cut}
use Rattle.cgm_lex.specs.Spans.{cut_spans, spans_after}
use Rattle.cgm_lex.proofs.line.run_end.Given as goal

abbrev pub invariant-loop-at : goal.invariant-loop-at
invariant-loop-at l = record {
  same : pieces_cut [] (drop l.from l.words) ≡ pieces_cut (slice_range l.words l.from l.at) (drop l.at l.words);
  spans : (start : ℕ) → spans_after start l.from l.words ≡ cut_spans (start + l.from) (start + l.at) (drop l.at l.words);
}
