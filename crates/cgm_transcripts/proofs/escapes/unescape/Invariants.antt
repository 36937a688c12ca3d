use Rattle.std.proofs.Common.{◌≡◌, length}
use Rattle.std.specs.Prelude.{Some}
use Rattle.cgm_transcripts.specs.Content.{bytes_followed, unescaped}
use Rattle.cgm_transcripts.proofs.escapes.unescape.Given as goal

abbrev pub invariant-loop-left : goal.invariant-loop-left
invariant-loop-left l = unescaped l.line ≡ bytes_followed (Some l.bytes.items) (unescaped l.left)

abbrev pub decreases-loop-left : goal.decreases-loop-left
decreases-loop-left l = length l.left
