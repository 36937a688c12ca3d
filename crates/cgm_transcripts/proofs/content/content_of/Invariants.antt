use Rattle.std.proofs.Common.{◌≡◌, map, drop}
use Rattle.std.specs.Prelude.{Some}
use Rattle.cgm_transcripts.specs.Content.{bytes_followed, content_bytes}
use Rattle.cgm_transcripts.proofs.content.content_of.Given as goal

abbrev pub invariant-loop-at : goal.invariant-loop-at
invariant-loop-at l =
    content_bytes (map (λ line. line.bytes.now) l.lines)
    ≡ bytes_followed (Some l.bytes.items) (content_bytes (map (λ line. line.bytes.now) (drop l.at l.lines)))
