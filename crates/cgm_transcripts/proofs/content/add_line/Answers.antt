use Rattle.cgm_transcripts.proofs.ContentLines.{open_last}
use Rattle.cgm_transcripts.proofs.content.add_line.Goals as goal

pub returns : goal.returns
returns c =
    rw (open_last c.args.line.bytes.now c.args.is_last c.if-not-is_open.ensures c.if-not-is_last.false)
    (rw (← c.split_at.ensures.front) c.add_spelled-2.ensures)
