use Rattle.cgm_text.proofs.Drafts.{finished, not_read}
use Rattle.cgm_text.proofs.reader.read.Goals as goal

pub returns-in-Ok-clause-read : goal.returns-in-Ok-clause-read
returns-in-Ok-clause-read c =
    finished c.args.bytes.now c.read_lines.new.draft c.finish.result c.in-Ok.ensures.read c.finish.ensures

pub returns-in-Err-clause-stop : goal.returns-in-Err-clause-stop
returns-in-Err-clause-stop c = not_read c.args.bytes.now c.in-Err.stop c.in-Err.ensures.stop
