use Rattle.cgm_evolve.proofs.Drafts.{finished, kept, not_read}
use Rattle.cgm_evolve.proofs.reader.read_earlier.Goals as goal

pub finish-requires : goal.finish-requires
finish-requires c = kept c.args.bytes.now c.read_lines.new.draft c.in-Ok.ensures.read

pub returns-in-Ok-clause-read : goal.returns-in-Ok-clause-read
returns-in-Ok-clause-read c =
    finished c.args.bytes.now c.read_lines.new.draft c.finish.result.pairs c.in-Ok.ensures.read c.finish.ensures

pub returns-in-Err-clause-stop : goal.returns-in-Err-clause-stop
returns-in-Err-clause-stop c = not_read c.args.bytes.now c.in-Err.stop c.in-Err.ensures.stop
