use Rattle.std.proofs.Common.{refl}
use Rattle.cgm_shelf.specs.MemShelf.{mem_files}
use Rattle.cgm_transcripts.specs.Agreement.{IsLeftFile}
use Rattle.cgm_transcripts.proofs.EachItem.{each_step}
use Rattle.cgm_transcripts.proofs.comparison.other_file.Goals as goal

pub loop-file-preserved : goal.loop-file-preserved
loop-file-preserved c =
    each_step (IsLeftFile (mem_files c.args.shelf.now)) c.args.files.now c.loop-file.left.now c.in-Some.rest.now c.in-Some.file.now
    c.in-Some.ensures.cases.0 (c.if-is_left.ensures.0 refl) c.loop-file.invariant
