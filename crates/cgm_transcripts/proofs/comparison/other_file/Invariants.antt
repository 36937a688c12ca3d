use Rattle.std.proofs.Common.{◌↔◌, length, All}
use Rattle.cgm_shelf.specs.MemShelf.{mem_files}
use Rattle.cgm_transcripts.specs.Agreement.{IsLeftFile}
use Rattle.cgm_transcripts.proofs.comparison.other_file.Given as goal

abbrev pub invariant-loop-file : goal.invariant-loop-file
invariant-loop-file l = All (IsLeftFile (mem_files l.shelf)) l.files ↔ All (IsLeftFile (mem_files l.shelf)) l.left

abbrev pub decreases-loop-file : goal.decreases-loop-file
decreases-loop-file l = length l.left
