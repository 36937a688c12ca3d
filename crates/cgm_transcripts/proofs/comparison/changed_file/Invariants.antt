use Rattle.std.proofs.Common.{◌↔◌, length, All}
use Rattle.std.specs.String.{string_bytes}
use Rattle.cgm_shelf.specs.MemShelf.{mem_files}
use Rattle.cgm_transcripts.specs.Agreement.{IsKeptFile}
use Rattle.cgm_transcripts.specs.Folder.{files_of}
use Rattle.cgm_transcripts.proofs.comparison.changed_file.Given as goal

abbrev pub invariant-loop-name : goal.invariant-loop-name
invariant-loop-name l =
    All (λ name. IsKeptFile l.words (files_of l.before) (mem_files l.after) (string_bytes name)) l.names
    ↔ All (λ name. IsKeptFile l.words (files_of l.before) (mem_files l.after) (string_bytes name)) l.left

abbrev pub decreases-loop-name : goal.decreases-loop-name
decreases-loop-name l = length l.left
