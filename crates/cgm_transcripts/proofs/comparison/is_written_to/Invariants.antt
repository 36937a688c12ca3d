use Rattle.std.proofs.Common.{◌↔◌, length}
use Rattle.cgm_transcripts.specs.Agreement.{IsWrittenTo}
use Rattle.cgm_transcripts.proofs.comparison.is_written_to.Given as goal

abbrev pub invariant-loop-word : goal.invariant-loop-word
invariant-loop-word l = IsWrittenTo l.words l.name ↔ IsWrittenTo l.left l.name

abbrev pub decreases-loop-word : goal.decreases-loop-word
decreases-loop-word l = length l.left
