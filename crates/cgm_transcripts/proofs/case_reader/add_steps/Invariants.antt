use Rattle.std.proofs.Common.{◌-◌, ◌≤◌, length}
use Rattle.cgm_transcripts.proofs.case_reader.add_steps.Given as goal

abbrev pub invariant-loop-at : goal.invariant-loop-at
invariant-loop-at l = (l.from ≤ l.at) × (l.at ≤ length l.directives)

abbrev pub decreases-loop-at : goal.decreases-loop-at
decreases-loop-at l = length l.directives - l.at
