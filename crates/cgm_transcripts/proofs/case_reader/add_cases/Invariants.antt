use Rattle.std.proofs.Common.{◌-◌, ◌≤◌, length}
use Rattle.cgm_transcripts.proofs.case_reader.add_cases.Given as goal

abbrev pub invariant-loop-at : goal.invariant-loop-at
invariant-loop-at l = l.at ≤ length l.directives

abbrev pub decreases-loop-at : goal.decreases-loop-at
decreases-loop-at l = length l.directives - l.at
