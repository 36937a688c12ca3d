use Rattle.std.proofs.Common.{◌+◌, ◌≤◌, length}
use Rattle.cgm_lex.proofs.Readings.{IsReadTo}
use Rattle.cgm_lex.proofs.reading.add_lines.Given as goal

abbrev pub invariant-loop-line : goal.invariant-loop-line
invariant-loop-line g l =
    IsReadTo g.D.Draft.form g.D.Draft.holds l.fn.bytes l.number l.rest l.draft × (l.number + length l.rest ≤ 1 + length l.fn.bytes) × (1 ≤ l.number)

abbrev pub decreases-loop-line : goal.decreases-loop-line
decreases-loop-line g l = length l.rest
