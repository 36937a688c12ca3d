use Rattle.cgm_encode.proofs.AddedRows.{AreRowsLeft}
use Rattle.cgm_encode.proofs.rows.add_defining_rows.Given as goal

abbrev pub invariant-loop-place : goal.invariant-loop-place
invariant-loop-place l =
    AreRowsLeft l.fn.builder l.variables l.expressions l.place l.builder
