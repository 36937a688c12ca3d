use Rattle.std.proofs.Common.{take}
use Rattle.cgm_model.proofs.Meeting.{Tracks}
use Rattle.cgm_model.proofs.formulas.are_distinct_by_set.Given as goal

abbrev pub invariant-loop-term : goal.invariant-loop-term
invariant-loop-term l = Tracks l.met (take l.term-index l.terms)
