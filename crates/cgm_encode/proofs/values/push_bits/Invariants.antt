use Rattle.std.proofs.Common.{◌≡◌, ◌++◌, drop, map}
use Rattle.cgm_atom.specs.Literals.{bit}
use Rattle.cgm_encode.proofs.values.push_bits.Given as goal

abbrev pub invariant-loop-truth : goal.invariant-loop-truth
invariant-loop-truth l = l.out.items ++ map bit (drop l.truth-index l.truths) ≡ l.initial.out.items ++ map bit l.truths
