use Rattle.std.proofs.Common.{◌≡◌, take}
use Rattle.cgm_formula.proofs.formula.+copy.Given as goal

abbrev pub invariant-copy_all-loop-part : goal.invariant-copy_all-loop-part
invariant-copy_all-loop-part l = l.copies.items ≡ take l.part-index l.parts
