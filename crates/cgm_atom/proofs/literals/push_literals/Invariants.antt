use Rattle.std.proofs.Common.{◌≡◌, ◌++◌, map, take}
use Rattle.cgm_atom.specs.Literals.{literal}
use Rattle.cgm_atom.proofs.literals.push_literals.Given as goal

abbrev pub invariant-loop-x : goal.invariant-loop-x
invariant-loop-x l = l.atoms.items ≡ l.initial.atoms.items ++ map literal (take l.x-index l.variables)
