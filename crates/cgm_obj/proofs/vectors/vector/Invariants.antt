use Rattle.std.proofs.Common.{◌≡◌, map, take}
use Rattle.cgm_model.specs.Model.{lists_of}
use Rattle.cgm_obj.specs.Vector.{objective_number}
use Rattle.cgm_obj.proofs.vectors.vector.Given as goal

abbrev pub invariant-loop-o : goal.invariant-loop-o
invariant-loop-o l = l.numbers.items ≡ map (objective_number (lists_of l.model) l.earlier.pairs l.assignment) (take l.o-index l.o-items)
