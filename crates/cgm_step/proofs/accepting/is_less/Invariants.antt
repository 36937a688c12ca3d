use Rattle.std.proofs.Common.{◌≡◌, drop}
use Rattle.cgm_atom.specs.Instance.{values_at}
use Rattle.cgm_atom.specs.Order.{is_less}
use Rattle.cgm_step.proofs.accepting.is_less.Given as goal

abbrev pub invariant-loop-objective : goal.invariant-loop-objective
invariant-loop-objective l =
    is_less (values_at l.values (drop l.objective-index l.objectives)) (values_at l.others (drop l.objective-index l.objectives))
    ≡ is_less (values_at l.values l.objectives) (values_at l.others l.objectives)
