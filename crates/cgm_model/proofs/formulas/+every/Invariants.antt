use Rattle.std.proofs.Common.{◌≡◌, drop}
use Rattle.std.specs.List.{list_all}
use Rattle.cgm_model.specs.Checks.{passes}
use Rattle.cgm_model.specs.Formulas.{every_linear}
use Rattle.cgm_model.proofs.formulas.+every.Given as goal

abbrev pub invariant-every_linear_each-loop-part : goal.invariant-every_linear_each-loop-part
invariant-every_linear_each-loop-part l =
    list_all (every_linear (passes l.test)) (drop l.part-index l.parts) ≡ list_all (every_linear (passes l.test)) l.parts
