use Rattle.std.proofs.Common.{List, ap, ◌∙◌}
use Rattle.cgm_atom.specs.declared.constraints.Var.{Var}
use Rattle.cgm_atom.specs.Instance.{values_at}
use Rattle.cgm_encode.proofs.Promises.{found_promise}
use Rattle.cgm_encode.proofs.solutions.decoded.Goals as goal

pub returns : goal.returns
returns c =
    found_promise c.args.encoded.now c.args.values.now (record { assignment = c.in_ok-assignment.assignment; vector = c.of.result }) c.in_ok-assignment.ensures
    (c.of.ensures ∙ c.in_ok-vector.ensures ∙ ap (λ (vs : List Var). values_at c.args.values.now vs) c.objectives.ensures.objectives)
