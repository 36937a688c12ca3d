use Rattle.std.proofs.Common.{List, map, ap, ◌∙◌}
use Rattle.cgm_model.specs.declared.lists.Objective.{Objective}
use Rattle.cgm_model.specs.Model.{lists_of}
use Rattle.cgm_enc_formula.proofs.Mapped.{mapped_by, mapped_all}
use Rattle.cgm_encode.specs.declared.expressions.Expression.{Expression}
use Rattle.cgm_encode.specs.Building.{expression_of}
use Rattle.cgm_encode.specs.Quantities.{objective_total}
use Rattle.cgm_encode.specs.Variables.{first_objective}
use Rattle.cgm_encode.proofs.quantities.objective_expressions.Goals as goal

pub loop-o-preserved : goal.loop-o-preserved
loop-o-preserved c =
    let m = lists_of c.args.model.now in
    let f : Objective → Expression = λ o. expression_of (first_objective m) (objective_total m c.args.earlier.now.pairs o) in
    mapped_by f c.objectives-objectives.result.now c.loop-o.o-index _ c.in_ok-objective_expression.field-0 c.loop-o.expressions.items c.push.new.self.items
    c.loop-o-test.true c.loop-o.invariant c.in_ok-objective_expression.ensures c.in_ok-push.ensures.items

pub returns : goal.returns
returns c =
    let m = lists_of c.args.model.now in
    let f : Objective → Expression = λ o. expression_of (first_objective m) (objective_total m c.args.earlier.now.pairs o) in
    mapped_all f c.objectives-objectives.result.now c.loop-o.o-index c.loop-o.expressions.items c.loop-o-test.false c.loop-o.invariant
    ∙ ap (λ (os : List Objective). map f os) c.objectives-objectives.ensures.items
