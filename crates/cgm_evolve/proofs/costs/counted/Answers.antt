use Rattle.std.proofs.Common.{arith}
use Rattle.std.proofs.Math.Logic.{∥∥₁_elim}
use Rattle.std.proofs.Props.{props}
use Rattle.cgm_model.specs.Model.{lists_of}
use Rattle.cgm_evolve.specs.Costs.{is_counted}
use Rattle.cgm_evolve.proofs.Counts.{leaf_tasks_few}
use Rattle.cgm_evolve.proofs.costs.counted.Goals as goal

pub returns-then-is_empty-clause-few : goal.returns-then-is_empty-clause-few
returns-then-is_empty-clause-few c =
    let m = lists_of c.args.model.now in
    ∥∥₁_elim c.args.model.now.well_formed (hlevel props)
    (λ w. omega (arith, leaf_tasks_few m (is_counted c.args.cost m c.args.earlier.now.pairs c.args.assignment.now) w, c.counted_leaf_tasks.ensures))
