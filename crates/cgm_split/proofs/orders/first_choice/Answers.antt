use Rattle.std.proofs.Common.{◌<◌, length, subst}
use Rattle.cgm_atom.specs.Bounds.{AreProperBounds}
use Rattle.cgm_split.proofs.Choosing.{IsChoice, choice_known, choice_lowest, choice_unfixed, none_exactly}
use Rattle.cgm_split.proofs.orders.first_choice.Goals as goal

choice : (c : goal.After-first_of_both) → IsChoice c.args.bounds.now c.args.order.now c.first_of_both.result
choice c = record {
  valid = c.objectives.ensures.valid;
  count = c.requires;
  proper = subst (λ vs. 0 < length vs → AreProperBounds c.args.bounds.now) c.variables-variables.ensures.variables c.is_proper.ensures;
  first = cc (c.first_of_both.ensures, c.objectives.ensures.objectives, c.variables-variables.ensures.variables);
}

pub returns-clause-none : goal.returns-clause-none
returns-clause-none c = none_exactly c.args.bounds.now c.args.order.now c.first_of_both.result (choice c)

pub returns-clause-known : goal.returns-clause-known
returns-clause-known c = choice_known c.args.bounds.now c.args.order.now c.first_of_both.result (choice c)

pub returns-clause-unfixed : goal.returns-clause-unfixed
returns-clause-unfixed c = choice_unfixed c.args.bounds.now c.args.order.now c.first_of_both.result (choice c)

pub returns-clause-lowest : goal.returns-clause-lowest
returns-clause-lowest c numbered fixed =
    choice_lowest c.args.bounds.now c.args.order.now c.first_of_both.result (choice c) numbered fixed
