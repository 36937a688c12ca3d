use Rattle.std.proofs.Common.{◌<◌, length, sym, subst}
use Rattle.std.specs.List.{All}
use Rattle.cgm_split.proofs.Choosing.{known_each_once}
use Rattle.cgm_split.proofs.Leading.{none_exactly}
use Rattle.cgm_split.proofs.activities.heaviest_choice.Goals as goal

pub is_proper-requires : goal.is_proper-requires
is_proper-requires c =
    subst (λ n. All (λ v. v.0 < n) c.args.variables.now) (sym c.requires.count) (known_each_once (length c.args.weights.now) c.args.variables.now c.requires.each_once)

pub heaviest_of-requires-clause-known : goal.heaviest_of-requires-clause-known
heaviest_of-requires-clause-known c = known_each_once (length c.args.weights.now) c.args.variables.now c.requires.each_once

pub returns-clause-none : goal.returns-clause-none
returns-clause-none c =
    none_exactly c.args.bounds.now c.args.weights.now c.args.variables.now c.heaviest_of.result c.is_proper.ensures c.requires.count c.requires.each_once c.heaviest_of.ensures
