use Rattle.std.proofs.Common.{rules, arith}
use Rattle.std.proofs.lemmas.Grind.{common_steps}
use Rattle.std.specs.Prelude.{Some}
use Rattle.cgm_atom.specs.declared.checks.Violated.TheVariants as violated
use Rattle.cgm_atom.proofs.Solutions.{none_exactly}
use Rattle.cgm_atom.proofs.checks.first_violated.Goals as goal

pub returns-in-Some-first_false_clause-clause-none :
    goal.returns-in-Some-first_false_clause-clause-none
returns-in-Some-first_false_clause-clause-none c =
    none_exactly c.args.problem.now c.args.values.now (Some (violated.Clause c.in-Some-first_false_clause.n)) c.vars.ensures.valid.proper (search rules)

pub returns-clause-none : goal.returns-clause-none
returns-clause-none c =
    none_exactly c.args.problem.now c.args.values.now c.map.result c.vars.ensures.valid.proper (grind (arith, common_steps))
