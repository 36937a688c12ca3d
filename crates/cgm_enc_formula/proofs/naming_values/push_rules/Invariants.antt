use Rattle.std.proofs.Common.{◌≡◌, ◌++◌, drop, map}
use Rattle.cgm_atom.specs.Literals.{bit}
use Rattle.cgm_formula.specs.Reading.{name_in, number_in}
use Rattle.cgm_enc_formula.specs.NamingValues.{rule_truths}
use Rattle.cgm_enc_formula.proofs.naming_values.push_rules.Given as goal

abbrev pub invariant-loop-rule : goal.invariant-loop-rule
invariant-loop-rule l =
    l.out.items ++ map bit (rule_truths (name_in l.assignment) (number_in l.assignment l.sums) (drop l.rule-index l.rules))
    ≡ l.initial.out.items ++ map bit (rule_truths (name_in l.assignment) (number_in l.assignment l.sums) l.rules)
