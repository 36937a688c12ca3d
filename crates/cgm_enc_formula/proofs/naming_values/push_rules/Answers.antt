use Rattle.std.proofs.Common.{◌++◌, ◌∙◌, ap, map, subst, sym}
use Rattle.cgm_atom.specs.Literals.{bit}
use Rattle.cgm_formula.specs.declared.formula.Formula.{Formula}
use Rattle.cgm_formula.specs.Reading.{name_in, number_in}
use Rattle.cgm_formula.specs.Sizes.{AreSmallIn}
use Rattle.cgm_model.specs.declared.lists.Rule.{Rule}
use Rattle.cgm_model.specs.Formulas.{formula_of}
use Rattle.cgm_enc_formula.specs.NamingValues.{rule_truths, told}
use Rattle.cgm_enc_formula.proofs.ToldSteps.{rule_told}
use Rattle.cgm_enc_formula.proofs.naming_values.push_rules.Goals as goal

pub push_formula-requires : goal.push_formula-requires
push_formula-requires c =
    let numbers = number_in c.args.assignment.now c.args.sums.now in
    subst (AreSmallIn numbers) (sym c.formula_of.ensures)
    (subst (λ (r : Rule). AreSmallIn numbers (formula_of r)) (sym c.rule-item.is) (c.requires c.loop-rule.rule-index c.rule-item.result c.loop-rule-test.true))

pub loop-rule-preserved : goal.loop-rule-preserved
loop-rule-preserved c =
    let names = name_in c.args.assignment.now in
    let numbers = number_in c.args.assignment.now c.args.sums.now in
    rule_told names numbers c.args.rules.now c.loop-rule.rule-index c.rule-item.result c.loop-rule.out.items c.push_formula.new.out.items
    (c.args.out.now.items ++ map bit (rule_truths names numbers c.args.rules.now))
    c.loop-rule-test.true c.rule-item.is c.loop-rule.invariant
    (c.in_ok-push_formula.ensures.added ∙ ap (λ (f : Formula). c.loop-rule.out.items ++ map bit (told names numbers f).truths) c.formula_of.ensures)
