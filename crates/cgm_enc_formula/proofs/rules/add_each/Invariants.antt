use Rattle.std.proofs.Common.{drop}
use Rattle.cgm_model.specs.Model.{lists_of}
use Rattle.cgm_enc_formula.proofs.RuleSteps.{AreAdded}
use Rattle.cgm_enc_formula.proofs.rules.add_each.Given as goal

abbrev pub invariant-loop-rule : goal.invariant-loop-rule
invariant-loop-rule l = AreAdded (lists_of l.model) l.fn.builder l.rules l.builder (drop l.rule-index l.rules)
