use Rattle.std.proofs.Common.{drop}
use Rattle.cgm_model.specs.Model.{lists_of}
use Rattle.cgm_enc_formula.proofs.NamingSteps.{AreNamed}
use Rattle.cgm_enc_formula.proofs.names.+naming.Given as goal

abbrev pub invariant-name_each-loop-part : goal.invariant-name_each-loop-part
invariant-name_each-loop-part l =
    AreNamed (lists_of l.model) l.fn.builder l.parts l.builder l.literals.items (drop l.part-index l.parts)
