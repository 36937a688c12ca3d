use Rattle.std.proofs.Common.{◌∙◌}
use Rattle.cgm_model.specs.declared.lists.Element.{Element}
use Rattle.cgm_print.proofs.Printed.{none_named, some_named}
use Rattle.cgm_print.proofs.names.element_name.Goals as goal

pub returns-in-None : goal.returns-in-None
returns-in-None c =
    none_named (λ (x : Element). x.name) c.as_slice.result.now c.args.model.now.elements c.args.k c.in-None.ensures c.as_slice.ensures

pub returns-in-Some : goal.returns-in-Some
returns-in-Some c =
    c.as_slice-in-Some.ensures ∙ some_named (λ (x : Element). x.name) c.as_slice.result.now c.args.model.now.elements c.args.k c.in-Some.element.now c.in-Some.ensures c.as_slice.ensures
