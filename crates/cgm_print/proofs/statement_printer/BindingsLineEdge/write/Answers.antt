use Rattle.std.proofs.Common.{codes, []}
use Rattle.cgm_model.specs.Model.{lists_of}
use Rattle.cgm_print.specs.Canonical.{refinement_name}
use Rattle.cgm_print.specs.Printing.{text_followed}
use Rattle.cgm_print.proofs.Spaces.{two_names}
use Rattle.cgm_print.proofs.statement_printer.BindingsLineEdge.write.Goals as goal

pub returns : goal.returns
returns c =
    let m = lists_of c.args.model.now in
    two_names c.pair.result (codes "bind") c.refinement_name.result.now c.refinement_name-2.result.now (refinement_name m c.args.item.now.from) (refinement_name m c.args.item.now.to) c.args.printer.now.text.items (text_followed c.pair.new.printer [])
    c.refinement_name.ensures c.refinement_name-2.ensures c.pair.ensures
