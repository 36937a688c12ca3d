use Rattle.std.proofs.Common.{codes, []}
use Rattle.cgm_model.specs.Model.{lists_of}
use Rattle.cgm_print.specs.Canonical.{element_name}
use Rattle.cgm_print.specs.Printing.{text_followed}
use Rattle.cgm_print.proofs.Spaces.{two_names}
use Rattle.cgm_print.proofs.statement_printer.ConflictsLineEdge.write.Goals as goal

pub returns : goal.returns
returns c =
    let m = lists_of c.args.model.now in
    two_names c.pair.result (codes "conflict") c.element_name.result.now c.element_name-2.result.now (element_name m c.args.item.now.from) (element_name m c.args.item.now.to) c.args.printer.now.text.items (text_followed c.pair.new.printer [])
    c.element_name.ensures c.element_name-2.ensures c.pair.ensures
