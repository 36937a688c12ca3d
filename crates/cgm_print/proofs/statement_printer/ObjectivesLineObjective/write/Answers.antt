use Rattle.std.proofs.Common.{codes, []}
use Rattle.cgm_model.specs.Model.{lists_of}
use Rattle.cgm_print.specs.Canonical.{direction_of, quantity_name}
use Rattle.cgm_print.specs.Printing.{text_followed}
use Rattle.cgm_print.specs.Statements.{direction_word}
use Rattle.cgm_print.proofs.Spaces.{two_names}
use Rattle.cgm_print.proofs.statement_printer.ObjectivesLineObjective.write.Goals as goal

pub returns : goal.returns
returns c =
    let m = lists_of c.args.model.now in
    two_names c.pair.result (codes "objective") c.direction_word.result.now c.quantity_name.result.now (direction_word (direction_of c.args.item.now.max)) (quantity_name m c.args.item.now.of) c.args.printer.now.text.items (text_followed c.pair.new.printer [])
    c.direction_word.ensures c.quantity_name.ensures c.pair.ensures
