use Rattle.std.proofs.Common.{codes, []}
use Rattle.cgm_model.specs.Model.{lists_of}
use Rattle.cgm_print.specs.Canonical.{truth_name}
use Rattle.cgm_print.specs.Printing.{text_followed}
use Rattle.cgm_print.proofs.Spaces.{two_names}
use Rattle.cgm_print.proofs.statement_printer.PreferencesLinePreference.write.Goals as goal

pub returns : goal.returns
returns c =
    let m = lists_of c.args.model.now in
    two_names c.pair.result (codes "prefer") c.truth_name.result.now c.truth_name-2.result.now (truth_name m c.args.item.now.better) (truth_name m c.args.item.now.worse) c.args.printer.now.text.items (text_followed c.pair.new.printer [])
    c.truth_name.ensures c.truth_name-2.ensures c.pair.ensures
