use Rattle.std.proofs.Common.{◌++◌, List, map, ap, ◌∙◌}
use Rattle.cgm_model.specs.declared.lists.Preference.{Preference}
use Rattle.cgm_model.specs.declared.lists.SumValue.{SumValue}
use Rattle.cgm_model.specs.declared.lists.Weighing.{Weighing}
use Rattle.cgm_model.specs.declared.lists.Statement.TheVariants as statements
use Rattle.cgm_model.specs.Model.{lists_of}
use Rattle.cgm_print.specs.Canonical.{statement_lines}
use Rattle.cgm_print.proofs.Spaces.{four_groups}
use Rattle.cgm_print.proofs.model_printer.weights.Goals as goal

pub returns : goal.returns
returns c =
    let m = lists_of c.args.model.now in
    four_groups m (map (λ (x : SumValue). statements.Value x) m.values) (map (λ (x : Weighing). statements.Reward x) m.rewards) (map (λ (x : Weighing). statements.Penalty x) m.penalties) (map (λ (x : Preference). statements.Prefer x) m.prefers) c.args.printer.now.text.items c.lines.new.printer.text.items c.lines-2.new.printer.text.items c.lines-3.new.printer.text.items c.lines-4.new.printer.text.items
    (c.in_ok-lines.ensures ∙ ap (λ (xs : List SumValue). c.args.printer.now.text.items ++ statement_lines m (map (λ (x : SumValue). statements.Value x) xs)) c.as_slice.ensures)
    (c.in_ok-lines-2.ensures ∙ ap (λ (xs : List Weighing). c.lines.new.printer.text.items ++ statement_lines m (map (λ (x : Weighing). statements.Reward x) xs)) c.as_slice-2.ensures)
    (c.in_ok-lines-3.ensures ∙ ap (λ (xs : List Weighing). c.lines-2.new.printer.text.items ++ statement_lines m (map (λ (x : Weighing). statements.Penalty x) xs)) c.as_slice-3.ensures)
    (c.in_ok-lines-4.ensures ∙ ap (λ (xs : List Preference). c.lines-3.new.printer.text.items ++ statement_lines m (map (λ (x : Preference). statements.Prefer x) xs)) c.as_slice-4.ensures)
