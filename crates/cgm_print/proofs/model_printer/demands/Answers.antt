use Rattle.std.proofs.Common.{◌++◌, List, ℕ, map, ap, ◌∙◌}
use Rattle.cgm_model.specs.declared.lists.Objective.{Objective}
use Rattle.cgm_model.specs.declared.lists.Rule.{Rule}
use Rattle.cgm_model.specs.declared.lists.Statement.TheVariants as statements
use Rattle.cgm_model.specs.Model.{lists_of}
use Rattle.cgm_print.specs.Canonical.{statement_lines}
use Rattle.cgm_print.proofs.Spaces.{three_groups}
use Rattle.cgm_print.proofs.model_printer.demands.Goals as goal

pub returns : goal.returns
returns c =
    let m = lists_of c.args.model.now in
    three_groups m (map (λ (x : Rule). statements.Rule x) m.rules) (map (λ (x : ℕ). statements.Interest x) m.interests) (map (λ (x : Objective). statements.Objective x) m.objectives) c.args.printer.now.text.items c.lines.new.printer.text.items c.lines-2.new.printer.text.items c.lines-3.new.printer.text.items
    (c.in_ok-lines.ensures ∙ ap (λ (xs : List Rule). c.args.printer.now.text.items ++ statement_lines m (map (λ (x : Rule). statements.Rule x) xs)) c.as_slice.ensures)
    (c.in_ok-lines-2.ensures ∙ ap (λ (xs : List ℕ). c.lines.new.printer.text.items ++ statement_lines m (map (λ (x : ℕ). statements.Interest x) xs)) c.as_slice-2.ensures)
    (c.in_ok-lines-3.ensures ∙ ap (λ (xs : List Objective). c.lines-2.new.printer.text.items ++ statement_lines m (map (λ (x : Objective). statements.Objective x) xs)) c.as_slice-3.ensures)
