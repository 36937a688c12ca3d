use Rattle.std.proofs.Common.{◌++◌, List, map, ap, ◌∙◌}
use Rattle.cgm_model.specs.declared.lists.Assertion.{Assertion}
use Rattle.cgm_model.specs.declared.lists.Edge.{Edge}
use Rattle.cgm_model.specs.declared.lists.Statement.TheVariants as statements
use Rattle.cgm_model.specs.Model.{lists_of}
use Rattle.cgm_print.specs.Canonical.{statement_lines}
use Rattle.cgm_print.proofs.Spaces.{four_groups}
use Rattle.cgm_print.proofs.model_printer.relations.Goals as goal

pub returns : goal.returns
returns c =
    let m = lists_of c.args.model.now in
    four_groups m (map (λ (x : Edge). statements.Contrib x) m.contribs) (map (λ (x : Edge). statements.Conflict x) m.conflicts) (map (λ (x : Edge). statements.Bind x) m.binds) (map (λ (x : Assertion). statements.Assert x) m.asserts) c.args.printer.now.text.items c.lines.new.printer.text.items c.lines-2.new.printer.text.items c.lines-3.new.printer.text.items c.lines-4.new.printer.text.items
    (c.in_ok-lines.ensures ∙ ap (λ (xs : List Edge). c.args.printer.now.text.items ++ statement_lines m (map (λ (x : Edge). statements.Contrib x) xs)) c.as_slice.ensures)
    (c.in_ok-lines-2.ensures ∙ ap (λ (xs : List Edge). c.lines.new.printer.text.items ++ statement_lines m (map (λ (x : Edge). statements.Conflict x) xs)) c.as_slice-2.ensures)
    (c.in_ok-lines-3.ensures ∙ ap (λ (xs : List Edge). c.lines-2.new.printer.text.items ++ statement_lines m (map (λ (x : Edge). statements.Bind x) xs)) c.as_slice-3.ensures)
    (c.in_ok-lines-4.ensures ∙ ap (λ (xs : List Assertion). c.lines-3.new.printer.text.items ++ statement_lines m (map (λ (x : Assertion). statements.Assert x) xs)) c.as_slice-4.ensures)
