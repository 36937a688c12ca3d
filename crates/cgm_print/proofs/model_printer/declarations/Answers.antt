use Rattle.std.proofs.Common.{◌++◌, List, map, ap, ◌∙◌}
use Rattle.cgm_model.specs.declared.lists.Element.{Element}
use Rattle.cgm_model.specs.declared.lists.Refinement.{Refinement}
use Rattle.cgm_model.specs.declared.lists.Sum.{Sum}
use Rattle.cgm_model.specs.declared.lists.Variable.{Variable}
use Rattle.cgm_model.specs.declared.lists.Statement.TheVariants as statements
use Rattle.cgm_model.specs.Model.{lists_of}
use Rattle.cgm_print.specs.Canonical.{statement_lines}
use Rattle.cgm_print.proofs.Spaces.{four_groups}
use Rattle.cgm_print.proofs.model_printer.declarations.Goals as goal

pub returns : goal.returns
returns c =
    let m = lists_of c.args.model.now in
    four_groups m (map (λ (x : Element). statements.Element x) m.elements) (map (λ (x : Refinement). statements.Refine x) m.refinements) (map (λ (x : Variable). statements.Variable x) m.vars) (map (λ (x : Sum). statements.Sum x) m.sums) c.args.printer.now.text.items c.lines.new.printer.text.items c.lines-2.new.printer.text.items c.lines-3.new.printer.text.items c.lines-4.new.printer.text.items
    (c.in_ok-lines.ensures ∙ ap (λ (xs : List Element). c.args.printer.now.text.items ++ statement_lines m (map (λ (x : Element). statements.Element x) xs)) c.as_slice.ensures)
    (c.in_ok-lines-2.ensures ∙ ap (λ (xs : List Refinement). c.lines.new.printer.text.items ++ statement_lines m (map (λ (x : Refinement). statements.Refine x) xs)) c.as_slice-2.ensures)
    (c.in_ok-lines-3.ensures ∙ ap (λ (xs : List Variable). c.lines-2.new.printer.text.items ++ statement_lines m (map (λ (x : Variable). statements.Variable x) xs)) c.as_slice-3.ensures)
    (c.in_ok-lines-4.ensures ∙ ap (λ (xs : List Sum). c.lines-3.new.printer.text.items ++ statement_lines m (map (λ (x : Sum). statements.Sum x) xs)) c.as_slice-4.ensures)
