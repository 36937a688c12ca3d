use Rattle.std.proofs.Common.{◌≡◌, ◌++◌, drop, map}
use Rattle.cgm_model.specs.Model.{lists_of}
use Rattle.cgm_print.specs.Canonical.{statement_lines}
use Rattle.cgm_print.proofs.line.lines.Given as goal

abbrev pub invariant-loop-one : goal.invariant-loop-one
invariant-loop-one g l =
    l.printer.text.items ++ statement_lines (lists_of l.model) (map g.L.Line.statement (drop l.one-index l.all))
    ≡ l.initial.printer.text.items ++ statement_lines (lists_of l.model) (map g.L.Line.statement l.all)
