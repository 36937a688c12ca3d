use Rattle.std.proofs.Common.{◌≡◌, List, drop, map}
use Rattle.cgm_lex.specs.Lexemes.{Lexeme}
use Rattle.cgm_model.specs.Model.{lists_of}
use Rattle.cgm_print.specs.Canonical.{written_formula}
use Rattle.cgm_print.specs.Printing.{text_followed}
use Rattle.cgm_print.specs.Written.{spelled_each, formulas_of}
use Rattle.cgm_print.proofs.formula_printer.+formula.Given as goal

abbrev pub invariant-each-loop-part : goal.invariant-each-loop-part
invariant-each-loop-part l =
    (after : List Lexeme) → text_followed l.printer (spelled_each (formulas_of (map (written_formula (lists_of l.model)) (drop l.part-index l.parts))) after)
    ≡ text_followed l.initial.printer (spelled_each (formulas_of (map (written_formula (lists_of l.model)) l.parts)) after)
