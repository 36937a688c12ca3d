use Rattle.std.proofs.Common.{◌≡◌, List, drop, map}
use Rattle.cgm_lex.specs.Lexemes.{Lexeme}
use Rattle.cgm_model.specs.Model.{lists_of}
use Rattle.cgm_print.specs.Canonical.{written_term}
use Rattle.cgm_print.specs.Printing.{text_followed}
use Rattle.cgm_print.specs.Written.{spelled_terms}
use Rattle.cgm_print.proofs.formula_printer.terms.Given as goal

abbrev pub invariant-loop-one : goal.invariant-loop-one
invariant-loop-one l =
    (after : List Lexeme) → text_followed l.printer (spelled_terms (map (written_term (lists_of l.model)) (drop l.one-index l.terms)) after)
    ≡ text_followed l.initial.printer (spelled_terms (map (written_term (lists_of l.model)) l.terms) after)
