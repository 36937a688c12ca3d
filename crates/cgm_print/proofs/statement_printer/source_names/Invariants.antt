use Rattle.std.proofs.Common.{◌≡◌, List, drop, map}
use Rattle.cgm_lex.specs.Lexemes.{Lexeme}
use Rattle.cgm_model.specs.Model.{lists_of}
use Rattle.cgm_print.specs.Canonical.{element_name}
use Rattle.cgm_print.specs.Printing.{text_followed, words_before}
use Rattle.cgm_print.proofs.statement_printer.source_names.Given as goal

abbrev pub invariant-loop-number : goal.invariant-loop-number
invariant-loop-number l =
    (after : List Lexeme) → text_followed l.printer (words_before (map (element_name (lists_of l.model)) (drop l.number-index l.numbers)) after)
    ≡ text_followed l.initial.printer (words_before (map (element_name (lists_of l.model)) l.numbers) after)
