use Rattle.std.proofs.Common.{◌∙◌, ◌∷◌, [], ◌++◌, codes, ap, List, ℕ}
use Rattle.cgm_lex.specs.Lexemes.{word}
use Rattle.cgm_lex.specs.Spelling.{spelled_line}
use Rattle.cgm_print.proofs.statement_printer.InterestsLineU32.write.Goals as goal

pub returns : goal.returns
returns c =
    c.in_ok-named_line.ensures []
    ∙ ap (λ (x : List ℕ). c.args.printer.now.text.items ++ spelled_line (word (codes "interest") ∷ word x ∷ [])) c.element_name.ensures
