use Rattle.std.proofs.Common.{◌∙◌, ◌∷◌, ◌++◌, ap, List, ℕ}
use Rattle.cgm_lex.specs.Lexemes.{word}
use Rattle.cgm_lex.specs.Spelling.{spelled_line}
use Rattle.cgm_print.proofs.statement_printer.begin_statement.Goals as goal

pub returns : goal.returns
returns c after =
    c.in_ok-begin_line.ensures after
    ∙ ap (λ (x : List ℕ). c.args.printer.now.text.items ++ spelled_line (word x ∷ after)) c.word.ensures
