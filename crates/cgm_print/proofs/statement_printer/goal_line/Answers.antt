use Rattle.std.proofs.Common.{◌≡◌, ◌∙◌, ◌∷◌, [], ◌++◌, codes, ap, sym, Bool, true}
use Rattle.cgm_lex.specs.Lexemes.{word}
use Rattle.cgm_lex.specs.Spelling.{spelled_line}
use Rattle.cgm_print.specs.Statements.{goal as written_goal, statement_tokens}
use Rattle.cgm_print.proofs.statement_printer.goal_line.Goals as goal

pub returns-in_ok-word : goal.returns-in_ok-word
returns-in_ok-word c =
    let yes : c.args.must ≡ true = cc in
    c.in_ok-word.ensures [] ∙ c.in_ok-named_line.ensures (word (codes "must") ∷ [])
    ∙ ap (λ (b : Bool). c.args.printer.now.text.items ++ spelled_line (statement_tokens (written_goal c.args.name.now b))) (sym yes)
