use Rattle.std.proofs.Common.{◌∙◌, ◌∷◌}
use Rattle.cgm_lex.specs.Lexemes.{word}
use Rattle.cgm_print.proofs.statement_printer.named_line.Goals as goal

pub returns : goal.returns
returns c after = c.in_ok-word.ensures after ∙ c.in_ok-begin_statement.ensures (word c.args.name.now ∷ after)
