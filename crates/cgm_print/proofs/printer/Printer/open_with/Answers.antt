use Rattle.std.proofs.Common.{◌∙◌, ◌∷◌}
use Rattle.cgm_lex.specs.Lexemes.{word}
use Rattle.cgm_print.proofs.printer.Printer.open_with.Goals as goal

pub returns : goal.returns
returns c after = c.in_ok-word.ensures after ∙ c.in_ok-open.ensures (word c.args.first.now ∷ after)
