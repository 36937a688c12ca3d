use Rattle.std.proofs.Common.{◌∙◌, ◌∷◌, []}
use Rattle.cgm_lex.specs.Lexemes.{word}
use Rattle.cgm_print.proofs.statement_printer.pair.Goals as goal

pub returns : goal.returns
returns c = c.in_ok-word.ensures [] ∙ c.in_ok-named_line.ensures (word c.args.other.now ∷ [])
