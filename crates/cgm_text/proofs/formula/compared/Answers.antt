use Rattle.std.proofs.Common.{◌∷◌}
use Rattle.cgm_lex.specs.Lexemes.{opening, word}
use Rattle.cgm_text.specs.Trees.{linear_in, seen_all}
use Rattle.cgm_print.specs.Written.{comparison_word}
use Rattle.cgm_text.proofs.Exits.{weaken}
use Rattle.cgm_text.proofs.Formulas.{no_comparison, no_comparison_bound}
use Rattle.cgm_text.proofs.formula.compared.Goals as goal
use Rattle.cgm_text.specs.Parsed.{BeginsNoFormula, BeginsNoLinear}

pub returns-in-Err-clause-form : goal.returns-in-Err-clause-form
returns-in-Err-clause-form c =
    let tokens = seen_all c.args.line.now c.args.tokens.now in
    weaken (BeginsNoLinear tokens) (BeginsNoFormula (opening ∷ word (comparison_word c.args.comparison) ∷ tokens)) c.in-Err.stop c.in-Err.ensures.form (no_comparison c.args.comparison tokens)

pub returns-in-None-clause-form : goal.returns-in-None-clause-form
returns-in-None-clause-form c =
    let line = c.args.line.now in
    no_comparison_bound c.args.comparison (linear_in line c.in-Ok.left) (seen_all line c.args.tokens.now) (seen_all line c.in-Ok.rest.now) c.in-Ok.ensures.found (c.in-None.ensures.none line)
