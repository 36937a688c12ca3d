use Rattle.std.proofs.Common.{◌∙◌, sym, true≢false}
use Rattle.cgm_text.specs.Trees.{formula_in, seen_all}
use Rattle.cgm_text.proofs.Forms.{no_whole_formula}
use Rattle.cgm_text.proofs.form.whole_formula.Goals as goal

pub returns-else-is_end-clause-form : goal.returns-else-is_end-clause-form
returns-else-is_end-clause-form c =
    let line = c.args.line.now in
    no_whole_formula (formula_in line c.in-Ok.tree) (seen_all line c.args.tokens.now) (seen_all line c.in-Ok.rest.now) c.in-Ok.ensures.found (λ e. true≢false (sym ((c.is_end.ensures line).1 e) ∙ c.if-is_end.false))
