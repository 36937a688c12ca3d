use Rattle.std.proofs.Common.{◌∙◌, ◌∷◌, [], ◌++◌, codes, ap, sym, List, ℕ}
use Rattle.cgm_lex.specs.Lexemes.{word}
use Rattle.cgm_lex.specs.Spelling.{spelled_line}
use Rattle.cgm_model.specs.declared.lists.ElementKind.{ElementKind}
use Rattle.cgm_print.specs.Canonical.{written_element}
use Rattle.cgm_print.specs.Statements.{statement_tokens}
use Rattle.cgm_print.proofs.statement_printer.ElementsLineElement.write.Goals as goal

pub returns-in_ok-named_line-in-Task : goal.returns-in_ok-named_line-in-Task
returns-in_ok-named_line-in-Task c =
    let e = c.args.item.now in
    let old = c.args.printer.now.text.items in
    c.in_ok-named_line-in-Task.ensures [] ∙ ap (λ (x : List ℕ). old ++ spelled_line (word (codes "task") ∷ word x ∷ [])) c.as_slice-in-Task.ensures
    ∙ ap (λ (k : ElementKind). old ++ spelled_line (statement_tokens (written_element e.name k e.must))) (sym c.in-Task.is)

pub returns-in_ok-named_line-in-Assume : goal.returns-in_ok-named_line-in-Assume
returns-in_ok-named_line-in-Assume c =
    let e = c.args.item.now in
    let old = c.args.printer.now.text.items in
    c.in_ok-named_line-in-Assume.ensures [] ∙ ap (λ (x : List ℕ). old ++ spelled_line (word (codes "assume") ∷ word x ∷ [])) c.as_slice-in-Assume.ensures
    ∙ ap (λ (k : ElementKind). old ++ spelled_line (statement_tokens (written_element e.name k e.must))) (sym c.in-Assume.is)
