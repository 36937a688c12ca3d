use Rattle.std.proofs.Common.{◌∙◌, ◌∷◌, [], ◌++◌, ap, List, ℕ}
use Rattle.cgm_lex.specs.Lexemes.{word}
use Rattle.cgm_lex.specs.Spelling.{spelled_line}
use Rattle.cgm_model.specs.Model.{lists_of}
use Rattle.cgm_print.specs.Canonical.{written_formula}
use Rattle.cgm_print.specs.Statements.{sort_word}
use Rattle.cgm_print.specs.Written.{spelled}
use Rattle.cgm_print.proofs.statement_printer.condition.Goals as goal

pub returns : goal.returns
returns c =
    let w = spelled (written_formula (lists_of c.args.model.now) c.args.tree.now) [] in
    c.in_ok-formula.ensures [] ∙ c.in_ok-named_line.ensures w
    ∙ ap (λ (x : List ℕ). c.args.printer.now.text.items ++ spelled_line (word (sort_word c.args.sort) ∷ word x ∷ w)) c.truth_name.ensures
