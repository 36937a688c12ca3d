use Rattle.std.proofs.Common.{◌≡◌, ◌∙◌, ◌∷◌, [], ◌++◌, ap, List, ℕ, ℤ, arith, to_z, of_z, w64}
use Rattle.std.proofs.lemmas.Int.{ints}
use Rattle.cgm_lex.specs.Lexemes.{number, word}
use Rattle.cgm_lex.specs.Spelling.{spelled_line}
use Rattle.cgm_model.specs.Model.{lists_of}
use Rattle.cgm_print.specs.Canonical.{element_name}
use Rattle.cgm_print.specs.Statements.{sort_word}
use Rattle.cgm_print.proofs.statement_printer.weighing.Goals as goal

pub returns : goal.returns
returns c =
    let old = c.args.printer.now.text.items in
    let first = sort_word c.args.sort in
    let k = to_z w64 (of_z w64 c.args.item.now.k) in
    let same : to_z w64 (of_z w64 c.args.item.now.k) ≡ c.args.item.now.k = omega (arith, ints) in
    c.in_ok-number.ensures [] ∙ c.in_ok-named_line.ensures (number k ∷ [])
    ∙ ap (λ (x : List ℕ). old ++ spelled_line (word first ∷ word x ∷ number k ∷ [])) c.element_name.ensures
    ∙ ap (λ (z : ℤ). old ++ spelled_line (word first ∷ word (element_name (lists_of c.args.model.now) c.args.item.now.element) ∷ number z ∷ [])) same
