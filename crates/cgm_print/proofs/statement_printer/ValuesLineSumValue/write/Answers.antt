use Rattle.std.proofs.Common.{◌≡◌, ◌∙◌, ◌∷◌, [], ◌++◌, codes, ap, List, ℕ, ℤ, arith, to_z, of_z, w64}
use Rattle.std.proofs.lemmas.Int.{ints}
use Rattle.cgm_lex.specs.Lexemes.{number, word}
use Rattle.cgm_lex.specs.Spelling.{spelled_line}
use Rattle.cgm_model.specs.Model.{lists_of}
use Rattle.cgm_print.specs.Canonical.{sum_name, truth_name}
use Rattle.cgm_print.proofs.statement_printer.ValuesLineSumValue.write.Goals as goal

pub returns : goal.returns
returns c =
    let m = lists_of c.args.model.now in
    let old = c.args.printer.now.text.items in
    let k = to_z w64 (of_z w64 c.args.item.now.k) in
    let same : to_z w64 (of_z w64 c.args.item.now.k) ≡ c.args.item.now.k = omega (arith, ints) in
    c.in_ok-number.ensures [] ∙ c.in_ok-word.ensures (number k ∷ []) ∙ c.in_ok-named_line.ensures (word c.truth_name.result.now ∷ number k ∷ [])
    ∙ ap (λ (x : List ℕ). old ++ spelled_line (word (codes "value") ∷ word x ∷ word c.truth_name.result.now ∷ number k ∷ [])) c.sum_name.ensures
    ∙ ap (λ (x : List ℕ). old ++ spelled_line (word (codes "value") ∷ word (sum_name m c.args.item.now.sum) ∷ word x ∷ number k ∷ [])) c.truth_name.ensures
    ∙ ap (λ (z : ℤ). old ++ spelled_line (word (codes "value") ∷ word (sum_name m c.args.item.now.sum) ∷ word (truth_name m c.args.item.now.of) ∷ number z ∷ [])) same
