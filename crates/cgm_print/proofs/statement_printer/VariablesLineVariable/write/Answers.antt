use Rattle.std.proofs.Common.{◌≡◌, ◌∙◌, ◌∷◌, [], ◌++◌, codes, ap, List, ℕ, ℤ, arith, to_z, of_z, w64}
use Rattle.std.proofs.lemmas.Int.{ints}
use Rattle.cgm_lex.specs.Lexemes.{number, word}
use Rattle.cgm_lex.specs.Spelling.{spelled_line}
use Rattle.cgm_print.proofs.statement_printer.VariablesLineVariable.write.Goals as goal

pub returns : goal.returns
returns c =
    let old = c.args.printer.now.text.items in
    let name = c.args.item.now.name in
    let lo = to_z w64 (of_z w64 c.args.item.now.lo) in
    let hi = to_z w64 (of_z w64 c.args.item.now.hi) in
    let same_lo : to_z w64 (of_z w64 c.args.item.now.lo) ≡ c.args.item.now.lo = omega (arith, ints) in
    let same_hi : to_z w64 (of_z w64 c.args.item.now.hi) ≡ c.args.item.now.hi = omega (arith, ints) in
    c.in_ok-number-2.ensures [] ∙ c.in_ok-number.ensures (number hi ∷ []) ∙ c.in_ok-named_line.ensures (number lo ∷ number hi ∷ [])
    ∙ ap (λ (x : List ℕ). old ++ spelled_line (word (codes "var") ∷ word x ∷ number lo ∷ number hi ∷ [])) c.as_slice.ensures
    ∙ ap (λ (z : ℤ). old ++ spelled_line (word (codes "var") ∷ word name ∷ number z ∷ number hi ∷ [])) same_lo
    ∙ ap (λ (z : ℤ). old ++ spelled_line (word (codes "var") ∷ word name ∷ number c.args.item.now.lo ∷ number z ∷ [])) same_hi
