use Rattle.std.proofs.Common.{◌≡◌, ◌++◌, ◌∷◌, List, map, of_z, to_z, w64, ap, ◌∙◌, rules}
use Rattle.std.specs.Prelude.{ℤ, codes, decimal}
use Rattle.std.specs.Fmt.{signed_decimal}
use Rattle.std.proofs.lemmas.Result.{on_ok_weaker}
use Rattle.cgm_atom.specs.declared.constraints.Var.{Var}
use Rattle.cgm_atom.specs.AtomWords.{spaced}
use Rattle.cgm_encode.specs.ProblemText.{guard_word, term_word}
use Rattle.cgm_encode.proofs.Lines.{line_of, on_ok_items}
use Rattle.cgm_encode.proofs.printer.push_row.Goals as goal

pub returns : goal.returns
returns c =
    let row = c.args.row.now in
    let least : to_z w64 (of_z w64 row.least) ≡ row.least = search rules in
    on_ok_weaker c.extend_from_slice-2.result
    (λ last.
    line_of c.args.out.now.items (codes "row") (32 ∷ decimal c.args.n) (32 ∷ guard_word row.guard) (32 ∷ signed_decimal row.least) (spaced (map term_word row.terms))
    c.extend_from_slice.new.self.items c.push_number.new.out.items c.push_guard.new.out.items c.push_value.new.out.items c.push_terms.new.out.items c.extend_from_slice-2.new.self.items
    c.in_ok-extend_from_slice.ensures.items c.in_ok-push_number.ensures c.in_ok-push_guard.ensures
    (c.in_ok-push_value.ensures ∙ ap (λ (z : ℤ). c.push_guard.new.out.items ++ 32 ∷ signed_decimal z) least)
    (c.in_ok-push_terms.ensures ∙ ap (λ (ts : List (ℤ × Var)). c.push_value.new.out.items ++ spaced (map term_word ts)) c.as_slice.ensures)
    last)
    (on_ok_items c.extend_from_slice-2.result c.extend_from_slice-2.new.self.items _ _ c.extend_from_slice-2.ensures.items)
