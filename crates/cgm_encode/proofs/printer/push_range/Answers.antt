use Rattle.std.proofs.Common.{◌≡◌, ◌++◌, ◌∷◌, of_z, to_z, w64, ap, ◌∙◌, rules}
use Rattle.std.specs.Prelude.{ℤ, codes, decimal}
use Rattle.std.specs.Fmt.{signed_decimal}
use Rattle.std.proofs.lemmas.Result.{on_ok_weaker}
use Rattle.cgm_encode.proofs.Lines.{on_ok_items, short_line_of}
use Rattle.cgm_encode.proofs.printer.push_range.Goals as goal

pub returns : goal.returns
returns c =
    let lo : to_z w64 (of_z w64 c.args.lo) ≡ c.args.lo = search rules in
    let hi : to_z w64 (of_z w64 c.args.hi) ≡ c.args.hi = search rules in
    on_ok_weaker c.extend_from_slice-2.result
    (λ last.
    short_line_of c.args.out.now.items (codes "var") (32 ∷ decimal c.args.v) (32 ∷ signed_decimal c.args.lo) (32 ∷ signed_decimal c.args.hi)
    c.extend_from_slice.new.self.items c.push_number.new.out.items c.push_value.new.out.items c.push_value-2.new.out.items c.extend_from_slice-2.new.self.items
    c.in_ok-extend_from_slice.ensures.items c.in_ok-push_number.ensures
    (c.in_ok-push_value.ensures ∙ ap (λ (z : ℤ). c.push_number.new.out.items ++ 32 ∷ signed_decimal z) lo)
    (c.in_ok-push_value-2.ensures ∙ ap (λ (z : ℤ). c.push_value.new.out.items ++ 32 ∷ signed_decimal z) hi)
    last)
    (on_ok_items c.extend_from_slice-2.result c.extend_from_slice-2.new.self.items _ _ c.extend_from_slice-2.ensures.items)
