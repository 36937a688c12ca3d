use Rattle.std.proofs.Common.{◌+◌, ◌++◌, ◌∷◌, [], ◌∙◌, List, ap, refl, sym, ◌≡◌, ℕ, map, arith}
use Rattle.std.specs.Prelude.{ℤ}
use Rattle.std.specs.List.{range_with_len}
use Rattle.std.proofs.lemmas.List.FromFn.{map-range_with_len_more}
use Rattle.cgm_atom.specs.Bounds.{value_of}
use Rattle.cgm_encode.proofs.assignments.numbers.Goals as goal

pub loop-x-preserved : goal.loop-x-preserved
loop-x-preserved c =
    let f = value_of c.args.values.now in
    let from = c.args.from in
    let x = c.loop-x.x in
    c.in_ok-push_value.ensures
    ∙ ap (λ (zs : List ℤ). zs ++ f (from + x) ∷ []) c.loop-x.invariant
    ∙ sym (map-range_with_len_more f from x (from + x) refl)

pub returns : goal.returns
returns c =
    let all : c.loop-x.x ≡ c.args.count = omega (arith, c.loop-x.auto.x-end, c.loop-x-test.false) in
    c.loop-x.invariant ∙ ap (λ (n : ℕ). map (value_of c.args.values.now) (range_with_len c.args.from n)) all
