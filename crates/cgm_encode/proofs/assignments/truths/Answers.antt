use Rattle.std.proofs.Common.{◌+◌, ◌++◌, ◌∷◌, [], ◌∙◌, Bool, List, ap, refl, sym, ◌≡◌, ℕ, map, arith}
use Rattle.std.specs.List.{range_with_len}
use Rattle.std.proofs.lemmas.List.FromFn.{map-range_with_len_more}
use Rattle.cgm_atom.specs.Literals.{truth_at}
use Rattle.cgm_encode.proofs.assignments.truths.Goals as goal

pub loop-x-preserved : goal.loop-x-preserved
loop-x-preserved c =
    let f = truth_at c.args.values.now in
    let from = c.args.from in
    let x = c.loop-x.x in
    let old = c.loop-x.truths.items in
    c.in_ok-push.ensures.items
    ∙ ap (λ (z : Bool). old ++ z ∷ []) c.truth_at.ensures
    ∙ ap (λ (zs : List Bool). zs ++ f (from + x) ∷ []) c.loop-x.invariant
    ∙ sym (map-range_with_len_more f from x (from + x) refl)

pub returns : goal.returns
returns c =
    let all : c.loop-x.x ≡ c.args.count = omega (arith, c.loop-x.auto.x-end, c.loop-x-test.false) in
    c.loop-x.invariant ∙ ap (λ (n : ℕ). map (truth_at c.args.values.now) (range_with_len c.args.from n)) all
