use Rattle.std.proofs.Common.{◌<◌, arith, get_or, length, subst, sym}
use Rattle.cgm_atom.specs.Bounds.{Bounds}
use Rattle.cgm_encode.specs.declared.expressions.Expression.{Expression}
use Rattle.cgm_encode.specs.Building.{HasBoundSize, IsDefining}
use Rattle.cgm_encode.proofs.rows.add_defining_rows.Goals as goal

pub add_two_rows-requires-clause-expression : goal.add_two_rows-requires-clause-expression
add_two_rows-requires-clause-expression c =
    let i = c.loop-place.place in
    let e = c.index-expressions-place.result in
    let there : i < length c.args.expressions.now = omega (arith, c.loop-place-test.true) in
    let known : i < length c.args.variables.now = omega (arith, c.requires.count, there) in
    subst (λ (x : Expression). IsDefining (get_or c.args.variables.now i 0) x) (sym c.index-expressions-place.is)
    (c.requires.expressions i 0 known i e there)

pub add_two_rows-requires-clause-size : goal.add_two_rows-requires-clause-size
add_two_rows-requires-clause-size c =
    let i = c.loop-place.place in
    let e = c.index-expressions-place.result in
    let there : i < length c.args.expressions.now = omega (arith, c.loop-place-test.true) in
    subst (λ (x : Expression). HasBoundSize c.loop-place.builder.bounds x) (sym c.index-expressions-place.is)
    (subst (λ (bounds : Bounds). HasBoundSize bounds (get_or c.args.expressions.now i e)) (sym c.loop-place.invariant.bounds) (c.requires.sizes i e there))
