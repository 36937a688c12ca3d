use Rattle.std.proofs.Common.{◌≤◌, ℤ, sym, subst, arith}
use Rattle.std.specs.Prelude.{unsigned_abs}
use Rattle.std.proofs.Math.Logic.{∥∥₁_elim}
use Rattle.std.proofs.Props.{props}
use Rattle.std.proofs.lemmas.Int.{ints}
use Rattle.cgm_model.specs.Model.{lists_of}
use Rattle.cgm_obj.proofs.Sizes.{quantity_size}
use Rattle.cgm_obj.proofs.vectors.objective_number.Goals as goal

pub negated-requires : goal.negated-requires
negated-requires c =
    let m = lists_of c.args.model.now in
    ∥∥₁_elim c.args.model.now.well_formed (hlevel props)
    (λ w.
    let small = quantity_size m w c.args.earlier.now.pairs c.args.assignment.now c.requires.fits c.args.objective.of in
    let here : unsigned_abs c.quantity-number.result ≤ 1000000000000 = subst (λ (x : ℤ). unsigned_abs x ≤ 1000000000000) (sym c.quantity-number.ensures) small in
    omega (arith, ints, here))
