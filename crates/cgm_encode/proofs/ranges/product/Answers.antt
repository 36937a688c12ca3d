use Rattle.std.proofs.Common.{◌≡◌, ◌*◌, ◌≤◌, of_z, to_z, ap, ◌∙◌, w64, rules}
use Rattle.std.specs.Prelude.{ℤ, FitsSigned, ◌*ℤ◌, unsigned_abs}
use Rattle.std.proofs.lemmas.Int.{fits_signed_from_abs, to_z-of_z, unsigned_abs-mul}
use Rattle.cgm_atom.specs.Limits.{max_measure}
use Rattle.cgm_encode.proofs.TermBounds.{measure_fits}
use Rattle.cgm_encode.proofs.ranges.product.Goals as goal

fits : (x y : ℤ) → unsigned_abs x * unsigned_abs y ≤ max_measure → FitsSigned w64 (x *ℤ y)
fits x y h = fits_signed_from_abs w64 (x *ℤ y) (rw (unsigned_abs-mul x y) (measure_fits (unsigned_abs x * unsigned_abs y) h))

pub overflow_mul-result : goal.overflow_mul-result
overflow_mul-result c =
    let x : to_z w64 (of_z w64 c.args.x) ≡ c.args.x = search rules in
    let y : to_z w64 (of_z w64 c.args.y) ≡ c.args.y = search rules in
    rw (x, y) (fits c.args.x c.args.y c.requires)

pub returns-clause-value : goal.returns-clause-value
returns-clause-value c =
    let x : to_z w64 (of_z w64 c.args.x) ≡ c.args.x = search rules in
    let y : to_z w64 (of_z w64 c.args.y) ≡ c.args.y = search rules in
    rw (x, y) (to_z-of_z w64 (c.args.x *ℤ c.args.y) (fits c.args.x c.args.y c.requires))

pub returns-clause-size : goal.returns-clause-size
returns-clause-size c =
    let x : to_z w64 (of_z w64 c.args.x) ≡ c.args.x = search rules in
    let y : to_z w64 (of_z w64 c.args.y) ≡ c.args.y = search rules in
    rw (x, y)
    (ap (λ (z : ℤ). unsigned_abs z) (to_z-of_z w64 (c.args.x *ℤ c.args.y) (fits c.args.x c.args.y c.requires)) ∙ unsigned_abs-mul c.args.x c.args.y)
