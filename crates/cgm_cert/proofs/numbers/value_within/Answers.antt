use Rattle.std.proofs.Common.{◌≡◌, ◌<◌, ◌^◌, unsigned_abs, sym, ap, ◌∙◌, subst, arith, w64, FitsSigned}
use Rattle.std.specs.Fmt.{signed_decimal}
use Rattle.std.proofs.lemmas.Fmt.{parse-signed_decimal}
use Rattle.std.proofs.lemmas.Int.{fits_signed_from_abs, to_z-of_z}
use Rattle.cgm_cert.proofs.WordLemmas.{small_mag}
use Rattle.cgm_cert.proofs.numbers.value_within.Goals as goal

pub returns-in-Err-clause-none : goal.returns-in-Err-clause-none
returns-in-Err-clause-none c = λ z small e.
    let within : unsigned_abs z < 2 ^ 63 = omega (arith, small, c.requires) in
    let read = parse-signed_decimal w64 z _ _ (fits_signed_from_abs w64 z within) (small_mag z within) e c.parse_i64.ensures in
    absurd (cc)

pub returns-then-unsigned_abs-most-clause-none : goal.returns-then-unsigned_abs-most-clause-none
returns-then-unsigned_abs-most-clause-none c = λ z small e.
    let within : unsigned_abs z < 2 ^ 63 = omega (arith, small, c.requires) in
    let read = parse-signed_decimal w64 z _ _ (fits_signed_from_abs w64 z within) (small_mag z within) e c.parse_i64.ensures in
    let same : c.in-Ok.z ≡ z = cc in
    let back = to_z-of_z w64 c.in-Ok.z (subst (FitsSigned w64) (sym same) (fits_signed_from_abs w64 z within)) in
    absurd (omega (arith, small, ap unsigned_abs same, ap unsigned_abs back, c.unsigned_abs.ensures.value, c.if-unsigned_abs-most.true))

pub returns-else-is-clause-none : goal.returns-else-is-clause-none
returns-else-is-clause-none c = λ z small e.
    let within : unsigned_abs z < 2 ^ 63 = omega (arith, small, c.requires) in
    let read = parse-signed_decimal w64 z _ _ (fits_signed_from_abs w64 z within) (small_mag z within) e c.parse_i64.ensures in
    let same : z ≡ c.in-Ok.z = cc in
    let told = c.if-is.ensures.1 (e ∙ ap signed_decimal same ∙ ap signed_decimal (sym (to_z-of_z w64 c.in-Ok.z (subst (FitsSigned w64) same (fits_signed_from_abs w64 z within)))) ∙ sym c.format.ensures.text) in
    let untrue = c.if-is.false in
    absurd (cc)
