use Rattle.std.proofs.Common.{◌≡◌, ◌∙◌, ap, sym, refl, true, false, w64, arith, rules, ◌≤ℤ◌, ◌<ℤ◌, ◌-ℤ◌}
use Rattle.std.specs.Prelude.{FitsSigned, unsigned_abs}
use Rattle.std.specs.declared.option.Option.TheVariants.{Some}
use Rattle.std.proofs.lemmas.Int.{fits_signed_from_abs, ints, to_z-of_z}
use Rattle.cgm_atom.specs.Narrowing.{greatest_activity, tightened_by_terms, is_claimed_in}
use Rattle.cgm_atom.proofs.RowTightening.{left_by_row-claimed, left_by_row-open, left_by_row-unmet}
use Rattle.cgm_atom.proofs.Tightening.{narrowing_from}
use Rattle.cgm_atom.proofs.rows.narrow_by_row.Goals as goal

pub returns-then-most-row-clause-exact : goal.returns-then-most-row-clause-exact
returns-then-most-row-clause-exact c =
    let b = c.args.bounds.now in
    let most = c.greatest_activity-most.result in
    let sum = c.greatest_activity-most.ensures.value ∙ ap (greatest_activity b) c.as_slice-terms.ensures in
    let limit = c.requires.row.least_limit in
    let unmet : most <ℤ c.args.row.now.least = grind (arith, ints) in
    rw (left_by_row-unmet b c.args.row.now most sum unmet) c.refuse_guard.ensures.exact

pub returns-then-is_claimed-clause-exact : goal.returns-then-is_claimed-clause-exact
returns-then-is_claimed-clause-exact c =
    let b = c.args.bounds.now in
    let r = c.args.row.now in
    let most = c.greatest_activity-most.result in
    let sum = c.greatest_activity-most.ensures.value ∙ ap (greatest_activity b) c.as_slice-terms.ensures in
    let limit = c.requires.row.least_limit in
    let met : r.least ≤ℤ most = grind (arith, ints) in
    let claimed : is_claimed_in b r.guard ≡ true = cc in
    let most_fits : FitsSigned w64 most = search rules in
    let least_fits : FitsSigned w64 r.least = fits_signed_from_abs w64 r.least (omega arith) in
    let room : c.room_of.result ≡ unsigned_abs (most -ℤ r.least) =
    rw (to_z-of_z w64 most most_fits, to_z-of_z w64 r.least least_fits) at c.room_of.ensures.value in
    let after : c.tighten_by_terms.new.bounds ≡ tightened_by_terms b (unsigned_abs (most -ℤ r.least)) r.terms b =
    cc (c.tighten_by_terms.ensures.after, room, c.as_slice-terms.ensures) in
    narrowing_from _ b c.tighten_by_terms.new.bounds c.tighten_by_terms.result
    (left_by_row-claimed b r most sum met claimed ∙ ap Some (sym after)) c.tighten_by_terms.ensures.answer

pub returns-clause-exact : goal.returns-clause-exact
returns-clause-exact c =
    let b = c.args.bounds.now in
    let most = c.greatest_activity-most.result in
    let sum = c.greatest_activity-most.ensures.value ∙ ap (greatest_activity b) c.as_slice-terms.ensures in
    let limit = c.requires.row.least_limit in
    let met : c.args.row.now.least ≤ℤ most = grind (arith, ints) in
    let unclaimed : is_claimed_in b c.args.row.now.guard ≡ false = cc in
    (left_by_row-open b c.args.row.now most sum met unclaimed, refl)
