-- One pass over the value lines: the total of each sum so far, and what the rest adds.
use Rattle.std.proofs.Common.{◌≡◌, ℕ, ◌+◌, ◌*◌, ◌<◌, ◌≤◌, List, ℤ, pos, ◌+ℤ◌, length, get_or, drop, sym, ◌∙◌, ap, arith}
use Rattle.std.specs.Prelude.{unsigned_abs}
use Rattle.std.proofs.Math.IntN.{+ℤ_idr}
use Rattle.std.proofs.lemmas.Int.{ints}
use Rattle.std.proofs.lemmas.List.{ext_get_or, drop_all}
use Rattle.std.proofs.lemmas.List.FromFn.{length-map-range_with_len}
use Rattle.cgm_formula.specs.declared.assignment.Assignment.{Assignment}
use Rattle.cgm_model.specs.declared.lists.Lists.{Lists}
use Rattle.cgm_model.specs.declared.lists.SumValue.{SumValue}
use Rattle.cgm_model.specs.Sums.{total_by, value_for, sum_value, sums_of}
use Rattle.cgm_model.proofs.Places.{drop-read}
use Rattle.cgm_model.proofs.Sizes.{added_size, value_number_size, sum_at}

moved : (old new x rest all whole : ℤ) → new ≡ old +ℤ x → all ≡ x +ℤ rest → old +ℤ all ≡ whole → new +ℤ rest ≡ whole
moved old new x rest all whole is split before = omega (arith, ints, is, split, before)

-- the next value line is counted
pub total_more : (a : Assignment) (vs items : List SumValue) (i k : ℕ) (v : SumValue) (old new whole : ℤ) → items ≡ vs → i < length items → v ≡ get_or items i v → new ≡ old +ℤ value_for a k v → old +ℤ total_by (value_for a k) (drop i vs) ≡ whole → new +ℤ total_by (value_for a k) (drop (i + 1) vs) ≡ whole
total_more a vs items i k v old new whole same l is added before =
    let rest = total_by (value_for a k) (drop (i + 1) vs) in
    let all = total_by (value_for a k) (drop i vs) in
    moved old new (value_for a k v) rest all whole added (ap (total_by (value_for a k)) (drop-read vs items i v same l is)) before

pub size_more : (a : Assignment) (i k : ℕ) (v : SumValue) (old new : ℤ) → unsigned_abs v.k ≤ 1000000 → new ≡ old +ℤ value_for a k v → unsigned_abs old ≤ i * 1000000 → unsigned_abs new ≤ (i + 1) * 1000000
size_more a i k v old new small added before =
    let both = added_size old (value_for a k v) (i * 1000000) 1000000 before (value_number_size a k v small) in
    omega (arith, both, ap unsigned_abs added)

-- all value lines are counted
pub totals_done : (m : Lists) (a : Assignment) (totals : List ℤ) (i : ℕ) → length m.values ≤ i → length totals ≡ length m.sums → ((k : ℕ) → get_or totals k (pos 0) +ℤ total_by (value_for a k) (drop i m.values) ≡ sum_value m a k) → totals ≡ sums_of m a
totals_done m a totals i past long each =
    ext_get_or (pos 0) totals (sums_of m a) (long ∙ sym (length-map-range_with_len (sum_value m a) 0 (length m.sums)))
    (λ k l.
    let total : ℤ = get_or totals k (pos 0) in
    let none = ap (total_by (value_for a k)) (drop_all i m.values past) in
    sym (+ℤ_idr total) ∙ (ap (λ z. total +ℤ z) (sym none) ∙ (each k ∙ sym (sum_at m a k (omega (arith, l, long))))))
