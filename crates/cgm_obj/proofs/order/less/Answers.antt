-- Which vector is less is decided by the first elements that are left, or else by what stands behind them.
use Rattle.std.proofs.Common.{◌≡◌, ℕ, ◌+◌, ◌<◌, ◌↔◌, true, false, List, [], ◌∷◌, drop, length, get_or, of_z, to_z, w64, refl, subst, sym, arith, rules, ⊎_elim, inl, inr}
use Rattle.std.specs.Prelude.{ℤ, pos, ◌<ℤ◌}
use Rattle.std.specs.Int.Signed.{lt_z}
use Rattle.std.proofs.lemmas.Bool.{true≢false}
use Rattle.std.proofs.lemmas.Int.{ints}
use Rattle.std.proofs.lemmas.List.{drop_all, drop_more}
use Rattle.cgm_base.specs.Order.{IsLess}
use Rattle.cgm_obj.proofs.order.less.Goals as goal

lower : (x y p q : ℤ) → p ≡ x → q ≡ y → lt_z p q ≡ true → x <ℤ y
lower x y p q first second less = omega (arith, ints)

same : (x y p q : ℤ) → p ≡ x → q ≡ y → lt_z p q ≡ false → lt_z q p ≡ false → x ≡ y
same x y p q first second less greater = omega (arith, ints)

not_lower : (x y : ℤ) → y <ℤ x → x <ℤ y → ⊥
not_lower x y greater less = omega (arith, ints)

not_same : (x y : ℤ) → y <ℤ x → x ≡ y → ⊥
not_same x y greater e = omega (arith, ints)

none_lower : (x : ℤ) → x <ℤ x → ⊥
none_lower x less = omega (arith, ints)

module _ (a b : List ℤ) (i : ℕ) (h : i < length a) (count : length a ≡ length b) (far : IsLess (drop i a) (drop i b) ↔ IsLess a b) where
  abbrev x : ℤ
  x = get_or a i (pos 0)

  abbrev y : ℤ
  y = get_or b i (pos 0)

  opened : IsLess (x ∷ drop (i + 1) a) (y ∷ drop (i + 1) b) ↔ IsLess a b
  opened =
      subst (λ (us : List ℤ). IsLess us (y ∷ drop (i + 1) b) ↔ IsLess a b) (drop_more a i (pos 0) h)
      (subst (λ (vs : List ℤ). IsLess (drop i a) vs ↔ IsLess a b) (drop_more b i (pos 0) (omega arith)) far)

  less_by_first : x <ℤ y → IsLess a b
  less_by_first less = opened.0 (inl less)

  not_less_by_first : y <ℤ x → IsLess a b → ⊥
  not_less_by_first greater less =
      ⊎_elim (not_lower x y greater) (λ (both : (x ≡ y) × IsLess (drop (i + 1) a) (drop (i + 1) b)). not_same x y greater both.0) (opened.1 less)

  by_rest : x ≡ y → IsLess (drop (i + 1) a) (drop (i + 1) b) ↔ IsLess a b
  by_rest e = (
    λ rest. opened.0 (inr (e, rest)),
    λ less. ⊎_elim (λ (lesser : x <ℤ y). absurd (none_lower y (subst (λ (z : ℤ). z <ℤ y) e lesser))) (λ (both : (x ≡ y) × IsLess (drop (i + 1) a) (drop (i + 1) b)). both.1) (opened.1 less),
  )

none_less : (a b : List ℤ) (i : ℕ) → drop i a ≡ [] → IsLess (drop i a) (drop i b) ↔ IsLess a b → IsLess a b → ⊥
none_less a b i end far less = subst (λ (us : List ℤ). IsLess us (drop i b)) end (far.1 less)

pub returns-then-x-y : goal.returns-then-x-y
returns-then-x-y c =
    let a = c.args.a.now in
    let b = c.args.b.now in
    let i = c.loop-place.place in
    let first : to_z w64 (of_z w64 (get_or a i (pos 0))) ≡ get_or a i (pos 0) = search rules in
    let second : to_z w64 (of_z w64 (get_or b i (pos 0))) ≡ get_or b i (pos 0) = search rules in
    let less = lower (get_or a i (pos 0)) (get_or b i (pos 0)) (to_z w64 (of_z w64 (get_or a i (pos 0)))) (to_z w64 (of_z w64 (get_or b i (pos 0)))) first second c.if-x-y.true in
    (λ yes. less_by_first a b i c.loop-place-test.true c.requires c.loop-place.invariant less, λ less. refl)

pub returns-then-y-x : goal.returns-then-y-x
returns-then-y-x c =
    let a = c.args.a.now in
    let b = c.args.b.now in
    let i = c.loop-place.place in
    let first : to_z w64 (of_z w64 (get_or a i (pos 0))) ≡ get_or a i (pos 0) = search rules in
    let second : to_z w64 (of_z w64 (get_or b i (pos 0))) ≡ get_or b i (pos 0) = search rules in
    let greater = lower (get_or b i (pos 0)) (get_or a i (pos 0)) (to_z w64 (of_z w64 (get_or b i (pos 0)))) (to_z w64 (of_z w64 (get_or a i (pos 0)))) second first c.if-y-x.true in
    (λ no. absurd (true≢false (sym no)), λ less. absurd (not_less_by_first a b i c.loop-place-test.true c.requires c.loop-place.invariant greater less))

pub loop-place-preserved : goal.loop-place-preserved
loop-place-preserved c =
    let a = c.args.a.now in
    let b = c.args.b.now in
    let i = c.loop-place.place in
    let first : to_z w64 (of_z w64 (get_or a i (pos 0))) ≡ get_or a i (pos 0) = search rules in
    let second : to_z w64 (of_z w64 (get_or b i (pos 0))) ≡ get_or b i (pos 0) = search rules in
    let equal = same (get_or a i (pos 0)) (get_or b i (pos 0)) (to_z w64 (of_z w64 (get_or a i (pos 0)))) (to_z w64 (of_z w64 (get_or b i (pos 0)))) first second c.if-x-y.false c.if-y-x.false in
    by_rest a b i c.loop-place-test.true c.requires c.loop-place.invariant equal

pub returns : goal.returns
returns c =
    let a = c.args.a.now in
    let i = c.loop-place.place in
    (λ no. absurd (true≢false (sym no)), λ less. absurd (none_less a c.args.b.now i (drop_all i a c.loop-place-test.false) c.loop-place.invariant less))
