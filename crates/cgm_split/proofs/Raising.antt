-- What a raise does to the weights: each is divided, one is lifted, and the order of the others is kept.
use Rattle.std.proofs.Common.{◌≡◌, ◌≢◌, ◌∙◌, ℕ, zero, suc, ◌+◌, ◌/◌, ◌^◌, ◌<◌, ◌≤◌, Bool, true, false, List, [], ◌∷◌, ◌++◌, map, length, take, drop, get_or, refl, sym, ap, subst, inl, inr, add-one, arith}
use Rattle.std.specs.Prelude.{slice_set, if◌then◌else◌, nat_lt, max}
use Rattle.std.proofs.Math.ListN.{get_or-map}
use Rattle.std.proofs.lemmas.List.{get_or-set_other, get_or-set_same, length-map}
use Rattle.std.proofs.lemmas.Bool.{cases_eq}
use Rattle.std.proofs.lemmas.List.Elements.{All-map, All-set}
use Rattle.std.proofs.Math.ListN.{length-set}
use Rattle.cgm_atom.specs.declared.constraints.Var.{Var}
use Rattle.cgm_split.specs.Drawing.{IsEachOnce}
use Rattle.cgm_split.specs.Weighing.{IsWeighing, Weighing, increment_grown, lifted, weight_raised, rescaled, weight_limit, weight_of}

rescaled_first : (f : ℕ → ℕ) (ws : List ℕ) (i : ℕ) → i < length ws → slice_set (map f (take i ws) ++ drop i ws) i (f (get_or (map f (take i ws) ++ drop i ws) i 0)) ≡ map f (take (suc i) ws) ++ drop (suc i) ws
rescaled_first f [] i h = absurd (omega arith)
rescaled_first f (w ∷ ws) zero h = refl
rescaled_first f (w ∷ ws) (suc i) h = ap (λ (us : List ℕ). f w ∷ us) (rescaled_first f ws i (omega arith))

pub rescaled_more : (ws us : List ℕ) (i : ℕ) → i < length ws → us ≡ map (λ w. w / 2 ^ 32) (take i ws) ++ drop i ws → slice_set us i (get_or us i 0 / 2 ^ 32) ≡ map (λ w. w / 2 ^ 32) (take (i + 1) ws) ++ drop (i + 1) ws
rescaled_more ws us i h is = rw (is, add-one) (rescaled_first (λ w. w / 2 ^ 32) ws i h)

-- ---- the order

quotient_at_most : (a b : ℕ) → a ≤ b → a / 2 ^ 32 ≤ b / 2 ^ 32
quotient_at_most a b h = omega arith

kept_by_scale : (ws : List ℕ) (x y : ℕ) → weight_of ws x ≤ weight_of ws y → weight_of (map (λ w. w / 2 ^ 32) ws) x ≤ weight_of (map (λ w. w / 2 ^ 32) ws) y
kept_by_scale ws x y h =
    let at_x : get_or (map (λ w. w / 2 ^ 32) ws) x 0 ≡ get_or ws x 0 / 2 ^ 32 = get_or-map (λ w. w / 2 ^ 32) ws x 0 in
    let at_y : get_or (map (λ w. w / 2 ^ 32) ws) y 0 ≡ get_or ws y 0 / 2 ^ 32 = get_or-map (λ w. w / 2 ^ 32) ws y 0 in
    rw (at_x, at_y) (quotient_at_most (get_or ws x 0) (get_or ws y 0) h)

kept_by_lift : (ws : List ℕ) (v by x y : ℕ) → v < length ws → x ≢ v → weight_of ws x ≤ weight_of ws y → weight_of (slice_set ws v (weight_of ws v + by)) x ≤ weight_of (slice_set ws v (weight_of ws v + by)) y
kept_by_lift ws v by x y within other h =
    let at_x : get_or (slice_set ws v (get_or ws v 0 + by)) x 0 ≡ get_or ws x 0 = get_or-set_other ws v x (get_or ws v 0 + by) 0 other in
    let at_v : get_or (slice_set ws v (get_or ws v 0 + by)) v 0 ≡ get_or ws v 0 + by = get_or-set_same ws v (get_or ws v 0 + by) 0 within in
    elim (cases_eq y v) [
      | inl same ↦ rw (at_x, same, at_v) (omega (arith, ap (λ k. get_or ws k 0) same))
      | inr apart ↦ rw (at_x, get_or-set_other ws v y (get_or ws v 0 + by) 0 apart) h
    ]

pub raised_order : (w : Weighing) (v x y : ℕ) → v < length w.weights → x ≢ v → weight_of w.weights x ≤ weight_of w.weights y → weight_of (weight_raised w v).weights x ≤ weight_of (weight_raised w v).weights y
raised_order w v x y within other h = raised_by (nat_lt weight_limit (max (weight_of w.weights v + w.increment) (increment_grown w.increment)))
  where
    raised_by : (t : Bool) → weight_of (if t then rescaled (lifted w v) else lifted w v).weights x ≤ weight_of (if t then rescaled (lifted w v) else lifted w v).weights y
    raised_by true = kept_by_scale (lifted w v).weights x y (kept_by_lift w.weights v w.increment x y within other h)
    raised_by false = kept_by_lift w.weights v w.increment x y within other h

pub raised_count : (w : Weighing) (v : ℕ) → length (weight_raised w v).weights ≡ length w.weights
raised_count w v = raised_by (nat_lt weight_limit (max (weight_of w.weights v + w.increment) (increment_grown w.increment)))
  where
    lifted_count : length (lifted w v).weights ≡ length w.weights
    lifted_count = length-set w.weights v (weight_of w.weights v + w.increment)

    raised_by : (t : Bool) → length (if t then rescaled (lifted w v) else lifted w v).weights ≡ length w.weights
    raised_by true = length-map (lifted w v).weights (λ (k : ℕ). k / 2 ^ 32) ∙ lifted_count
    raised_by false = lifted_count

pub raised_variables : (w : Weighing) (v : ℕ) → (weight_raised w v).variables ≡ w.variables
raised_variables w v = raised_by (nat_lt weight_limit (max (weight_of w.weights v + w.increment) (increment_grown w.increment)))
  where
    raised_by : (t : Bool) → (if t then rescaled (lifted w v) else lifted w v).variables ≡ w.variables
    raised_by true = refl
    raised_by false = refl

-- ---- the limits

pub weighing_rescaled : (vs : List Var) (ws us : List ℕ) (x weight increment more : ℕ) → IsWeighing (record { variables = vs; weights = ws; increment = increment }) → weight < 2 ^ 64 → us ≡ map (λ w. w / 2 ^ 32) (slice_set ws x weight) → more ≡ increment_grown increment → IsWeighing (record { variables = vs; weights = us; increment = more / 2 ^ 32 + 1 })
weighing_rescaled vs ws us x weight increment more valid small is grows = record {
  each_once = subst (λ n. IsEachOnce n vs) (sym long) valid.each_once;
  light = rw is (All-map (λ w. w ≤ weight_limit) (λ w. w / 2 ^ 32) (slice_set ws x weight) (All-set (λ w. w / 2 ^ 32 ≤ weight_limit) ws x weight (omega arith) (λ k d within. omega (arith, valid.light k d within))));
  positive = omega arith;
  small = omega (arith, valid.small, grows);
}
  where
    long : length us ≡ length ws
    long = ap length is ∙ length-map (slice_set ws x weight) (λ (w : ℕ). w / 2 ^ 32) ∙ length-set ws x weight
