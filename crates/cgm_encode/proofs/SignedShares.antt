-- Shares whose signs are changed have the sizes that they had.
use Rattle.std.proofs.Common.{◌≡◌, ℕ, ◌^◌, ◌<◌, Bool, true, false, cond, List, [], ◌∷◌, map, get_or, refl, arith}
use Rattle.std.specs.Prelude.{ℤ, neg_ℤ, unsigned_abs}
use Rattle.std.specs.List.{All}
use Rattle.std.proofs.lemmas.Int.{ints}
use Rattle.std.proofs.lemmas.List.Elements.{All-cons, All-nil}
use Rattle.std.proofs.lemmas.List.Sums.{sum_by-cons}
use Rattle.cgm_model.specs.declared.lists.Lists.{Lists}
use Rattle.cgm_model.specs.WellFormed.{IsWellFormedModel}
use Rattle.cgm_evolve.specs.Pairs.{Pair}
use Rattle.cgm_encode.specs.Building.{share_size}
use Rattle.cgm_encode.specs.Summands.{IsFitting}
use Rattle.cgm_encode.specs.Totals.{Share, Total, opposite_total}
use Rattle.cgm_encode.proofs.KnownParts.{known_parts}
use Rattle.cgm_encode.proofs.MeasuredTotals.{objective_small}
use Rattle.cgm_encode.proofs.Shares.{objective_shares}

same_size : (z : ℤ) → unsigned_abs (neg_ℤ z) ≡ unsigned_abs z
same_size z = omega (arith, ints)

opposite_size : (shares : List Share) → share_size (map (λ s. (neg_ℤ s.0, s.1)) shares) ≡ share_size shares
opposite_size [] = refl
opposite_size (s ∷ shares) =
    let opposite : Share = (neg_ℤ s.0, s.1) in
    let first = sum_by-cons (λ (u : Share). unsigned_abs u.0) opposite (map (λ (u : Share). (neg_ℤ u.0, u.1)) shares) in
    let own = sum_by-cons (λ (u : Share). unsigned_abs u.0) s shares in
    let size = same_size s.0 in
    let rest = opposite_size shares in
    omega arith

each_below : (most : ℕ) (shares : List Share) → share_size shares < most → All (λ s. unsigned_abs s.0 < most) shares
each_below most [] small = All-nil (λ (s : Share). unsigned_abs s.0 < most)
each_below most (s ∷ shares) small =
    let own = sum_by-cons (λ (u : Share). unsigned_abs u.0) s shares in
    All-cons (λ (u : Share). unsigned_abs u.0 < most) s shares (omega arith) (each_below most shares (omega arith))

-- the quantity of an objective for `max` has small numbers
pub signed_shares : (max : Bool) (t : Total) → max ≡ true → share_size (cond max (opposite_total t) t).shares < 2 ^ 63 → All (λ s. unsigned_abs s.0 < 2 ^ 63) t.shares
signed_shares true t e small = let same = opposite_size t.shares in each_below (2 ^ 63) t.shares (omega arith)
signed_shares false t e small = absurd cc

pub signed_constant : (max : Bool) (t : Total) → max ≡ true → unsigned_abs (cond max (opposite_total t) t).constant < 2 ^ 63 → unsigned_abs t.constant < 2 ^ 63
signed_constant true t e small = let same = same_size t.constant in omega arith
signed_constant false t e small = absurd cc

pub objectives_fit_in : (m : Lists) (pairs : List Pair) → ∥ IsWellFormedModel m ∥₁ → All (IsFitting m pairs) m.objectives
objectives_fit_in m pairs well k d l =
    let parts = known_parts m well in
    let known = parts.objectives k d l in
    let small = objective_small m pairs well k d l in
    let numbers = small.numbers in
    let constant = small.constant in
    record {
      known = known;
      shares = objective_shares m parts pairs (get_or m.objectives k d) known;
      numbers = omega arith;
      constant = omega arith;
    }
