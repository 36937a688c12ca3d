-- Numbers for variables that are added up, as far as a loop over shares has come.
use Rattle.std.proofs.Common.{◌≡◌, ℕ, ◌+◌, ◌^◌, ◌<◌, ◌≤◌, ◌==◌, Bool, true, false, cond, List, [], ◌∷◌, ap, arith}
use Rattle.std.specs.Prelude.{ℤ, pos, ◌+ℤ◌, unsigned_abs}
use Rattle.std.specs.BTreeMap.{BTreeMap}
use Rattle.std.specs.Map.{lookup}
use Rattle.std.specs.Option.{unwrap_or}
use Rattle.std.specs.BTreeMap.{is_at}
use Rattle.std.specs.Ordering.{nat_cmp}
use Rattle.std.proofs.lemmas.Int.{ints}
use Rattle.std.proofs.lemmas.List.Sums.{sum_by-cons}
use Rattle.cgm_encode.specs.Building.{number_at, share_size}
use Rattle.cgm_encode.specs.Totals.{Share, combined}

-- what a share has for variable x
abbrev pub number_for : Share → ℕ → ℤ
number_for s x = cond (s.1 == x) s.0 (pos 0)

-- with the rest the numbers are all, and they aren't larger than all shares together
pub record AreCombinedSoFar (all rest : List Share) (numbers : BTreeMap ℕ ℤ) : Type 0 where
  pub total : (x : ℕ) → number_at numbers x +ℤ combined rest x ≡ combined all x
  pub size : (x : ℕ) → unsigned_abs (number_at numbers x) + share_size rest ≤ share_size all

pub none_at : (numbers : BTreeMap ℕ ℤ) (x : ℕ) → numbers.entries ≡ [] → number_at numbers x ≡ pos 0
none_at numbers x empty = ap (λ (es : List (ℕ × ℤ)). unwrap_or (lookup (is_at (nat_cmp x)) es) (pos 0)) empty

nothing_before : (z n : ℤ) → n ≡ pos 0 → n +ℤ z ≡ z
nothing_before z n e = omega (arith, ints)

no_size : (n : ℤ) (k : ℕ) → n ≡ pos 0 → unsigned_abs n + k ≤ k
no_size n k e = omega (arith, ints)

pub combined_first : (all : List Share) (numbers : BTreeMap ℕ ℤ) → numbers.entries ≡ [] → AreCombinedSoFar all all numbers
combined_first all numbers empty = record {
  total = λ x. nothing_before (combined all x) (number_at numbers x) (none_at numbers x empty);
  size = λ x. no_size (number_at numbers x) (share_size all) (none_at numbers x empty);
}

own_size : (t : Bool) (k : ℤ) → unsigned_abs (cond t k (pos 0)) ≤ unsigned_abs k
own_size true k = omega arith
own_size false k = omega arith

regrouped : (old new own rest whole : ℤ) → new ≡ old +ℤ own → old +ℤ (own +ℤ rest) ≡ whole → new +ℤ rest ≡ whole
regrouped old new own rest whole e f = omega (arith, ints)

sized : (old new own : ℤ) (k rest whole : ℕ) → new ≡ old +ℤ own → unsigned_abs own ≤ k → (both : ℕ) → both ≡ k + rest → unsigned_abs old + both ≤ whole → unsigned_abs new + rest ≤ whole
sized old new own k rest whole e small both f h = omega (arith, ints)

pub combined_more : (all rest : List Share) (s : Share) (old new : BTreeMap ℕ ℤ) → ((x : ℕ) → number_at new x ≡ number_at old x +ℤ number_for s x) → AreCombinedSoFar all (s ∷ rest) old → AreCombinedSoFar all rest new
combined_more all rest s old new change far = record {
  total = λ x. regrouped (number_at old x) (number_at new x) (number_for s x) (combined rest x) (combined all x) (change x) (far.total x);
  size = λ x. sized (number_at old x) (number_at new x) (number_for s x) (unsigned_abs s.0) (share_size rest) (share_size all) (change x) (own_size (s.1 == x) s.0) (share_size (s ∷ rest)) (sum_by-cons (λ (u : Share). unsigned_abs u.0) s rest) (far.size x);
}

room : (n k rest both whole : ℕ) → whole < 2 ^ 63 → both ≡ k + rest → n + both ≤ whole → n + k < 2 ^ 63
room n k rest both whole small e h = omega arith

pub combined_room : (all rest : List Share) (s : Share) (old : BTreeMap ℕ ℤ) → share_size all < 2 ^ 63 → AreCombinedSoFar all (s ∷ rest) old → unsigned_abs (number_at old s.1) + unsigned_abs s.0 < 2 ^ 63
combined_room all rest s old small far =
    room (unsigned_abs (number_at old s.1)) (unsigned_abs s.0) (share_size rest) (share_size (s ∷ rest)) (share_size all) small (sum_by-cons (λ (u : Share). unsigned_abs u.0) s rest) (far.size s.1)

nothing_after : (z whole : ℤ) → z +ℤ pos 0 ≡ whole → z ≡ whole
nothing_after z whole e = omega (arith, ints)

pub combined_end : (all : List Share) (numbers : BTreeMap ℕ ℤ) → AreCombinedSoFar all [] numbers → (x : ℕ) → number_at numbers x ≡ combined all x
combined_end all numbers far x = nothing_after (number_at numbers x) (combined all x) (far.total x)
