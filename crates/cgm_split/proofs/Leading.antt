-- The heaviest of the variables so far, one variable further.
use Rattle.std.proofs.Common.{◌≡◌, ◌∙◌, ℕ, ◌+◌, ◌<◌, ◌≤◌, Bool, true, false, List, [], ◌∷◌, ◌++◌, length, take, refl, sym, ap, subst, append_assoc, get_or, arith}
use Rattle.std.specs.Prelude.{Option, Some, None, IsNone, IsTrue, IfSome, MatchOption, if◌then◌else◌, nat_lt, ◌&&◌}
use Rattle.std.specs.List.{All}
use Rattle.std.proofs.lemmas.Bool.{ltb-false, ltb-true}
use Rattle.std.proofs.lemmas.List.{take_more}
use Rattle.std.proofs.lemmas.List.Elements.{All-append, All-cons}
use Rattle.cgm_atom.specs.declared.constraints.Var.{Var}
use Rattle.cgm_atom.specs.Bounds.{Bounds, AreProperBounds}
use Rattle.cgm_split.specs.Drawing.{IsEachOnce}
use Rattle.cgm_split.specs.Halving.{IsPoint, is_unfixed}
use Rattle.cgm_split.specs.Weighing.{IsHeaviest, comes_before, weight_of}
use Rattle.cgm_split.proofs.Choosing.{fails_of_fixed, point_of_fails}

-- the best of a list, if any isn't fixed
abbrev pub IsLeading : Bounds → List ℕ → List Var → Option Var → Type 0
IsLeading b weights vs best =
    MatchOption best (All (λ v. is_unfixed b v ≡ false) vs) (λ v. (v.0 < length weights) × IsHeaviest b weights vs v)

one : (P : Var → Type 0) (v : Var) → P v → All P (v ∷ [])
one P v h = All-cons P v [] h (λ k d within. absurd (omega arith))

fixed_more : (b : Bounds) (vs : List Var) (v : Var) → All (λ u. is_unfixed b u ≡ false) vs → is_unfixed b v ≡ false → All (λ u. is_unfixed b u ≡ false) (vs ++ v ∷ [])
fixed_more b vs v all h = All-append (λ u. is_unfixed b u ≡ false) vs (v ∷ []) all (one (λ u. is_unfixed b u ≡ false) v h)

first_heaviest : (b : Bounds) (weights : List ℕ) (vs : List Var) (v : Var) → All (λ u. is_unfixed b u ≡ false) vs → IsTrue (is_unfixed b v) → IsHeaviest b weights (vs ++ v ∷ []) v
first_heaviest b weights vs v all h = record {
  unfixed = h;
  before = vs;
  after = [];
  place = refl;
  lighter = λ k d within unfixed. absurd (cc (all k d within, unfixed));
  not_heavier = λ k d within. absurd (omega arith);
}

-- a heavier one takes the place of the best
heavier : (b : Bounds) (weights : List ℕ) (vs : List Var) (u v : Var) → IsHeaviest b weights vs u → IsTrue (is_unfixed b v) → weight_of weights u.0 < weight_of weights v.0 → IsHeaviest b weights (vs ++ v ∷ []) v
heavier b weights vs u v best h more =
    let Light : Var → Type 0 = λ w. IsTrue (is_unfixed b w) → weight_of weights w.0 < weight_of weights v.0 in
    let before : All Light best.before = λ k d within unfixed. omega (arith, best.lighter k d within unfixed) in
    let after : All Light best.after = λ k d within unfixed. omega (arith, best.not_heavier k d within unfixed) in
    let all : All Light (best.before ++ u ∷ best.after) = All-append Light best.before (u ∷ best.after) before (All-cons Light u best.after (λ unfixed. more) after) in
    record {
      unfixed = h;
      before = vs;
      after = [];
      place = refl;
      lighter = subst (All Light) (sym best.place) all;
      not_heavier = λ k d within. absurd (omega arith);
    }

-- one that isn't heavier doesn't
not_heavier : (b : Bounds) (weights : List ℕ) (vs : List Var) (u v : Var) → IsHeaviest b weights vs u → (IsTrue (is_unfixed b v) → weight_of weights v.0 ≤ weight_of weights u.0) → IsHeaviest b weights (vs ++ v ∷ []) u
not_heavier b weights vs u v best h =
    let Light : Var → Type 0 = λ w. IsTrue (is_unfixed b w) → weight_of weights w.0 ≤ weight_of weights u.0 in
    record {
      unfixed = best.unfixed;
      before = best.before;
      after = best.after ++ v ∷ [];
      place = ap (λ (ws : List Var). ws ++ v ∷ []) best.place ∙ append_assoc best.before (u ∷ best.after) (v ∷ []);
      lighter = best.lighter;
      not_heavier = All-append Light best.after (v ∷ []) best.not_heavier (one Light v h);
    }

both_true : (p q : Bool) → (p && q) ≡ true → (p ≡ true) × (q ≡ true)
both_true true q h = (refl, h)
both_true false q h = absurd (cc)

other_false : (p q : Bool) → (p && q) ≡ false → p ≡ true → q ≡ false
other_false true q h e = h
other_false false q h e = absurd (cc)

leading_step : (b : Bounds) (weights : List ℕ) (vs : List Var) (v : Var) (best : Option Var) → v.0 < length weights → IsLeading b weights vs best → (t : Bool) → comes_before b weights v best ≡ t → IsLeading b weights (vs ++ v ∷ []) (if t then Some v else best)
leading_step b weights vs v None known h true is = (known, first_heaviest b weights vs v h is)
leading_step b weights vs v None known h false is = fixed_more b vs v h is
leading_step b weights vs v (Some u) known h true is =
    let parts : (is_unfixed b v ≡ true) × (nat_lt (weight_of weights u.0) (weight_of weights v.0) ≡ true) = both_true (is_unfixed b v) (nat_lt (weight_of weights u.0) (weight_of weights v.0)) is in
    (known, heavier b weights vs u v h.1 parts.0 (ltb-true (weight_of weights u.0) (weight_of weights v.0) parts.1))
leading_step b weights vs v (Some u) known h false is = (
  h.0,
  not_heavier b weights vs u v h.1 (λ unfixed.
      ltb-false (weight_of weights u.0) (weight_of weights v.0) (other_false (is_unfixed b v) (nat_lt (weight_of weights u.0) (weight_of weights v.0)) is unfixed)),
)

pub leading_more : (b : Bounds) (weights : List ℕ) (vs : List Var) (i : ℕ) (d : Var) (best next : Option Var) → i < length vs → (get_or vs i d).0 < length weights → IsLeading b weights (take i vs) best → next ≡ (if comes_before b weights (get_or vs i d) best then Some (get_or vs i d) else best) → IsLeading b weights (take (i + 1) vs) next
leading_more b weights vs i d best next within known h is =
    let more : IsLeading b weights (take i vs ++ get_or vs i d ∷ []) (if comes_before b weights (get_or vs i d) best then Some (get_or vs i d) else best) =
    leading_step b weights (take i vs) (get_or vs i d) best known h (comes_before b weights (get_or vs i d) best) refl in
    rw (take_more vs i d within, is) more

-- ---- the heaviest of all

pub choice_known : (b : Bounds) (weights : List ℕ) (vs : List Var) (best : Option Var) → length b.lower ≡ length weights → IsLeading b weights vs best → IfSome best (λ v. v.0 < length b.lower)
choice_known b weights vs None same h = tt
choice_known b weights vs (Some v) same h = omega (arith, h.0)

pub choice_heaviest : (b : Bounds) (weights : List ℕ) (vs : List Var) (best : Option Var) → IsLeading b weights vs best → IfSome best (λ v. IsHeaviest b weights vs v)
choice_heaviest b weights vs None h = tt
choice_heaviest b weights vs (Some v) h = h.1

forth : (b : Bounds) (weights : List ℕ) (vs : List Var) (best : Option Var) → (0 < length vs → AreProperBounds b) → IsEachOnce (length b.lower) vs → IsLeading b weights vs best → IsNone best → IsPoint b
forth b weights vs None proper each h none = point_of_fails b vs proper each h
forth b weights vs (Some v) proper each h none = absurd (cc)

back : (b : Bounds) (weights : List ℕ) (vs : List Var) (best : Option Var) → length b.lower ≡ length weights → IsLeading b weights vs best → IsPoint b → IsNone best
back b weights vs None same h point = refl
back b weights vs (Some v) same h point =
    let inside : v.0 < length b.lower = subst (λ n. v.0 < n) (sym same) h.0 in
    absurd (cc (h.1.unfixed, fails_of_fixed b v.0 (point v.0 inside)))

pub none_exactly : (b : Bounds) (weights : List ℕ) (vs : List Var) (best : Option Var) → (0 < length vs → AreProperBounds b) → length b.lower ≡ length weights → IsEachOnce (length weights) vs → IsLeading b weights vs best → (IsNone best → IsPoint b) × (IsPoint b → IsNone best)
none_exactly b weights vs best proper same each h =
    (forth b weights vs best proper (subst (λ n. IsEachOnce n vs) (sym same) each) h, back b weights vs best same h)
