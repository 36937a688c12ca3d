-- The negations of what a box says beyond the limits, variable by variable.
use Rattle.std.proofs.Common.{◌≡◌, ℕ, ◌+◌, ◌^◌, ◌<◌, ◌≤◌, ◌⊎◌, inl, inr, Bool, true, false, List, [], ◌∷◌, ◌++◌, length, refl, subst, arith}
use Rattle.std.specs.Prelude.{ℤ, pos, ◌+ℤ◌, ◌-ℤ◌, ◌≤ℤ◌, int_lt, unsigned_abs, if◌then◌else◌}
use Rattle.std.specs.List.{All}
use Rattle.std.proofs.lemmas.Bool.{cases_lt}
use Rattle.std.proofs.lemmas.Int.{ints}
use Rattle.std.proofs.lemmas.List.Elements.{All-append, All-cons, All-head, All-nil}
use Rattle.cgm_atom.specs.declared.constraints.Atom.{Atom}
use Rattle.cgm_atom.specs.declared.constraints.Var.{Var}
use Rattle.cgm_atom.specs.Bounds.{Bounds, lower_of, upper_of}
use Rattle.cgm_atom.specs.ClauseAtoms.{AreKnown}
use Rattle.cgm_atom.specs.Laws.{IsSmaller}
use Rattle.cgm_atom.specs.Limits.{IsBound, max_atom_number}
use Rattle.cgm_atom.specs.Narrowing.{is_false_in}
use Rattle.cgm_atom.specs.Ranges.{IsAtomInRange}
use Rattle.cgm_atom.specs.Steps.{AreBounds}
use Rattle.cgm_atom.proofs.SignedSteps.{lt_is_true, ≤ℤ_trans}
use Rattle.cgm_learn.specs.Walking.{AreNegations, IsInsideAt, lower_negation, upper_negation}
use Rattle.cgm_learn.proofs.Boxes.{after_below, before_above, read_lt, read_not_lt}
use Rattle.cgm_learn.proofs.Lessons.{all_back, all_front}

less_before : (l : ℤ) → int_lt (l -ℤ pos 1) l ≡ true
less_before l = lt_is_true (l -ℤ pos 1) l (omega (arith, ints))

more_after : (u : ℤ) → int_lt u (u +ℤ pos 1) ≡ true
more_after u = lt_is_true u (u +ℤ pos 1) (omega (arith, ints))

size_before : (l : ℤ) → IsBound l → unsigned_abs (l -ℤ pos 1) ≤ max_atom_number
size_before l h = omega (arith, ints, h)

size_after : (u : ℤ) → IsBound u → unsigned_abs (u +ℤ pos 1) ≤ max_atom_number
size_after u h = omega (arith, ints, h)

-- what the negations of one bound are
record AreOf (limits rest : Bounds) (atoms : List Atom) (Covers : Bounds → Type 0) : Type 0 where
  falses : All (λ a. is_false_in rest a ≡ true) atoms
  known : AreKnown (length limits.lower) atoms
  range : All IsAtomInRange atoms
  covered : (b : Bounds) → IsSmaller b limits → All (λ a. is_false_in b a ≡ true) atoms → Covers b

one_of : (limits rest : Bounds) (a : Atom) (Covers : Bounds → Type 0) → is_false_in rest a ≡ true → a.var.0 < length limits.lower → IsAtomInRange a → ((b : Bounds) → is_false_in b a ≡ true → Covers b) → AreOf limits rest (a ∷ []) Covers
one_of limits rest a Covers h k r c = record {
  falses = All-cons (λ x. is_false_in rest x ≡ true) a [] h (All-nil (λ x. is_false_in rest x ≡ true));
  known = All-cons (λ x. x.var.0 < length limits.lower) a [] k (All-nil (λ x. x.var.0 < length limits.lower));
  range = All-cons IsAtomInRange a [] r (All-nil IsAtomInRange);
  covered = λ b smaller falses. c b (All-head (λ x. is_false_in b x ≡ true) a [] falses);
}

none_of : (limits rest : Bounds) (Covers : Bounds → Type 0) → ((b : Bounds) → IsSmaller b limits → Covers b) → AreOf limits rest [] Covers
none_of limits rest Covers c = record {
  falses = All-nil (λ (x : Atom). is_false_in rest x ≡ true);
  known = All-nil (λ (x : Atom). x.var.0 < length limits.lower);
  range = All-nil IsAtomInRange;
  covered = λ b smaller falses. c b smaller;
}

lower_by : (limits rest : Bounds) (x : ℕ) (t : Bool) → int_lt (lower_of limits x) (lower_of rest x) ≡ t → x < length limits.lower → x < 2 ^ 32 → IsBound (lower_of rest x)
    → AreOf limits rest (if t then record { var = record { 0 = x }; at_least = false; k = lower_of rest x -ℤ pos 1 } ∷ [] else []) (λ b. lower_of rest x ≤ℤ lower_of b x)
lower_by limits rest x true e known small size =
    one_of limits rest (record { var = record { 0 = x }; at_least = false; k = lower_of rest x -ℤ pos 1 }) (λ b. lower_of rest x ≤ℤ lower_of b x) (less_before (lower_of rest x)) known (small, size_before (lower_of rest x) size)
    (λ b h. after_below (lower_of rest x) (lower_of b x) (read_lt (lower_of rest x -ℤ pos 1) (lower_of b x) h))
lower_by limits rest x false e known small size =
    none_of limits rest (λ b. lower_of rest x ≤ℤ lower_of b x)
    (λ b smaller. ≤ℤ_trans (lower_of rest x) (lower_of limits x) (lower_of b x) (read_not_lt (lower_of limits x) (lower_of rest x) e) (smaller.inside x).0)

upper_by : (limits rest : Bounds) (x : ℕ) (t : Bool) → int_lt (upper_of rest x) (upper_of limits x) ≡ t → x < length limits.lower → x < 2 ^ 32 → IsBound (upper_of rest x)
    → AreOf limits rest (if t then record { var = record { 0 = x }; at_least = true; k = upper_of rest x +ℤ pos 1 } ∷ [] else []) (λ b. upper_of b x ≤ℤ upper_of rest x)
upper_by limits rest x true e known small size =
    one_of limits rest (record { var = record { 0 = x }; at_least = true; k = upper_of rest x +ℤ pos 1 }) (λ b. upper_of b x ≤ℤ upper_of rest x) (more_after (upper_of rest x)) known (small, size_after (upper_of rest x) size)
    (λ b h. before_above (upper_of rest x) (upper_of b x) (read_lt (upper_of b x) (upper_of rest x +ℤ pos 1) h))
upper_by limits rest x false e known small size =
    none_of limits rest (λ b. upper_of b x ≤ℤ upper_of rest x)
    (λ b smaller. ≤ℤ_trans (upper_of b x) (upper_of limits x) (upper_of rest x) (smaller.inside x).1 (read_not_lt (upper_of rest x) (upper_of limits x) e))

pub negations_begin : (limits rest : Bounds) → AreNegations limits rest 0 []
negations_begin limits rest = record {
  falses = All-nil (λ (x : Atom). is_false_in rest x ≡ true);
  known = All-nil (λ (x : Atom). x.var.0 < length limits.lower);
  range = All-nil IsAtomInRange;
  covered = λ b smaller falses x below. absurd (omega (arith, below));
}

covered_next : (b rest : Bounds) (x y : ℕ) → y < x + 1 → (y < x) ⊎ (x ≤ y) → (y < x → IsInsideAt b rest y) → IsInsideAt b rest x → IsInsideAt b rest y
covered_next b rest x y h (inl less) earlier here = earlier less
covered_next b rest x y h (inr more) earlier here =
    let same : x ≡ y = omega (arith, h, more) in
    subst (λ z. IsInsideAt b rest z) same here

pub negations_step : (limits rest : Bounds) (x : ℕ) (atoms next : List Atom) → AreNegations limits rest x atoms → next ≡ (atoms ++ lower_negation limits rest x) ++ upper_negation limits rest x → x < length limits.lower → x < 2 ^ 32 → AreBounds rest → AreNegations limits rest (x + 1) next
negations_step limits rest x atoms next far e known small sizes =
    let lows : List Atom = lower_negation limits rest x in
    let highs : List Atom = upper_negation limits rest x in
    let low : AreOf limits rest lows (λ b. lower_of rest x ≤ℤ lower_of b x) = lower_by limits rest x (int_lt (lower_of limits x) (lower_of rest x)) refl known small (sizes x).0 in
    let high : AreOf limits rest highs (λ b. upper_of b x ≤ℤ upper_of rest x) = upper_by limits rest x (int_lt (upper_of rest x) (upper_of limits x)) refl known small (sizes x).1 in
    rw e
    (record {
      falses = All-append (λ a. is_false_in rest a ≡ true) (atoms ++ lows) highs (All-append (λ a. is_false_in rest a ≡ true) atoms lows far.falses low.falses) high.falses;
      known = All-append (λ a. a.var.0 < length limits.lower) (atoms ++ lows) highs (All-append (λ a. a.var.0 < length limits.lower) atoms lows far.known low.known) high.known;
      range = All-append IsAtomInRange (atoms ++ lows) highs (All-append IsAtomInRange atoms lows far.range low.range) high.range;
      covered = λ b smaller falses y below.
          let front = all_front (λ a. is_false_in b a ≡ true) (atoms ++ lows) highs falses in
          covered_next b rest x y below (cases_lt y x)
          (λ less. far.covered b smaller (all_front (λ a. is_false_in b a ≡ true) atoms lows front) y less)
          (low.covered b smaller (all_back (λ a. is_false_in b a ≡ true) atoms lows front), high.covered b smaller (all_back (λ a. is_false_in b a ≡ true) (atoms ++ lows) highs falses));
    })

-- ---- a negation that is added

pub lower_when : (limits rest : Bounds) (x : Var) → int_lt (lower_of limits x.0) (lower_of rest x.0) ≡ true → record { var = x; at_least = false; k = lower_of rest x.0 -ℤ pos 1 } ∷ [] ≡ lower_negation limits rest x.0
lower_when limits rest x test = rw test refl

pub upper_when : (limits rest : Bounds) (x : Var) → int_lt (upper_of rest x.0) (upper_of limits x.0) ≡ true → record { var = x; at_least = true; k = upper_of rest x.0 +ℤ pos 1 } ∷ [] ≡ upper_negation limits rest x.0
upper_when limits rest x test = rw test refl
