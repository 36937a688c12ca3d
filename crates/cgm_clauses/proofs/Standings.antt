-- What a clause leaves, where it is false, unit or neither.
use Rattle.std.proofs.Common.{◌≡◌, ℕ, zero, suc, ◌+◌, ◌<◌, Bool, true, false, cond, List, [], ◌∷◌, length, get_or, drop, refl, sym, ap, ◌∙◌, arith}
use Rattle.std.specs.Prelude.{ℤ, pos, ◌≤ℤ◌, int_le, slice_get, slice_set}
use Rattle.std.specs.declared.option.Option.TheVariants.{Some, None}
use Rattle.std.specs.Int.{int_max, int_min}
use Rattle.std.proofs.lemmas.Int.{ints, clamps}
use Rattle.std.proofs.lemmas.List.{get_or-set_same}
use Rattle.std.proofs.lemmas.Option.{slice_get-get_or}
use Rattle.cgm_atom.specs.declared.constraints.Atom.{Atom}
use Rattle.cgm_atom.specs.declared.constraints.Clause.{Clause}
use Rattle.cgm_atom.specs.Bounds.{Bounds, lower_of, upper_of, value_of}
use Rattle.cgm_atom.specs.ClauseAtoms.{IsFirstLeft, left_in}
use Rattle.cgm_atom.specs.Constraints.{of_clause}
use Rattle.cgm_atom.specs.Narrowing.{is_false_in, is_true_in, left_by_atoms, left_by_clause, made_true, raised, reduced}
use Rattle.cgm_atom.proofs.Leaving.{first_left_at}
use Rattle.cgm_atom.proofs.SignedSteps.{le_from_true, le_is_true}
use Rattle.cgm_trail.specs.Steps.{IsGiven}
use Rattle.cgm_clauses.specs.Standing.{IsQuietIn, IsUnitBy}

-- ---- an atom that is made true

same_max : (a k : ℤ) → int_le k a ≡ true → int_max a k ≡ a
same_max a k h = let e : k ≤ℤ a = le_from_true k a h in omega (arith, ints, clamps)

same_min : (a k : ℤ) → int_le a k ≡ true → int_min a k ≡ a
same_min a k h = let e : a ≤ℤ k = le_from_true a k h in omega (arith, ints, clamps)

set_own : (xs : List ℤ) (i : ℕ) → slice_set xs i (value_of xs i) ≡ xs
set_own [] i = refl
set_own (x ∷ xs) zero = refl
set_own (x ∷ xs) (suc i) = ap (λ ys. x ∷ ys) (set_own xs i)

same_by : (b : Bounds) (x : ℕ) (up : Bool) (k : ℤ) → cond up (int_le k (lower_of b x)) (int_le (upper_of b x) k) ≡ true → cond up (raised b x k) (reduced b x k) ≡ b
same_by b x true k h =
    ap (λ ls. record b { lower = ls }) (ap (slice_set b.lower x) (same_max (lower_of b x) k h) ∙ set_own b.lower x)
same_by b x false k h =
    ap (λ us. record b { upper = us }) (ap (slice_set b.upper x) (same_min (upper_of b x) k h) ∙ set_own b.upper x)

-- one that was true changes nothing
pub true_made_same : (b : Bounds) (a : Atom) → is_true_in b a ≡ true → made_true b a ≡ b
true_made_same b a h = same_by b a.var.0 a.at_least a.k h

made_by : (b : Bounds) (x : ℕ) (up : Bool) (k : ℤ) → x < length b.lower → length b.upper ≡ length b.lower → cond up (int_le k (lower_of (cond up (raised b x k) (reduced b x k)) x)) (int_le (upper_of (cond up (raised b x k) (reduced b x k)) x) k) ≡ true
made_by b x true k known same =
    rw (get_or-set_same b.lower x (int_max (lower_of b x) k) (pos 0) known)
    (le_is_true k (int_max (lower_of b x) k) (omega (arith, ints, clamps)))
made_by b x false k known same =
    rw (get_or-set_same b.upper x (int_min (upper_of b x) k) (pos 0) (omega arith))
    (le_is_true (int_min (upper_of b x) k) k (omega (arith, ints, clamps)))

pub made_is_true : (b : Bounds) (a : Atom) → a.var.0 < length b.lower → length b.upper ≡ length b.lower → is_true_in (made_true b a) a ≡ true
made_is_true b a known same = made_by b a.var.0 a.at_least a.k known same

-- ---- a clause

pub left_as : (b : Bounds) (c : Clause) (kept : List Atom) → left_in b c.atoms ≡ kept → left_by_clause b c ≡ left_by_atoms b kept
unfolding left_by_clause
left_as b c kept e = ap (left_by_atoms b) e

-- a clause that is unit gives its open atom
pub unit_given : (b : Bounds) (c : Clause) (a : Atom) → IsUnitBy b c a → length b.upper ≡ length b.lower → IsGiven b (of_clause c) a
unit_given b c a h same =
    let left : left_by_clause b c ≡ Some (made_true b a) = left_as b c (a ∷ []) h.only in
    record { cause = rw left (made_is_true b a h.undecided.known same); exact = rw left refl }

quiet_by : (b : Bounds) (c : Clause) (a : Atom) (rest : List Atom) → is_true_in b a ≡ true → left_in b c.atoms ≡ a ∷ rest → IsQuietIn b c
quiet_by b c a [] h e = left_as b c (a ∷ []) e ∙ ap Some (true_made_same b a h)
quiet_by b c a (a' ∷ rest) h e = left_as b c (a ∷ a' ∷ rest) e

-- the first atom that is left is the one whose test fails
pub first_found : (b : Bounds) (atoms : List Atom) (start i : ℕ) (d : Atom) (answer : Bool) → i < length atoms → answer ≡ is_false_in b (get_or atoms i d) → answer ≡ false → left_in b (drop start atoms) ≡ left_in b (drop i atoms) → IsFirstLeft b atoms start (Some i)
first_found b atoms start i d answer short e h passed =
    first_left_at b atoms start i (get_or atoms i d) short (slice_get-get_or atoms i d short) (sym e ∙ h) passed

-- a true atom that isn't false comes first
pub quiet_if_true : (b : Bounds) (atoms : List Atom) (place : ℕ) (a : Atom) → IsFirstLeft b atoms 0 (Some place) → slice_get atoms place ≡ Some a → is_true_in b a ≡ true → IsQuietIn b (record { atoms = atoms })
quiet_if_true b atoms place a first e h =
    quiet_by b (record { atoms = atoms }) a (left_in b (drop (place + 1) atoms)) h (first.1 a e).1

pub unit_if_only : (b : Bounds) (atoms : List Atom) (place : ℕ) (a : Atom) → IsFirstLeft b atoms 0 (Some place) → slice_get atoms place ≡ Some a → IsFirstLeft b atoms (place + 1) None → a.var.0 < length b.lower → is_true_in b a ≡ false → IsUnitBy b (record { atoms = atoms }) a
unit_if_only b atoms place a first e others known h = record {
  only = (first.1 a e).1 ∙ ap (λ (rest : List Atom). a ∷ rest) others;
  undecided = record { known = known; not_true = h; not_false = (first.1 a e).0 };
}
