-- Each atom of a clause that equals none before it, found by the set of those before.
use Rattle.std.proofs.Common.{◌≡◌, ℕ, ◌+◌, ◌<◌, Bool, true, false, cond, not, ◌&&◌, ◌||◌, ◌==◌, List, [], ◌∷◌, ◌++◌, length, get_or, drop, take, refl, ap, sym, ◌∙◌, subst, arith}
use Rattle.std.specs.Prelude.{ℤ, int_lt, if◌then◌else◌}
use Rattle.std.specs.Bool.{beq}
use Rattle.std.specs.BTreeSet.{BTreeSet, contains}
use Rattle.std.specs.Cmp.{tied_then}
use Rattle.std.specs.List.{All, list_any}
use Rattle.std.specs.Ordering.{bool_cmp, eq_by_cmp, int_cmp, int_eq, is_eq, nat_cmp, ordering_then}
use Rattle.std.specs.declared.cmp.Ordering.TheVariants.{Less, Equal, Greater}
use Rattle.std.proofs.lemmas.Bool.Decides.{nat_tests}
use Rattle.std.proofs.lemmas.List.{drop_more, take_more}
use Rattle.std.proofs.lemmas.List.Elements.{All-cons, All-head, All-tail}
use Rattle.cgm_atom.specs.declared.constraints.Atom.{Atom}
use Rattle.cgm_atom.specs.Building.{HasOneMore, atom_order, first_atoms, is_same_atom}

-- ---- what holds of each atom holds of those that are kept

all_of_either : (P : Atom → Type 0) (t : Bool) (xs ys : List Atom) → All P xs → All P ys → All P (if t then xs else ys)
all_of_either P true xs ys h k = h
all_of_either P false xs ys h k = k

pub All-first_atoms : (P : Atom → Type 0) (before atoms : List Atom) → All P atoms → All P (first_atoms before atoms)
All-first_atoms P before [] h = h
All-first_atoms P before (a ∷ atoms) h =
    let rest : All P (first_atoms (before ++ a ∷ []) atoms) = All-first_atoms P (before ++ a ∷ []) atoms (All-tail P a atoms h) in
    all_of_either P (list_any (is_same_atom a) before) (first_atoms (before ++ a ∷ []) atoms) (a ∷ first_atoms (before ++ a ∷ []) atoms)
    rest (All-cons P a (first_atoms (before ++ a ∷ []) atoms) (All-head P a atoms h) rest)

-- ---- equal atoms are those that the order doesn't tell apart

numbers_part : (x y : ℕ) → is_eq (nat_cmp x y) ≡ (y == x)
numbers_part x y = grind (arith, nat_tests)

sides_part : (s t : Bool) → is_eq (bool_cmp s t) ≡ beq t s
sides_part false false = refl
sides_part false true = refl
sides_part true false = refl
sides_part true true = refl

signed_cases : (s t : Bool) → is_eq (cond s Less (cond t Greater Equal)) ≡ is_eq (cond t Less (cond s Greater Equal))
signed_cases true true = refl
signed_cases true false = refl
signed_cases false true = refl
signed_cases false false = refl

signed_part : (x y : ℤ) → is_eq (int_cmp x y) ≡ int_eq y x
signed_part x y = signed_cases (int_lt x y) (int_lt y x)

pub same_by_order : (a q : Atom) → eq_by_cmp atom_order a q ≡ is_same_atom q a
same_by_order a q =
    let sides = bool_cmp a.at_least q.at_least in
    let numbers = int_cmp a.k q.k in
    sym (tied_then (nat_cmp a.var.0 q.var.0) (ordering_then sides numbers))
    ∙ ap (λ (t : Bool). is_eq (nat_cmp a.var.0 q.var.0) && t) (sym (tied_then sides numbers))
    ∙ rw (numbers_part a.var.0 q.var.0, sides_part a.at_least q.at_least, signed_part a.k q.k) refl

either : (t s : Bool) → cond t true s ≡ (t || s)
either true s = refl
either false s = refl

-- the set after one more atom
pub contains_more : (old new : BTreeSet Atom) (a q : Atom) → contains atom_order new q ≡ cond (eq_by_cmp atom_order a q) true (contains atom_order old q) → contains atom_order new q ≡ (is_same_atom q a || contains atom_order old q)
contains_more old new a q h =
    h ∙ ap (λ (t : Bool). cond t true (contains atom_order old q)) (same_by_order a q) ∙ either (is_same_atom q a) (contains atom_order old q)

-- an atom that isn't new was seen
pub was_seen : (is_new had : Bool) → is_new ≡ not had → is_new ≡ false → had ≡ true
was_seen is_new true e h = refl
was_seen is_new false e h = absurd (cc)

-- ---- one more atom

swapped : (s t u : Bool) → (s || (t || u)) ≡ (t || (s || u))
swapped true true u = refl
swapped true false u = refl
swapped false true u = refl
swapped false false u = refl

any_more : (f : Atom → Bool) (xs : List Atom) (a : Atom) → list_any f (xs ++ a ∷ []) ≡ (f a || list_any f xs)
any_more f [] a = refl
any_more f (x ∷ xs) a = ap (λ (t : Bool). f x || t) (any_more f xs a) ∙ swapped (f x) (f a) (list_any f xs)

-- the set has the atoms before, and what is kept leads to all that are to be kept
pub record IsFoundSoFar (atoms before rest kept : List Atom) (seen : BTreeSet Atom) : Type 0 where
  pub seen_before : (q : Atom) → contains atom_order seen q ≡ list_any (is_same_atom q) before
  pub left : kept ++ first_atoms before rest ≡ first_atoms [] atoms

seen_more : (before : List Atom) (a : Atom) (old new : BTreeSet Atom) → ((q : Atom) → contains atom_order old q ≡ list_any (is_same_atom q) before) → HasOneMore old new a → (q : Atom) → contains atom_order new q ≡ list_any (is_same_atom q) (before ++ a ∷ [])
seen_more before a old new h k q =
    k q ∙ ap (λ (t : Bool). is_same_atom q a || t) (h q) ∙ sym (any_more (is_same_atom q) before a)

pub found_old : (atoms before rest kept : List Atom) (a : Atom) (old new : BTreeSet Atom) → IsFoundSoFar atoms before (a ∷ rest) kept old → contains atom_order old a ≡ true → HasOneMore old new a → IsFoundSoFar atoms (before ++ a ∷ []) rest kept new
found_old atoms before rest kept a old new far e h = record {
  seen_before = seen_more before a old new far.seen_before h;
  left =
      sym (ap (λ (t : Bool). kept ++ cond t (first_atoms (before ++ a ∷ []) rest) (a ∷ first_atoms (before ++ a ∷ []) rest)) (sym (far.seen_before a) ∙ e))
      ∙ far.left;
}

-- ---- by places

abbrev pub IsFoundAt : List Atom → ℕ → List Atom → BTreeSet Atom → Type 0
IsFoundAt atoms i kept seen = IsFoundSoFar atoms (take i atoms) (drop i atoms) kept seen

at_place : (atoms kept : List Atom) (i : ℕ) (d : Atom) (seen : BTreeSet Atom) → i < length atoms → IsFoundAt atoms i kept seen → IsFoundSoFar atoms (take i atoms) (get_or atoms i d ∷ drop (i + 1) atoms) kept seen
at_place atoms kept i d seen h far =
    subst (λ (rest : List Atom). IsFoundSoFar atoms (take i atoms) rest kept seen) (drop_more atoms i d h) far

at_next : (atoms kept : List Atom) (i : ℕ) (d : Atom) (seen : BTreeSet Atom) → i < length atoms → IsFoundSoFar atoms (take i atoms ++ get_or atoms i d ∷ []) (drop (i + 1) atoms) kept seen → IsFoundAt atoms (i + 1) kept seen
at_next atoms kept i d seen h far =
    subst (λ (before : List Atom). IsFoundSoFar atoms before (drop (i + 1) atoms) kept seen) (sym (take_more atoms i d h)) far

pub found_old_at : (atoms kept : List Atom) (i : ℕ) (d : Atom) (old new : BTreeSet Atom) → i < length atoms → IsFoundAt atoms i kept old → contains atom_order old (get_or atoms i d) ≡ true → HasOneMore old new (get_or atoms i d) → IsFoundAt atoms (i + 1) kept new
found_old_at atoms kept i d old new h far e k =
    at_next atoms kept i d new h
    (found_old atoms (take i atoms) (drop (i + 1) atoms) kept (get_or atoms i d) old new (at_place atoms kept i d old h far) e k)
