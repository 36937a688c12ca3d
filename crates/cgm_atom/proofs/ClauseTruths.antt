-- What a clause of literals says of values, as a truth value.
use Rattle.std.proofs.Common.{◌≡◌, ℕ, ◌==◌, Bool, true, false, not, ◌&&◌, ◌||◌, List, [], ◌∷◌, ◌++◌, map, refl, sym, ap, ◌∙◌, cond, Decides, arith}
use Rattle.std.specs.Prelude.{ℤ, pos, int_le, if◌then◌else◌}
use Rattle.std.specs.Bool.{beq}
use Rattle.std.specs.List.{list_all, list_any}
use Rattle.std.specs.Ordering.{int_eq}
use Rattle.std.proofs.lemmas.Bool.{and_parts, eqb-true, false≢true}
use Rattle.std.proofs.lemmas.Bool.Decides.{Decides-int_eq}
use Rattle.std.proofs.lemmas.Int.{ints}
use Rattle.cgm_atom.specs.declared.constraints.Atom.{Atom}
use Rattle.cgm_atom.specs.declared.constraints.Clause.{Clause}
use Rattle.cgm_atom.specs.Atoms.{atom_true, clause_true}
use Rattle.cgm_atom.specs.Bounds.{value_of}
use Rattle.cgm_atom.specs.Building.{first_atoms, is_same_atom, without_repeats}
use Rattle.cgm_atom.specs.Literals.{implication, literal, negated, truth_at}

-- ---- literals

at_most_none : (v : ℤ) → int_le v (pos 0) ≡ not (int_le (pos 1) v)
at_most_none v = grind (arith, ints)

pub negated-true : (values : List ℤ) (x : ℕ) → atom_true values (negated x) ≡ not (truth_at values x)
negated-true values x = at_most_none (value_of values x)

pub literals-any : (values : List ℤ) (xs : List ℕ) → list_any (atom_true values) (map literal xs) ≡ list_any (truth_at values) xs
literals-any values [] = refl
literals-any values (x ∷ xs) = ap (λ (t : Bool). truth_at values x || t) (literals-any values xs)

or_false : (t : Bool) → (t || false) ≡ t
or_false true = refl
or_false false = refl

not_both : (s t u : Bool) → (not s || (not t || u)) ≡ (not (s && t) || u)
not_both true t u = refl
not_both false t u = refl

pub negated-any : (values : List ℤ) (xs : List ℕ) (x : ℕ) → list_any (atom_true values) (map negated xs ++ literal x ∷ []) ≡ (not (list_all (truth_at values) xs) || truth_at values x)
negated-any values [] x = or_false (truth_at values x)
negated-any values (y ∷ ys) x =
    ap (λ (t : Bool). t || list_any (atom_true values) (map negated ys ++ literal x ∷ [])) (negated-true values y)
    ∙ ap (λ (t : Bool). not (truth_at values y) || t) (negated-any values ys x)
    ∙ not_both (truth_at values y) (list_all (truth_at values) ys) (truth_at values x)

pub implication-true : (values : List ℤ) (a b : ℕ) → clause_true values (implication a b) ≡ (not (truth_at values a) || truth_at values b)
implication-true values a b =
    ap (λ (t : Bool). t || (truth_at values b || false)) (negated-true values a)
    ∙ ap (λ (t : Bool). not (truth_at values a) || t) (or_false (truth_at values b))

-- ---- a later equal atom

same_side : (s t : Bool) → beq s t ≡ true → s ≡ t
same_side true true h = refl
same_side true false h = absurd (cc)
same_side false true h = absurd (cc)
same_side false false h = refl

same_atom : (values : List ℤ) (a b : Atom) → is_same_atom a b ≡ true → atom_true values a ≡ atom_true values b
same_atom values a b h =
    let parts = and_parts (a.var.0 == b.var.0) (beq a.at_least b.at_least && int_eq a.k b.k) h in
    let more = and_parts (beq a.at_least b.at_least) (int_eq a.k b.k) parts.1 in
    let var : a.var.0 ≡ b.var.0 = eqb-true a.var.0 b.var.0 parts.0 in
    let side : a.at_least ≡ b.at_least = same_side a.at_least b.at_least more.0 in
    let number : a.k ≡ b.k = (Decides-int_eq a.k b.k).0 more.1 in
    let test : Bool → ℤ → ℕ → Bool = λ up k x. cond up (int_le k (value_of values x)) (int_le (value_of values x) k) in
    ap (λ (up : Bool). test up a.k a.var.0) side ∙ ap (λ (k : ℤ). test b.at_least k a.var.0) number ∙ ap (λ (x : ℕ). test b.at_least b.k x) var

any_of_true : (s t : Bool) → s ≡ true → (s || t) ≡ true
any_of_true s t h = ap (λ (b : Bool). b || t) h

or_later : (s t : Bool) → t ≡ true → (s || t) ≡ true
or_later true t h = refl
or_later false t h = h

-- where an atom equals one before, one before is true if it is
was_true : (values : List ℤ) (a : Atom) (before : List Atom) → list_any (is_same_atom a) before ≡ true → atom_true values a ≡ true → list_any (atom_true values) before ≡ true
was_true values a [] h is = absurd (cc)
was_true values a (b ∷ before) h is = was_true_by values a b before (is_same_atom a b) refl h is (was_true values a before)
  where
    was_true_by : (values : List ℤ) (a b : Atom) (before : List Atom) (t : Bool) → is_same_atom a b ≡ t → (t || list_any (is_same_atom a) before) ≡ true → atom_true values a ≡ true → (list_any (is_same_atom a) before ≡ true → atom_true values a ≡ true → list_any (atom_true values) before ≡ true) → (atom_true values b || list_any (atom_true values) before) ≡ true
    was_true_by values a b before true e h is rest = any_of_true (atom_true values b) (list_any (atom_true values) before) (sym (same_atom values a b e) ∙ is)
    was_true_by values a b before false e h is rest = or_later (atom_true values b) (list_any (atom_true values) before) (rest h is)

any_push : (f : Atom → Bool) (xs : List Atom) (a : Atom) → list_any f (xs ++ a ∷ []) ≡ (list_any f xs || f a)
any_push f [] a = or_false (f a)
any_push f (x ∷ xs) a = ap (λ (t : Bool). f x || t) (any_push f xs a) ∙ or_grouped (f x) (list_any f xs) (f a)
  where
    or_grouped : (s t u : Bool) → (s || (t || u)) ≡ ((s || t) || u)
    or_grouped true t u = refl
    or_grouped false t u = refl

-- an atom that is kept
keep : (before a some all : Bool) → ((before || a) || some) ≡ ((before || a) || all) → (before || (a || some)) ≡ (before || (a || all))
keep true a some all h = refl
keep false a some all h = h

-- an atom that is dropped, since it is false or one before it is true
skip : (before a some all : Bool) → (a ≡ true → before ≡ true) → ((before || a) || some) ≡ ((before || a) || all) → (before || some) ≡ (before || (a || all))
skip true a some all was h = refl
skip false true some all was h = absurd (let no = was refl in cc)
skip false false some all was h = h

first_atoms-any : (values : List ℤ) (before atoms : List Atom) → (list_any (atom_true values) before || list_any (atom_true values) (first_atoms before atoms)) ≡ (list_any (atom_true values) before || list_any (atom_true values) atoms)
first_atoms-any values before [] = refl
first_atoms-any values before (a ∷ atoms) =
    let f = atom_true values in
    let kept = first_atoms (before ++ a ∷ []) atoms in
    let later : ((list_any f before || f a) || list_any f kept) ≡ ((list_any f before || f a) || list_any f atoms) =
    ap (λ (t : Bool). t || list_any f kept) (sym (any_push f before a))
    ∙ first_atoms-any values (before ++ a ∷ []) atoms
    ∙ ap (λ (t : Bool). t || list_any f atoms) (any_push f before a) in
    one_atom values a before kept atoms (list_any (is_same_atom a) before) refl later
  where
    one_atom : (values : List ℤ) (a : Atom) (before kept atoms : List Atom) (t : Bool) → list_any (is_same_atom a) before ≡ t → ((list_any (atom_true values) before || atom_true values a) || list_any (atom_true values) kept) ≡ ((list_any (atom_true values) before || atom_true values a) || list_any (atom_true values) atoms) → (list_any (atom_true values) before || list_any (atom_true values) (if t then kept else a ∷ kept)) ≡ (list_any (atom_true values) before || (atom_true values a || list_any (atom_true values) atoms))
    one_atom values a before kept atoms true e later =
        skip (list_any (atom_true values) before) (atom_true values a) (list_any (atom_true values) kept) (list_any (atom_true values) atoms) (was_true values a before e) later
    one_atom values a before kept atoms false e later =
        keep (list_any (atom_true values) before) (atom_true values a) (list_any (atom_true values) kept) (list_any (atom_true values) atoms) later

pub repeats-true : (values : List ℤ) (c : Clause) → clause_true values (without_repeats c) ≡ clause_true values c
repeats-true values c = first_atoms-any values [] c.atoms

pub all_repeats-true : (values : List ℤ) (clauses : List Clause) → list_all (clause_true values) (map without_repeats clauses) ≡ list_all (clause_true values) clauses
all_repeats-true values [] = refl
all_repeats-true values (c ∷ clauses) =
    ap (λ (t : Bool). t && list_all (clause_true values) (map without_repeats clauses)) (repeats-true values c)
    ∙ ap (λ (t : Bool). clause_true values c && t) (all_repeats-true values clauses)

-- ---- a truth value that decides whether one fact gives another

pub Decides-implies : (s t : Bool) (P Q : Type 0) → Decides s P → Decides t Q → Decides (not s || t) (P → Q)
Decides-implies true t P Q p q = (λ h _. q.0 h, λ f. q.1 (f (p.0 refl)))
Decides-implies false t P Q p q = (λ _ x. absurd (false≢true (p.1 x)), λ _. refl)
