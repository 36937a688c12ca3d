-- What the terms of a row do to a box: the bounds that their greatest values read stay, and each bound that they tighten is tightened by one of them.
use Rattle.std.proofs.Common.{◌≡◌, ◌≢◌, ℕ, zero, suc, ◌<◌, Bool, true, false, cond, List, [], ◌∷◌, length, get_or, refl, ap, sym, ◌∙◌, arith, length-set}
use Rattle.std.specs.Prelude.{ℤ, pos, negsuc, ◌+ℤ◌, ◌-ℤ◌, ◌*ℤ◌, ◌≤ℤ◌, ◌/◌, int_le, slice_set}
use Rattle.std.specs.Int.{int_max, int_min}
use Rattle.std.proofs.lemmas.Int.{ints, clamps}
use Rattle.std.proofs.lemmas.List.{get_or-set_other, get_or-set_same, set-get_or}
use Rattle.cgm_atom.specs.declared.constraints.Atom.{Atom}
use Rattle.cgm_atom.specs.declared.constraints.Var.{Var}
use Rattle.cgm_atom.specs.Bounds.{Bounds, lower_of, upper_of}
use Rattle.cgm_atom.specs.Limits.{AreTermsOf, IsAbsent}
use Rattle.cgm_atom.specs.Narrowing.{greatest_activity, greatest_term, is_true_in, kept_atom, made_true, raised, reduced, tightened_by_term, tightened_by_terms}
use Rattle.cgm_atom.specs.Relaxing.{bound_of}
use Rattle.cgm_atom.proofs.Keeping.{greatest_term-pos}
use Rattle.cgm_atom.proofs.RowTightening.{AgreesAt, length-made_true}
use Rattle.cgm_atom.proofs.Shrinking.{tightened_by_terms_shrinks, true_in_smaller}
use Rattle.cgm_atom.proofs.SignedSteps.{le_is_true}

-- each variable has both bounds
abbrev pub IsEven : Bounds → Type 0
IsEven b = length b.upper ≡ length b.lower

-- ---- an atom made true

upper_count : (b : Bounds) (x : ℕ) (up : Bool) (k : ℤ) → length (cond up (raised b x k) (reduced b x k)).upper ≡ length b.upper
upper_count b x true k = refl
upper_count b x false k = length-set b.upper x (int_min (upper_of b x) k)

pub even_made : (b : Bounds) (a : Atom) → IsEven b → IsEven (made_true b a)
even_made b a h = upper_count b a.var.0 a.at_least a.k ∙ h ∙ sym (length-made_true b a)

elsewhere_cases : (b : Bounds) (i x : ℕ) (up : Bool) (k : ℤ) → x ≢ i → AgreesAt b (cond up (raised b i k) (reduced b i k)) x
elsewhere_cases b i x true k h = (get_or-set_other b.lower i x (int_max (lower_of b i) k) (pos 0) h, refl)
elsewhere_cases b i x false k h = (refl, get_or-set_other b.upper i x (int_min (upper_of b i) k) (pos 0) h)

-- another variable keeps its bounds
made_elsewhere : (b : Bounds) (a : Atom) (x : ℕ) → x ≢ a.var.0 → AgreesAt b (made_true b a) x
made_elsewhere b a x h = elsewhere_cases b a.var.0 x a.at_least a.k h

-- the bound that an atom speaks of, where the atom is made true
abbrev bound_made : Bounds → Atom → ℤ
bound_made b a = cond a.at_least (int_max (lower_of b a.var.0) a.k) (int_min (upper_of b a.var.0) a.k)

bound_cases : (b : Bounds) (x : Var) (up : Bool) (k : ℤ) → x.0 < length b.lower → IsEven b → bound_of (made_true b (record { var = x; at_least = up; k = k })) (record { var = x; at_least = up; k = k }) ≡ bound_made b (record { var = x; at_least = up; k = k })
bound_cases b x true k known even = get_or-set_same b.lower x.0 (int_max (lower_of b x.0) k) (pos 0) known
bound_cases b x false k known even =
    let known' : x.0 < length b.upper = omega arith in
    get_or-set_same b.upper x.0 (int_min (upper_of b x.0) k) (pos 0) known'

bound_is_made : (b : Bounds) (a : Atom) → a.var.0 < length b.lower → IsEven b → bound_of (made_true b a) a ≡ bound_made b a
bound_is_made b a known even = bound_cases b a.var a.at_least a.k known even

max_at_least : (lo k : ℤ) → k ≤ℤ int_max lo k
max_at_least lo k = omega (arith, ints, clamps)

min_at_most : (hi k : ℤ) → int_min hi k ≤ℤ k
min_at_most hi k = omega (arith, ints, clamps)

true_cases : (b : Bounds) (x : ℕ) (up : Bool) (k m : ℤ) → m ≡ cond up (int_max (lower_of b x) k) (int_min (upper_of b x) k) → cond up (int_le k m) (int_le m k) ≡ true
true_cases b x true k m e = le_is_true k m (rw e (max_at_least (lower_of b x) k))
true_cases b x false k m e = le_is_true m k (rw e (min_at_most (upper_of b x) k))

bound_of_true : (b : Bounds) (x : Var) (up : Bool) (k : ℤ) → cond up (int_le k (bound_of b (record { var = x; at_least = up; k = k }))) (int_le (bound_of b (record { var = x; at_least = up; k = k })) k) ≡ is_true_in b (record { var = x; at_least = up; k = k })
bound_of_true b x true k = refl
bound_of_true b x false k = refl

-- an atom that is made true is true
pub made_is_true : (b : Bounds) (a : Atom) → a.var.0 < length b.lower → IsEven b → is_true_in (made_true b a) a ≡ true
made_is_true b a known even =
    sym (bound_of_true (made_true b a) a.var a.at_least a.k)
    ∙ true_cases b a.var.0 a.at_least a.k (bound_of (made_true b a) a) (bound_is_made b a known even)

max_same : (lo k : ℤ) → int_le k lo ≡ true → int_max lo k ≡ lo
max_same lo k h = let e : k ≤ℤ lo = grind (arith, ints) in omega (arith, ints, clamps)

min_same : (hi k : ℤ) → int_le hi k ≡ true → int_min hi k ≡ hi
min_same hi k h = let e : hi ≤ℤ k = grind (arith, ints) in omega (arith, ints, clamps)

same_cases : (b : Bounds) (x : ℕ) (up : Bool) (k : ℤ) → cond up (int_le k (lower_of b x)) (int_le (upper_of b x) k) ≡ true → cond up (raised b x k) (reduced b x k) ≡ b
same_cases b x true k h =
    ap (λ (m : ℤ). record b { lower = slice_set b.lower x m }) (max_same (lower_of b x) k h)
    ∙ ap (λ (l : List ℤ). record b { lower = l }) (set-get_or b.lower x (pos 0))
same_cases b x false k h =
    ap (λ (m : ℤ). record b { upper = slice_set b.upper x m }) (min_same (upper_of b x) k h)
    ∙ ap (λ (l : List ℤ). record b { upper = l }) (set-get_or b.upper x (pos 0))

-- an atom that is true already changes nothing
pub made_same : (b : Bounds) (a : Atom) → is_true_in b a ≡ true → made_true b a ≡ b
made_same b a h = same_cases b a.var.0 a.at_least a.k h

-- ---- a term

kept_var : (old : Bounds) (room : ℕ) (c : ℤ) (x : Var) → (kept_atom old room c x).var ≡ x
kept_var old room (pos n) x = refl
kept_var old room (negsuc n) x = refl

term_makes : (old : Bounds) (room : ℕ) (c : ℤ) (x : Var) (b : Bounds) → c ≢ pos 0 → tightened_by_term old room c x b ≡ made_true b (kept_atom old room c x)
term_makes old room (pos zero) x b h = absurd (h refl)
term_makes old room (pos (suc n)) x b h = refl
term_makes old room (negsuc n) x b h = refl

term_elsewhere : (old : Bounds) (room : ℕ) (c : ℤ) (y : Var) (b : Bounds) (x : ℕ) → x ≢ y.0 → AgreesAt b (tightened_by_term old room c y b) x
term_elsewhere old room (pos zero) y b x h = (refl, refl)
term_elsewhere old room (pos (suc n)) y b x h = made_elsewhere b (kept_atom old room (pos (suc n)) y) x h
term_elsewhere old room (negsuc n) y b x h = made_elsewhere b (kept_atom old room (negsuc n) y) x h

term_counts : (old : Bounds) (room : ℕ) (c : ℤ) (y : Var) (b : Bounds) → length (tightened_by_term old room c y b).lower ≡ length b.lower
term_counts old room (pos zero) y b = refl
term_counts old room (pos (suc n)) y b = length-made_true b (kept_atom old room (pos (suc n)) y)
term_counts old room (negsuc n) y b = length-made_true b (kept_atom old room (negsuc n) y)

term_even : (old : Bounds) (room : ℕ) (c : ℤ) (y : Var) (b : Bounds) → IsEven b → IsEven (tightened_by_term old room c y b)
term_even old room (pos zero) y b h = h
term_even old room (pos (suc n)) y b h = even_made b (kept_atom old room (pos (suc n)) y) h
term_even old room (negsuc n) y b h = even_made b (kept_atom old room (negsuc n) y) h

-- ---- all terms

turned : (x y : ℕ) → x ≢ y → y ≢ x
turned x y h e = h (sym e)

terms_elsewhere : (old : Bounds) (room : ℕ) (terms : List (ℤ × Var)) (b : Bounds) (x : ℕ) → IsAbsent x terms → AgreesAt b (tightened_by_terms old room terms b) x
terms_elsewhere old room [] b x h = (refl, refl)
terms_elsewhere old room (t ∷ terms) b x h =
    let first : AgreesAt b (tightened_by_term old room t.0 t.1 b) x = term_elsewhere old room t.0 t.1 b x (turned t.1.0 x h.0) in
    let rest : AgreesAt (tightened_by_term old room t.0 t.1 b) (tightened_by_terms old room terms (tightened_by_term old room t.0 t.1 b)) x = terms_elsewhere old room terms (tightened_by_term old room t.0 t.1 b) x h.1 in
    (rest.0 ∙ first.0, rest.1 ∙ first.1)

bound_agrees : (b b' : Bounds) (x : Var) (up : Bool) (k : ℤ) → AgreesAt b b' x.0 → bound_of b' (record { var = x; at_least = up; k = k }) ≡ bound_of b (record { var = x; at_least = up; k = k })
bound_agrees b b' x true k h = h.0
bound_agrees b b' x false k h = h.1

made_agrees : (b b' : Bounds) (x : Var) (up : Bool) (k : ℤ) → AgreesAt b b' x.0 → bound_made b' (record { var = x; at_least = up; k = k }) ≡ bound_made b (record { var = x; at_least = up; k = k })
made_agrees b b' x true k h = ap (λ (l : ℤ). int_max l k) h.0
made_agrees b b' x false k h = ap (λ (u : ℤ). int_min u k) h.1

absent_at : (x : ℕ) (terms : List (ℤ × Var)) (i : ℕ) (d : ℤ × Var) → i < length terms → IsAbsent x terms → (get_or terms i d).1.0 ≢ x
absent_at x [] i d h absent = absurd (omega arith)
absent_at x (t ∷ terms) zero d h absent = absent.0
absent_at x (t ∷ terms) (suc i) d h absent = absent_at x terms i d (omega arith) absent.1

known_at : (count : ℕ) (terms : List (ℤ × Var)) (i : ℕ) (d : ℤ × Var) → i < length terms → AreTermsOf count terms → (get_or terms i d).1.0 < count
known_at count [] i d h known = absurd (omega arith)
known_at count (t ∷ terms) zero d h known = known.0
known_at count (t ∷ terms) (suc i) d h known = known_at count terms i d (omega arith) known.3

-- the atom that a term makes true
abbrev pub atom_at : Bounds → ℕ → ℤ × Var → Atom
atom_at old room t = kept_atom old room t.0 t.1

-- all terms together move the bound of one of them as this one does
bound_at : (old : Bounds) (room : ℕ) (terms : List (ℤ × Var)) (i : ℕ) (d : ℤ × Var) (b : Bounds) → i < length terms → AreTermsOf (length b.lower) terms → IsEven b → bound_of (tightened_by_terms old room terms b) (atom_at old room (get_or terms i d)) ≡ bound_made b (atom_at old room (get_or terms i d))
bound_at old room [] i d b h known even = absurd (omega arith)
bound_at old room (t ∷ terms) zero d b h known even =
    let a = atom_at old room t in
    let same : a.var ≡ t.1 = kept_var old room t.0 t.1 in
    let absent : IsAbsent a.var.0 terms = rw same known.2 in
    let here : a.var.0 < length b.lower = rw same known.0 in
    bound_agrees (tightened_by_term old room t.0 t.1 b) (tightened_by_terms old room terms (tightened_by_term old room t.0 t.1 b)) a.var a.at_least a.k (terms_elsewhere old room terms (tightened_by_term old room t.0 t.1 b) a.var.0 absent)
    ∙ ap (λ (m : Bounds). bound_of m a) (term_makes old room t.0 t.1 b known.1)
    ∙ bound_is_made b a here even
bound_at old room (t ∷ terms) (suc i) d b h known even =
    let mid = tightened_by_term old room t.0 t.1 b in
    let u = get_or terms i d in
    let a = atom_at old room u in
    let known' : AreTermsOf (length mid.lower) terms = rw (term_counts old room t.0 t.1 b) known.3 in
    let other : u.1.0 ≢ t.1.0 = absent_at t.1.0 terms i d (omega arith) known.2 in
    let other' : a.var.0 ≢ t.1.0 = rw (kept_var old room u.0 u.1) other in
    bound_at old room terms i d mid (omega arith) known' (term_even old room t.0 t.1 b even)
    ∙ made_agrees b mid a.var a.at_least a.k (term_elsewhere old room t.0 t.1 b a.var.0 other')

pub exact_at : (old : Bounds) (room : ℕ) (terms : List (ℤ × Var)) (i : ℕ) (d : ℤ × Var) (b : Bounds) → i < length terms → AreTermsOf (length b.lower) terms → IsEven b → bound_of (tightened_by_terms old room terms b) (atom_at old room (get_or terms i d)) ≡ bound_of (made_true b (atom_at old room (get_or terms i d))) (atom_at old room (get_or terms i d))
exact_at old room terms i d b h known even =
    let u = get_or terms i d in
    let here : (atom_at old room u).var.0 < length b.lower = rw (kept_var old room u.0 u.1) (known_at (length b.lower) terms i d h known) in
    bound_at old room terms i d b h known even ∙ sym (bound_is_made b (atom_at old room u) here even)

-- the atoms of all terms are true in a box
abbrev pub AreTrueIn : Bounds → Bounds → ℕ → List (ℤ × Var) → Type 0
AreTrueIn b old room [] = Unit {0}
AreTrueIn b old room (t ∷ terms) = (is_true_in b (atom_at old room t) ≡ true) × AreTrueIn b old room terms

pub true_at : (b old : Bounds) (room : ℕ) (terms : List (ℤ × Var)) (i : ℕ) (d : ℤ × Var) → i < length terms → AreTrueIn b old room terms → is_true_in b (atom_at old room (get_or terms i d)) ≡ true
true_at b old room [] i d h all = absurd (omega arith)
true_at b old room (t ∷ terms) zero d h all = all.0
true_at b old room (t ∷ terms) (suc i) d h all = true_at b old room terms i d (omega arith) all.1

-- they are after the terms
pub all_made : (old : Bounds) (room : ℕ) (terms : List (ℤ × Var)) (b : Bounds) → AreTermsOf (length b.lower) terms → IsEven b → AreTrueIn (tightened_by_terms old room terms b) old room terms
all_made old room [] b known even = tt
all_made old room (t ∷ terms) b known even =
    let mid = tightened_by_term old room t.0 t.1 b in
    let a = atom_at old room t in
    let here : a.var.0 < length b.lower = rw (kept_var old room t.0 t.1) known.0 in
    let first : is_true_in mid a ≡ true = rw (term_makes old room t.0 t.1 b known.1) (made_is_true b a here even) in
    let known' : AreTermsOf (length mid.lower) terms = rw (term_counts old room t.0 t.1 b) known.3 in (
      true_in_smaller (tightened_by_terms old room terms mid) mid a (tightened_by_terms_shrinks old room terms mid) first,
      all_made old room terms mid known' (term_even old room t.0 t.1 b even),
    )

-- where all are true, the terms change nothing
pub terms_stay : (old : Bounds) (room : ℕ) (terms : List (ℤ × Var)) (count : ℕ) (b : Bounds) → AreTermsOf count terms → AreTrueIn b old room terms → tightened_by_terms old room terms b ≡ b
terms_stay old room [] count b known h = refl
terms_stay old room (t ∷ terms) count b known h =
    ap (tightened_by_terms old room terms) (term_makes old room t.0 t.1 b known.1 ∙ made_same b (atom_at old room t) h.0)
    ∙ terms_stay old room terms count b known.3 h.1

-- ---- the bounds that greatest values read

-- the two boxes have the same of them for a term
abbrev pub IsFarSame : Bounds → Bounds → ℤ → ℕ → Type 0
IsFarSame old now (pos n) x = upper_of now x ≡ upper_of old x
IsFarSame old now (negsuc n) x = lower_of now x ≡ lower_of old x

abbrev pub AreFarSame : Bounds → Bounds → List (ℤ × Var) → Type 0
AreFarSame old now [] = Unit {0}
AreFarSame old now (t ∷ terms) = IsFarSame old now t.0 t.1.0 × AreFarSame old now terms

far_itself : (b : Bounds) (c : ℤ) (x : ℕ) → IsFarSame b b c x
far_itself b (pos n) x = refl
far_itself b (negsuc n) x = refl

pub far_all_itself : (b : Bounds) (terms : List (ℤ × Var)) → AreFarSame b b terms
far_all_itself b [] = tt
far_all_itself b (t ∷ terms) = (far_itself b t.0 t.1.0, far_all_itself b terms)

far_term : (old now : Bounds) (c : ℤ) (x : ℕ) → IsFarSame old now c x → greatest_term now c x ≡ greatest_term old c x
far_term old now (pos n) x h =
    greatest_term-pos now n x ∙ ap (λ (u : ℤ). pos n *ℤ u) h ∙ sym (greatest_term-pos old n x)
far_term old now (negsuc n) x h = ap (λ (l : ℤ). negsuc n *ℤ l) h

-- so their greatest sum is the same
pub far_activity : (old now : Bounds) (terms : List (ℤ × Var)) → AreFarSame old now terms → greatest_activity now terms ≡ greatest_activity old terms
far_activity old now [] h = refl
far_activity old now (t ∷ terms) h =
    ap (λ (z : ℤ). z +ℤ greatest_activity now terms) (far_term old now t.0 t.1.0 h.0)
    ∙ ap (λ (z : ℤ). greatest_term old t.0 t.1.0 +ℤ z) (far_activity old now terms h.1)

far_kept : (old now : Bounds) (room : ℕ) (c : ℤ) (x : Var) → IsFarSame old now c x.0 → kept_atom now room c x ≡ kept_atom old room c x
far_kept old now room (pos n) x h =
    ap (λ (u : ℤ). record { var = x; at_least = true; k = u -ℤ pos (room / n) }) h
far_kept old now room (negsuc n) x h =
    ap (λ (l : ℤ). record { var = x; at_least = false; k = l +ℤ pos (room / suc n) }) h

far_term_alike : (old now : Bounds) (room : ℕ) (c : ℤ) (x : Var) (b : Bounds) → IsFarSame old now c x.0 → tightened_by_term now room c x b ≡ tightened_by_term old room c x b
far_term_alike old now room (pos zero) x b h = refl
far_term_alike old now room (pos (suc n)) x b h = ap (made_true b) (far_kept old now room (pos (suc n)) x h)
far_term_alike old now room (negsuc n) x b h = ap (made_true b) (far_kept old now room (negsuc n) x h)

-- and what the terms do to a box
pub far_terms_alike : (old now : Bounds) (room : ℕ) (terms : List (ℤ × Var)) (b : Bounds) → AreFarSame old now terms → tightened_by_terms now room terms b ≡ tightened_by_terms old room terms b
far_terms_alike old now room [] b h = refl
far_terms_alike old now room (t ∷ terms) b h =
    ap (tightened_by_terms now room terms) (far_term_alike old now room t.0 t.1 b h.0)
    ∙ far_terms_alike old now room terms (tightened_by_term old room t.0 t.1 b) h.1

pub far_at : (old now : Bounds) (terms : List (ℤ × Var)) (i : ℕ) (d : ℤ × Var) → i < length terms → AreFarSame old now terms → IsFarSame old now (get_or terms i d).0 (get_or terms i d).1.0
far_at old now [] i d h far = absurd (omega arith)
far_at old now (t ∷ terms) zero d h far = far.0
far_at old now (t ∷ terms) (suc i) d h far = far_at old now terms i d (omega arith) far.1

pub term_alike : (old now : Bounds) (room : ℕ) (terms : List (ℤ × Var)) (i : ℕ) (d : ℤ × Var) (b : Bounds) → i < length terms → AreFarSame old now terms → tightened_by_term now room (get_or terms i d).0 (get_or terms i d).1 b ≡ tightened_by_term old room (get_or terms i d).0 (get_or terms i d).1 b
term_alike old now room terms i d b h far =
    far_term_alike old now room (get_or terms i d).0 (get_or terms i d).1 b (far_at old now terms i d h far)

far_elsewhere : (old now new : Bounds) (c : ℤ) (x : ℕ) → AgreesAt now new x → IsFarSame old now c x → IsFarSame old new c x
far_elsewhere old now new (pos n) x h far = h.1 ∙ far
far_elsewhere old now new (negsuc n) x h far = h.0 ∙ far

far_all_elsewhere : (old now : Bounds) (a : Atom) (terms : List (ℤ × Var)) → IsAbsent a.var.0 terms → AreFarSame old now terms → AreFarSame old (made_true now a) terms
far_all_elsewhere old now a [] absent far = tt
far_all_elsewhere old now a (t ∷ terms) absent far =
    (far_elsewhere old now (made_true now a) t.0 t.1.0 (made_elsewhere now a t.1.0 absent.0) far.0, far_all_elsewhere old now a terms absent.1 far.1)

far_here : (old now from : Bounds) (room : ℕ) (c : ℤ) (x : Var) → IsFarSame old now c x.0 → IsFarSame old (made_true now (kept_atom from room c x)) c x.0
far_here old now from room (pos n) x h = h
far_here old now from room (negsuc n) x h = h

-- a term's atom moves none of them
pub far_after : (old now from : Bounds) (room count : ℕ) (terms : List (ℤ × Var)) (i : ℕ) (d : ℤ × Var) → i < length terms → AreTermsOf count terms → AreFarSame old now terms → AreFarSame old (made_true now (atom_at from room (get_or terms i d))) terms
far_after old now from room count [] i d h known far = tt
far_after old now from room count (t ∷ terms) zero d h known far =
    let a = atom_at from room t in
    let absent : IsAbsent a.var.0 terms = rw (kept_var from room t.0 t.1) known.2 in
    (far_here old now from room t.0 t.1 far.0, far_all_elsewhere old now a terms absent far.1)
far_after old now from room count (t ∷ terms) (suc i) d h known far =
    let u = get_or terms i d in
    let a = atom_at from room u in
    let other : u.1.0 ≢ t.1.0 = absent_at t.1.0 terms i d (omega arith) known.2 in
    let other' : t.1.0 ≢ a.var.0 = rw (kept_var from room u.0 u.1) (turned u.1.0 t.1.0 other) in (
      far_elsewhere old now (made_true now a) t.0 t.1.0 (made_elsewhere now a t.1.0 other') far.0,
      far_after old now from room count terms i d (omega arith) known.3 far.1,
    )
