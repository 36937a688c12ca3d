-- What a row gives in a box where its guard and the bounds of its terms are held.
use Rattle.std.proofs.Common.{◌≡◌, ◌≢◌, ℕ, zero, suc, ◌+◌, ◌*◌, ◌/◌, ◌<◌, Bool, true, false, not, cond, List, [], ◌∷◌, length, refl, ap, sym, ◌∙◌, subst, arith}
use Rattle.std.specs.Prelude.{ℤ, pos, negsuc, ◌+ℤ◌, ◌-ℤ◌, ◌*ℤ◌, ◌≤ℤ◌, ◌<ℤ◌, int_lt, unsigned_abs, ◌==◌, if◌then◌else◌, IfSome, IsSomeAnd}
use Rattle.std.specs.declared.option.Option.{Option}
use Rattle.std.specs.declared.option.Option.TheVariants.{Some, None}
use Rattle.std.specs.Int.{int_max, int_min}
use Rattle.std.proofs.lemmas.Bool.{eqb-true, false≢true, ne_eqb}
use Rattle.std.proofs.lemmas.Int.{ints, clamps}
use Rattle.std.proofs.lemmas.List.{get_or-set_same}
use Rattle.std.proofs.Math.Nat.{div-add-mod, lt_of_mul-lt-mul_left}
use borrow.Author.Differences.{up, down}
use Rattle.cgm_atom.specs.declared.constraints.Atom.{Atom}
use Rattle.cgm_atom.specs.declared.constraints.Row.{Row}
use Rattle.cgm_atom.specs.declared.constraints.Var.{Var}
use Rattle.cgm_atom.specs.Atoms.{negation}
use Rattle.cgm_atom.specs.Bounds.{Bounds, AreProperBounds, lower_of, upper_of}
use Rattle.cgm_atom.specs.Laws.{IsSmaller}
use Rattle.cgm_atom.specs.Limits.{AreTermsOf, IsAbsent}
use Rattle.cgm_atom.specs.Narrowing.{greatest_activity, greatest_term, is_claimed_in, is_true_in, kept_atom, left_by_row, left_by_unmet, made_true, raised, reduced, tightened_by_term, tightened_by_terms}
use Rattle.cgm_atom.proofs.Keeping.{greatest_term-pos}
use Rattle.cgm_atom.proofs.RowTightening.{left_by_row-claimed, left_by_row-open, left_by_row-unmet}
use Rattle.cgm_atom.proofs.Shrinking.{IsSmaller-same, claimed_in_smaller, made_true_shrinks, tightened_by_terms_shrinks, true_in_smaller}
use Rattle.cgm_atom.proofs.SignedSteps.{le_is_true, ≤ℤ_trans}
use Rattle.cgm_learn.specs.Terms.{HoldsIn, is_far_of}
use Rattle.cgm_learn.proofs.Boxes.{made_counts, read_le, read_lt, read_not_lt}
use Rattle.cgm_learn.proofs.Needs.{made_gives}
use Rattle.cgm_learn.proofs.RowNeeds.{both_parts, made_holds, negative_is, not_negative, unmoved}

-- ---- the whole row

claimed_none : (b : Bounds) (g : Option Atom) → is_claimed_in b g ≡ true → left_by_unmet b g ≡ None
claimed_none b None e = refl
claimed_none b (Some g) e = rw e refl

-- a claimed row that no values meet is in conflict
pub row_conflict : (b : Bounds) (r : Row) → greatest_activity b r.terms <ℤ r.least → is_claimed_in b r.guard ≡ true → left_by_row b r ≡ None
row_conflict b r unmet claimed = left_by_row-unmet b r (greatest_activity b r.terms) refl unmet ∙ claimed_none b r.guard claimed

-- what a row says that is in conflict
pub record IsRefused (b : Bounds) (r : Row) : Type 0 where
  pub unmet : greatest_activity b r.terms <ℤ r.least
  pub claimed : is_claimed_in b r.guard ≡ true

guard_claimed : (b : Bounds) (g : Option Atom) (t : Bool) → is_claimed_in b g ≡ t → left_by_unmet b g ≡ None → t ≡ true
guard_claimed b g true e h = refl
guard_claimed b None false e h = sym e
guard_claimed b (Some g) false e h =
    let some = sym (ap (λ (s : Bool). cond s None (Some (made_true b (negation g)))) e) ∙ h in
    absurd (cc)

row_refused_by : (b : Bounds) (r : Row) (t c : Bool) → int_lt (greatest_activity b r.terms) r.least ≡ t → is_claimed_in b r.guard ≡ c → left_by_row b r ≡ None → IsRefused b r
row_refused_by b r true c e f h =
    let unmet = read_lt (greatest_activity b r.terms) r.least e in
    record { unmet = unmet; claimed = f ∙ guard_claimed b r.guard c f (sym (left_by_row-unmet b r (greatest_activity b r.terms) refl unmet) ∙ h) }
row_refused_by b r false true e f h =
    let some = sym (left_by_row-claimed b r (greatest_activity b r.terms) refl (read_not_lt (greatest_activity b r.terms) r.least e) f) ∙ h in
    absurd (cc)
row_refused_by b r false false e f h =
    let some = sym (left_by_row-open b r (greatest_activity b r.terms) refl (read_not_lt (greatest_activity b r.terms) r.least e) f) ∙ h in
    absurd (cc)

pub row_refused : (b : Bounds) (r : Row) → left_by_row b r ≡ None → IsRefused b r
row_refused b r h = row_refused_by b r (int_lt (greatest_activity b r.terms) r.least) (is_claimed_in b r.guard) refl refl h

-- a row whose guard is given as false gives it in a larger box too
guard_gives : (work need : Bounds) (g a : Atom) (s t : Bool) → AreProperBounds work → IsSmaller work need → g.var.0 < length work.lower → is_true_in work a ≡ false → IsSomeAnd (if s then None else Some (made_true work (negation g))) (λ left. is_true_in left a ≡ true) → IfSome (if t then None else Some (made_true need (negation g))) (λ left. is_true_in left a ≡ true)
guard_gives work need g a true t proper h known unmet given = absurd given
guard_gives work need g a false true proper h known unmet given = tt
guard_gives work need g a false false proper h known unmet given = made_gives work need (negation g) a proper h known given unmet

unmet_gives : (work need : Bounds) (g : Option Atom) (a : Atom) → AreProperBounds work → IsSmaller work need → IfSome g (λ x. x.var.0 < length work.lower) → is_true_in work a ≡ false → IsSomeAnd (left_by_unmet work g) (λ left. is_true_in left a ≡ true) → IfSome (left_by_unmet need g) (λ left. is_true_in left a ≡ true)
unmet_gives work need None a proper h known unmet given = tt
unmet_gives work need (Some g) a proper h known unmet given = guard_gives work need g a (is_true_in work g) (is_true_in need g) proper h known unmet given

-- where no values meet the row
pub row_gives_guard : (work need : Bounds) (r : Row) (a : Atom) → AreProperBounds work → IsSmaller work need → IfSome r.guard (λ x. x.var.0 < length work.lower) → is_true_in work a ≡ false → greatest_activity work r.terms <ℤ r.least → greatest_activity need r.terms <ℤ r.least → IsSomeAnd (left_by_row work r) (λ left. is_true_in left a ≡ true) → IfSome (left_by_row need r) (λ left. is_true_in left a ≡ true)
row_gives_guard work need r a proper h known unmet here there given =
    subst (λ o. IfSome o (λ left. is_true_in left a ≡ true)) (sym (left_by_row-unmet need r (greatest_activity need r.terms) refl there))
    (unmet_gives work need r.guard a proper h known unmet
    (subst (λ o. IsSomeAnd o (λ left. is_true_in left a ≡ true)) (left_by_row-unmet work r (greatest_activity work r.terms) refl here) given))

row_claimed_by : (b : Bounds) (r : Row) (a : Atom) (t : Bool) → is_claimed_in b r.guard ≡ t → r.least ≤ℤ greatest_activity b r.terms → is_true_in b a ≡ false → IsSomeAnd (left_by_row b r) (λ left. is_true_in left a ≡ true) → t ≡ true
row_claimed_by b r a true e met unmet given = refl
row_claimed_by b r a false e met unmet given =
    let same : is_true_in b a ≡ true = subst (λ o. IsSomeAnd o (λ left. is_true_in left a ≡ true)) (left_by_row-open b r (greatest_activity b r.terms) refl met e) given in
    absurd (cc)

-- a row that some values meet, and that gives an atom, is claimed
pub row_claimed : (b : Bounds) (r : Row) (a : Atom) → r.least ≤ℤ greatest_activity b r.terms → is_true_in b a ≡ false → IsSomeAnd (left_by_row b r) (λ left. is_true_in left a ≡ true) → is_claimed_in b r.guard ≡ true
row_claimed b r a met unmet given = row_claimed_by b r a (is_claimed_in b r.guard) refl met unmet given

-- ---- a term of the row gives the atom

reach_up : (n room : ℕ) (u m : ℤ) → (pos room +ℤ (pos (suc n) *ℤ m)) <ℤ (pos (suc n) *ℤ u) → m <ℤ (u -ℤ pos (room / suc n))
reach_up n room u m h =
    let scaled : room + suc n * (up m + down u) < suc n * (up u + down m) = omega (arith, ints) in
    let strict : suc n * (up m + down u + room / suc n) < suc n * (up u + down m) = omega (arith, scaled, div-add-mod room (suc n)) in
    let less : up m + down u + room / suc n < up u + down m = lt_of_mul-lt-mul_left (suc n) strict in
    omega (arith, ints)

reach_down : (n room : ℕ) (l m : ℤ) → (pos room +ℤ (negsuc n *ℤ m)) <ℤ (negsuc n *ℤ l) → (l +ℤ pos (room / suc n)) <ℤ m
reach_down n room l m h =
    let scaled : room + suc n * (up l + down m) < suc n * (up m + down l) = omega (arith, ints) in
    let strict : suc n * (up l + down m + room / suc n) < suc n * (up m + down l) = omega (arith, scaled, div-add-mod room (suc n)) in
    let less : up l + down m + room / suc n < up m + down l = lt_of_mul-lt-mul_left (suc n) strict in
    omega (arith, ints)

above_min : (u k q : ℤ) → int_min u (k -ℤ pos 1) <ℤ q → q ≤ℤ u → k ≤ℤ q
above_min u k q h g = omega (arith, ints, clamps)

below_max : (l k q : ℤ) → q <ℤ int_max l (k +ℤ pos 1) → l ≤ℤ q → q ≤ℤ k
below_max l k q h g = omega (arith, ints, clamps)

less_room : (u : ℤ) (q : ℕ) → (u -ℤ pos q) ≤ℤ u
less_room u q = omega (arith, ints)

more_room : (l : ℤ) (q : ℕ) → l ≤ℤ (l +ℤ pos q)
more_room l q = omega (arith, ints)

-- a kept atom that is far enough makes the atom true
kept_up : (b : Bounds) (x : Var) (k q : ℤ) → x.0 < length b.lower → length b.upper ≡ length b.lower → k ≤ℤ q → is_true_in (made_true b (record { var = x; at_least = true; k = q })) (record { var = x; at_least = true; k = k }) ≡ true
kept_up b x k q known even h =
    let holds : is_true_in (made_true b (record { var = x; at_least = true; k = q })) (record { var = x; at_least = true; k = q }) ≡ true = made_holds b (record { var = x; at_least = true; k = q }) known even in
    le_is_true k (lower_of (raised b x.0 q) x.0) (≤ℤ_trans k q (lower_of (raised b x.0 q) x.0) h (read_le q (lower_of (raised b x.0 q) x.0) holds))

kept_down : (b : Bounds) (x : Var) (k q : ℤ) → x.0 < length b.lower → length b.upper ≡ length b.lower → q ≤ℤ k → is_true_in (made_true b (record { var = x; at_least = false; k = q })) (record { var = x; at_least = false; k = k }) ≡ true
kept_down b x k q known even h =
    let holds : is_true_in (made_true b (record { var = x; at_least = false; k = q })) (record { var = x; at_least = false; k = q }) ≡ true = made_holds b (record { var = x; at_least = false; k = q }) known even in
    le_is_true (upper_of (reduced b x.0 q) x.0) k (≤ℤ_trans (upper_of (reduced b x.0 q) x.0) q k (read_le (upper_of (reduced b x.0 q) x.0) q holds) h)

kept_reaches : (old b : Bounds) (room : ℕ) (c : ℤ) (x : Var) (u : Bool) (k : ℤ) → c ≢ pos 0 → x.0 < length old.lower → length old.upper ≡ length old.lower → x.0 < length b.lower → length b.upper ≡ length b.lower → cond (int_lt c (pos 0)) (not u) (not (not u)) ≡ true
    → (pos room +ℤ greatest_term (made_true old (negation (record { var = x; at_least = u; k = k }))) c x.0) <ℤ greatest_term old c x.0
    → is_true_in (tightened_by_term old room c x b) (record { var = x; at_least = u; k = k }) ≡ true
kept_reaches old b room (pos zero) x u k some known even known' even' side h = absurd (some refl)
kept_reaches old b room (pos (suc n)) x true k some known even known' even' side h =
    let known-up : x.0 < length old.upper = omega (arith, known, even) in
    let made : greatest_term (reduced old x.0 (k -ℤ pos 1)) (pos (suc n)) x.0 ≡ pos (suc n) *ℤ int_min (upper_of old x.0) (k -ℤ pos 1) =
    greatest_term-pos (reduced old x.0 (k -ℤ pos 1)) (suc n) x.0 ∙ ap (λ v. pos (suc n) *ℤ v) (get_or-set_same old.upper x.0 (int_min (upper_of old x.0) (k -ℤ pos 1)) (pos 0) known-up) in
    let there : (pos room +ℤ greatest_term (reduced old x.0 (k -ℤ pos 1)) (pos (suc n)) x.0) <ℤ (pos (suc n) *ℤ upper_of old x.0) =
    subst (λ (v : ℤ). (pos room +ℤ greatest_term (reduced old x.0 (k -ℤ pos 1)) (pos (suc n)) x.0) <ℤ v) (greatest_term-pos old (suc n) x.0) h in
    let less = reach_up n room (upper_of old x.0) (int_min (upper_of old x.0) (k -ℤ pos 1)) (subst (λ (v : ℤ). (pos room +ℤ v) <ℤ (pos (suc n) *ℤ upper_of old x.0)) made there) in
    kept_up b x k (upper_of old x.0 -ℤ pos (room / suc n)) known' even' (above_min (upper_of old x.0) k (upper_of old x.0 -ℤ pos (room / suc n)) less (less_room (upper_of old x.0) (room / suc n)))
kept_reaches old b room (pos (suc n)) x false k some known even known' even' side h = absurd (false≢true (sym (ap (λ (s : Bool). cond s true false) (not_negative (suc n))) ∙ side))
kept_reaches old b room (negsuc n) x true k some known even known' even' side h = absurd (false≢true (sym (ap (λ (s : Bool). cond s false true) (negative_is n)) ∙ side))
kept_reaches old b room (negsuc n) x false k some known even known' even' side h =
    let made : greatest_term (raised old x.0 (k +ℤ pos 1)) (negsuc n) x.0 ≡ negsuc n *ℤ int_max (lower_of old x.0) (k +ℤ pos 1) =
    ap (λ v. negsuc n *ℤ v) (get_or-set_same old.lower x.0 (int_max (lower_of old x.0) (k +ℤ pos 1)) (pos 0) known) in
    let more = reach_down n room (lower_of old x.0) (int_max (lower_of old x.0) (k +ℤ pos 1)) (subst (λ (v : ℤ). (pos room +ℤ v) <ℤ (negsuc n *ℤ lower_of old x.0)) made h) in
    kept_down b x k (lower_of old x.0 +ℤ pos (room / suc n)) known' even' (below_max (lower_of old x.0) k (lower_of old x.0 +ℤ pos (room / suc n)) more (more_room (lower_of old x.0) (room / suc n)))

side_or_false : (s t : Bool) → t ≡ false → cond s t false ≡ false
side_or_false true t e = e
side_or_false false t e = refl

same_parts : (x y u v : ℤ) → x ≡ y → u ≡ v → (x +ℤ u) ≡ (y +ℤ v)
same_parts x y u v e f = ap (λ (z : ℤ). z +ℤ u) e ∙ ap (λ (z : ℤ). y +ℤ z) f

-- a variable that no term has
absent_sum : (b : Bounds) (a : Atom) (terms : List (ℤ × Var)) → IsAbsent a.var.0 terms → greatest_activity (made_true b a) terms ≡ greatest_activity b terms
absent_sum b a [] h = refl
absent_sum b a (t ∷ terms) h =
    let apart : (a.var.0 == t.1.0) ≡ false = ne_eqb a.var.0 t.1.0 (λ e. h.0 (sym e)) in
    same_parts (greatest_term (made_true b a) t.0 t.1.0) (greatest_term b t.0 t.1.0) (greatest_activity (made_true b a) terms) (greatest_activity b terms) (unmoved b t a (side_or_false (cond (int_lt t.0 (pos 0)) a.at_least (not a.at_least)) (a.var.0 == t.1.0) apart)) (absent_sum b a terms h.1)

tight_counts : (old : Bounds) (room : ℕ) (c : ℤ) (x : Var) (b : Bounds) → length b.upper ≡ length b.lower → (length (tightened_by_term old room c x b).upper ≡ length (tightened_by_term old room c x b).lower) × (length (tightened_by_term old room c x b).lower ≡ length b.lower)
tight_counts old room (pos zero) x b e = (e, refl)
tight_counts old room (pos (suc n)) x b e = made_counts b (kept_atom old room (pos (suc n)) x) e
tight_counts old room (negsuc n) x b e = made_counts b (kept_atom old room (negsuc n) x) e

no_gain : (room : ℕ) → (pos room +ℤ pos 0) <ℤ pos 0 → ⊥
no_gain room h = omega (arith, ints)

gain_first : (r m a n b : ℤ) → (r +ℤ (m +ℤ a)) <ℤ (n +ℤ b) → a ≡ b → (r +ℤ m) <ℤ n
gain_first r m a n b h e = omega (arith, ints, h, e)

gain_rest : (r m a n b : ℤ) → (r +ℤ (m +ℤ a)) <ℤ (n +ℤ b) → m ≡ n → (r +ℤ a) <ℤ b
gain_rest r m a n b h e = omega (arith, ints, h, e)

terms_reach_by : (old b : Bounds) (room : ℕ) (t : ℤ × Var) (terms : List (ℤ × Var)) (a : Atom) (far : Bool) → is_far_of t (negation a) ≡ far → AreTermsOf (length old.lower) (t ∷ terms) → length old.upper ≡ length old.lower → length b.lower ≡ length old.lower → length b.upper ≡ length b.lower
    → (pos room +ℤ greatest_activity (made_true old (negation a)) (t ∷ terms)) <ℤ greatest_activity old (t ∷ terms)
    → ((pos room +ℤ greatest_activity (made_true old (negation a)) terms) <ℤ greatest_activity old terms → is_true_in (tightened_by_terms old room terms (tightened_by_term old room t.0 t.1 b)) a ≡ true)
    → is_true_in (tightened_by_terms old room (t ∷ terms) b) a ≡ true
terms_reach_by old b room t terms a true e known even count even' gain later =
    let parts = both_parts (cond (int_lt t.0 (pos 0)) (not a.at_least) (not (not a.at_least))) (a.var.0 == t.1.0) e in
    let same : a.var.0 ≡ t.1.0 = eqb-true a.var.0 t.1.0 parts.1 in
    let same_var : t.1 ≡ a.var = ap (λ (n : ℕ). record { 0 = n }) (sym same) in
    let others : greatest_activity (made_true old (negation a)) terms ≡ greatest_activity old terms = absent_sum old (negation a) terms (subst (λ n. IsAbsent n terms) (sym same) known.2) in
    let first = gain_first (pos room) (greatest_term (made_true old (negation a)) t.0 t.1.0) (greatest_activity (made_true old (negation a)) terms) (greatest_term old t.0 t.1.0) (greatest_activity old terms) gain others in
    let now : is_true_in (tightened_by_term old room t.0 t.1 b) a ≡ true =
    subst (λ (v : Var). is_true_in (tightened_by_term old room t.0 v b) a ≡ true) (sym same_var)
    (kept_reaches old b room t.0 a.var a.at_least a.k known.1 (omega (arith, same, known.0)) even (omega (arith, same, known.0, count)) even' parts.0
    (subst (λ (v : Var). (pos room +ℤ greatest_term (made_true old (negation a)) t.0 v.0) <ℤ greatest_term old t.0 v.0) same_var first)) in
    true_in_smaller (tightened_by_terms old room terms (tightened_by_term old room t.0 t.1 b)) (tightened_by_term old room t.0 t.1 b) a (tightened_by_terms_shrinks old room terms (tightened_by_term old room t.0 t.1 b)) now
terms_reach_by old b room t terms a false e known even count even' gain later =
    later (gain_rest (pos room) (greatest_term (made_true old (negation a)) t.0 t.1.0) (greatest_activity (made_true old (negation a)) terms) (greatest_term old t.0 t.1.0) (greatest_activity old terms) gain (unmoved old t (negation a) e))

terms_reach : (old b : Bounds) (room : ℕ) (terms : List (ℤ × Var)) (a : Atom) → AreTermsOf (length old.lower) terms → length old.upper ≡ length old.lower → length b.lower ≡ length old.lower → length b.upper ≡ length b.lower → (pos room +ℤ greatest_activity (made_true old (negation a)) terms) <ℤ greatest_activity old terms → is_true_in (tightened_by_terms old room terms b) a ≡ true
terms_reach old b room [] a known even count even' gain = absurd (no_gain room gain)
terms_reach old b room (t ∷ terms) a known even count even' gain =
    let counts = tight_counts old room t.0 t.1 b even' in
    terms_reach_by old b room t terms a (is_far_of t (negation a)) refl known even count even' gain
    (λ rest. terms_reach old (tightened_by_term old room t.0 t.1 b) room terms a known.3 even (counts.1 ∙ count) counts.0 rest)

room_gain : (most least made : ℤ) → least ≤ℤ most → made <ℤ least → (pos (unsigned_abs (most -ℤ least)) +ℤ made) <ℤ most
room_gain most least made h k = omega (arith, ints)

row_gives_by : (b : Bounds) (r : Row) (a : Atom) (t : Bool) → int_lt (greatest_activity b r.terms) r.least ≡ t → AreTermsOf (length b.lower) r.terms → length b.upper ≡ length b.lower → is_claimed_in b r.guard ≡ true → greatest_activity (made_true b (negation a)) r.terms <ℤ r.least → IfSome (left_by_row b r) (λ left. is_true_in left a ≡ true)
row_gives_by b r a true e known even claimed h =
    subst (λ o. IfSome o (λ left. is_true_in left a ≡ true)) (sym (row_conflict b r (read_lt (greatest_activity b r.terms) r.least e) claimed)) tt
row_gives_by b r a false e known even claimed h =
    let met = read_not_lt (greatest_activity b r.terms) r.least e in
    subst (λ o. IfSome o (λ left. is_true_in left a ≡ true)) (sym (left_by_row-claimed b r (greatest_activity b r.terms) refl met claimed))
    (terms_reach b b (unsigned_abs (greatest_activity b r.terms -ℤ r.least)) r.terms a known even refl even (room_gain (greatest_activity b r.terms) r.least (greatest_activity (made_true b (negation a)) r.terms) met h))

-- a claimed row that no values meet with the atom's negation gives the atom
pub row_gives : (b : Bounds) (r : Row) (a : Atom) → AreTermsOf (length b.lower) r.terms → length b.upper ≡ length b.lower → is_claimed_in b r.guard ≡ true → greatest_activity (made_true b (negation a)) r.terms <ℤ r.least → IfSome (left_by_row b r) (λ left. is_true_in left a ≡ true)
row_gives b r a known even claimed h = row_gives_by b r a (int_lt (greatest_activity b r.terms) r.least) refl known even claimed h

-- ---- what the code adds

-- the guard is claimed where it was made true
pub guard_made : (work need new : Bounds) (g : Atom) → AreProperBounds work → IsSmaller work need → g.var.0 < length work.lower → new ≡ made_true need g → is_true_in new g ≡ true
guard_made work need new g proper h known e =
    rw e (made_holds need g (omega (arith, known, h.lower_count)) (omega (arith, h.lower_count, h.upper_count, proper.same_count)))

refused_sum : (a m l : ℤ) (s : ℕ) → a ≤ℤ (m +ℤ pos s) → ((pos s +ℤ m) +ℤ pos 1) ≡ l → a <ℤ l
refused_sum a m l s h e = omega (arith, ints, h, e)

-- a row that was in conflict, where its guard and its terms are held
pub row_refused_still : (work mid new : Bounds) (r : Row) (most : ℤ) (slack : ℕ) → most ≡ greatest_activity work r.terms → ((pos slack +ℤ most) +ℤ pos 1) ≡ r.least → is_claimed_in mid r.guard ≡ true → IsSmaller new mid → ((b : Bounds) → IsSmaller b new → HoldsIn None b → greatest_activity b r.terms ≤ℤ (greatest_activity work r.terms +ℤ pos slack)) → left_by_row new r ≡ None
row_refused_still work mid new r most slack e f claimed smaller sum =
    row_conflict new r
    (refused_sum (greatest_activity new r.terms) most r.least slack (rw e (sum new (IsSmaller-same new) tt)) f)
    (claimed_in_smaller new mid r.guard smaller claimed)

-- a row whose guard was given
pub row_guard_still : (work new : Bounds) (r : Row) (a : Atom) (most : ℤ) (slack : ℕ) → AreProperBounds work → IsSmaller work new → IfSome r.guard (λ x. x.var.0 < length work.lower) → is_true_in work a ≡ false → most ≡ greatest_activity work r.terms → most <ℤ r.least → ((pos slack +ℤ most) +ℤ pos 1) ≡ r.least → IsSomeAnd (left_by_row work r) (λ left. is_true_in left a ≡ true) → ((b : Bounds) → IsSmaller b new → HoldsIn None b → greatest_activity b r.terms ≤ℤ (greatest_activity work r.terms +ℤ pos slack)) → IfSome (left_by_row new r) (λ left. is_true_in left a ≡ true)
row_guard_still work new r a most slack proper inside known unmet e less f given sum =
    row_gives_guard work new r a proper inside known unmet (subst (λ m. m <ℤ r.least) e less)
    (refused_sum (greatest_activity new r.terms) most r.least slack (rw e (sum new (IsSmaller-same new) tt)) f) given

-- a row that is claimed, with the negation of what it gives left out
pub row_atom_still : (work mid new : Bounds) (r : Row) (a o : Atom) (most : ℤ) (slack : ℕ) → AreProperBounds work → IsSmaller work new → AreTermsOf (length work.lower) r.terms → a.var.0 < length work.lower → o ≡ negation a → most ≡ greatest_activity (made_true work o) r.terms → ((pos slack +ℤ most) +ℤ pos 1) ≡ r.least → is_claimed_in mid r.guard ≡ true → IsSmaller new mid → ((b : Bounds) → IsSmaller b new → HoldsIn (Some o) b → greatest_activity b r.terms ≤ℤ (greatest_activity (made_true work o) r.terms +ℤ pos slack)) → IfSome (left_by_row new r) (λ left. is_true_in left a ≡ true)
row_atom_still work mid new r a o most slack proper inside terms known same e f claimed smaller sum =
    let even : length new.upper ≡ length new.lower = sym inside.upper_count ∙ proper.same_count ∙ inside.lower_count in
    let here : a.var.0 < length new.lower = omega (arith, known, inside.lower_count) in
    let var : o.var.0 ≡ a.var.0 = ap (λ (x : Atom). x.var.0) same in
    row_gives new r a (subst (λ n. AreTermsOf n r.terms) inside.lower_count terms) even (claimed_in_smaller new mid r.guard smaller claimed)
    (subst (λ x. greatest_activity (made_true new x) r.terms <ℤ r.least) same
    (refused_sum (greatest_activity (made_true new o) r.terms) most r.least slack
    (rw e (sum (made_true new o) (made_true_shrinks new o) (made_holds new o (omega (arith, here, var)) even))) f))

-- the two orders
pub not_both_orders : (a l : ℤ) → l ≤ℤ a → a <ℤ l → ⊥
not_both_orders a l h k = omega (arith, ints, h, k)

pub below_by_slack : (a l : ℤ) (s : ℕ) → ((pos s +ℤ a) +ℤ pos 1) ≡ l → a <ℤ l
below_by_slack a l s e = omega (arith, ints, e)

pub some_if : (o : Option Bounds) (P : Bounds → Type 0) → IsSomeAnd o P → IfSome o P
some_if None P h = tt
some_if (Some b) P h = h
