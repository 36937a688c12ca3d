-- Narrowing touches the variables of what it narrows by alone, and a box with none touched is as it was.
use Rattle.std.proofs.Common.{◌≡◌, ◌⊎◌, ℕ, zero, suc, ◌<◌, Bool, true, false, cond, not, List, [], ◌∷◌, ◌++◌, ◌+◌, drop, take, get_or, length, refl, ap, sym, subst, inl, inr, ◌∙◌, arith, append-nil, append_assoc}
use Rattle.std.specs.Prelude.{◌/◌, ℤ, pos, negsuc, ◌+ℤ◌, ◌-ℤ◌, int_lt, slice_get, slice_set, if◌then◌else◌}
use Rattle.std.specs.declared.option.Option.{Option}
use Rattle.std.specs.declared.option.Option.TheVariants.{Some, None}
use Rattle.std.specs.List.{filter}
use Rattle.std.specs.Option.{option_and_then, option_map_or}
use Rattle.std.proofs.lemmas.Bool.{false≢true}
use Rattle.std.proofs.lemmas.List.{drop_more, get_or-set_same, take_more}
use Rattle.std.proofs.lemmas.Option.{get_or_from_slice_get, slice_get_within}
use Rattle.cgm_atom.specs.declared.constraints.Atom.{Atom}
use Rattle.cgm_atom.specs.declared.constraints.Clause.{Clause}
use Rattle.cgm_atom.specs.declared.constraints.Row.{Row}
use Rattle.cgm_atom.specs.declared.constraints.Var.{Var}
use Rattle.cgm_atom.specs.declared.entries.Hint.{Hint}
use Rattle.cgm_atom.specs.declared.outcome.Narrowed.{Narrowed}
use Rattle.cgm_atom.specs.declared.outcome.Narrowed.TheVariants.{Same, Tighter, Conflict}
use Rattle.cgm_atom.specs.Atoms.{negation}
use Rattle.cgm_atom.specs.Bounds.{Bounds, IsBoxOf, AreProperBounds, lower_of, upper_of, value_of}
use Rattle.cgm_atom.specs.Constraints.{Constraint, left_by, left_by_named, of_clause, of_row}
use Rattle.cgm_atom.specs.Instance.{Instance}
use Rattle.cgm_atom.specs.Limits.{AreTermsOf}
use Rattle.cgm_atom.specs.LogState.{LogState, all_narrowed, named, narrowed}
use Rattle.cgm_atom.specs.Narrowing.{greatest_activity, is_claimed_in, is_false_in, is_true_in, left_by_atoms, left_by_clause, left_by_met, left_by_row, left_by_unmet, made_true, tightened_by_term, tightened_by_terms}
use Rattle.cgm_atom.specs.Outcome.{IsNarrowing}
use Rattle.cgm_atom.specs.Relaxing.{relaxed}
use Rattle.cgm_atom.proofs.Assuming.{value_of-set}
use Rattle.cgm_atom.proofs.Tightening.{IsBoxOf-itself}
use Rattle.cgm_step.specs.Touching.{ChangesOnly, IsAmong, IsSameAt, vars_of, vars_of_atoms, vars_of_guard, vars_of_hint, vars_of_hints, vars_of_terms}

-- ---- variables among others

among_left : (x : ℕ) (xs ys : List ℕ) → IsAmong x xs → IsAmong x (xs ++ ys)
among_left x [] ys h = absurd h
among_left x (y ∷ xs) ys (inl e) = inl e
among_left x (y ∷ xs) ys (inr h) = inr (among_left x xs ys h)

among_right : (x : ℕ) (xs ys : List ℕ) → IsAmong x ys → IsAmong x (xs ++ ys)
among_right x [] ys h = h
among_right x (y ∷ xs) ys h = inr (among_right x xs ys h)

pub first_among : (x v : ℕ) (vars : List ℕ) → IsAmong x (v ∷ []) → IsAmong x (v ∷ vars)
first_among x v vars (inl e) = inl e
first_among x v vars (inr h) = absurd h

among_kept : (x : ℕ) (a : Atom) (atoms kept : List Atom) (t : Bool) → (IsAmong x (vars_of_atoms kept) → IsAmong x (vars_of_atoms atoms)) → IsAmong x (vars_of_atoms (cond t (a ∷ kept) kept)) → IsAmong x (vars_of_atoms (a ∷ atoms))
among_kept x a atoms kept true rest (inl e) = inl e
among_kept x a atoms kept true rest (inr h) = inr (rest h)
among_kept x a atoms kept false rest h = inr (rest h)

among_filtered : (x : ℕ) (f : Atom → Bool) (atoms : List Atom) → IsAmong x (vars_of_atoms (filter f atoms)) → IsAmong x (vars_of_atoms atoms)
among_filtered x f [] h = h
among_filtered x f (a ∷ atoms) h = among_kept x a atoms (filter f atoms) (f a) (among_filtered x f atoms) h

-- ---- changes

pub changes_none : (vars : List ℕ) (b : Bounds) → ChangesOnly vars b b
changes_none vars b x = inr (refl, refl)

more_at : (x : ℕ) (vars others : List ℕ) (old new : Bounds) → (IsAmong x vars → IsAmong x others) → IsAmong x vars ⊎ IsSameAt old new x → IsAmong x others ⊎ IsSameAt old new x
more_at x vars others old new more (inl h) = inl (more h)
more_at x vars others old new more (inr same) = inr same

pub changes_more : (vars others : List ℕ) (old new : Bounds) → ((x : ℕ) → IsAmong x vars → IsAmong x others) → ChangesOnly vars old new → ChangesOnly others old new
changes_more vars others old new more h x = more_at x vars others old new (more x) (h x)

then_at : (x : ℕ) (vars others : List ℕ) (old mid new : Bounds) → IsAmong x vars ⊎ IsSameAt old mid x → IsAmong x others ⊎ IsSameAt mid new x → IsAmong x (vars ++ others) ⊎ IsSameAt old new x
then_at x vars others old mid new (inl h) k = inl (among_left x vars others h)
then_at x vars others old mid new (inr e) (inl k) = inl (among_right x vars others k)
then_at x vars others old mid new (inr e) (inr k) = inr (k.0 ∙ e.0, k.1 ∙ e.1)

-- changes after others
pub changes_then : (vars others : List ℕ) (old mid new : Bounds) → ChangesOnly vars old mid → ChangesOnly others mid new → ChangesOnly (vars ++ others) old new
changes_then vars others old mid new h k x = then_at x vars others old mid new (h x) (k x)

both_at : (x : ℕ) (vars : List ℕ) (old mid new : Bounds) → IsAmong x vars ⊎ IsSameAt old mid x → IsAmong x vars ⊎ IsSameAt mid new x → IsAmong x vars ⊎ IsSameAt old new x
both_at x vars old mid new (inl h) k = inl h
both_at x vars old mid new (inr e) (inl k) = inl k
both_at x vars old mid new (inr e) (inr k) = inr (k.0 ∙ e.0, k.1 ∙ e.1)

-- changes of the same variables after each other
pub changes_both : (vars : List ℕ) (old mid new : Bounds) → ChangesOnly vars old mid → ChangesOnly vars mid new → ChangesOnly vars old new
changes_both vars old mid new h k x = both_at x vars old mid new (h x) (k x)

-- ---- narrowing

written_changes : (b : Bounds) (i : ℕ) (up : Bool) (l u : ℤ) → ChangesOnly (i ∷ []) b (cond up (record b { lower = slice_set b.lower i l }) (record b { upper = slice_set b.upper i u }))
written_changes b i true l u x =
    value_of-set (λ v. IsAmong x (i ∷ []) ⊎ ((v ≡ lower_of b x) × (upper_of b x ≡ upper_of b x))) b.lower i x l (inr (refl, refl)) (λ e. inl (inl e))
written_changes b i false l u x =
    value_of-set (λ v. IsAmong x (i ∷ []) ⊎ ((lower_of b x ≡ lower_of b x) × (v ≡ upper_of b x))) b.upper i x u (inr (refl, refl)) (λ e. inl (inl e))

pub made_true_changes : (b : Bounds) (a : Atom) → ChangesOnly (a.var.0 ∷ []) b (made_true b a)
made_true_changes b a = written_changes b a.var.0 a.at_least _ _

pub relaxed_changes : (b : Bounds) (a : Atom) → ChangesOnly (a.var.0 ∷ []) b (relaxed b a)
relaxed_changes b a = written_changes b a.var.0 a.at_least _ _

-- the box that is left, if one is, differs at these variables alone
abbrev LeavesOnly : List ℕ → Bounds → Option Bounds → Type 0
LeavesOnly vars b None = Unit {0}
LeavesOnly vars b (Some new) = ChangesOnly vars b new

left_by_atoms_changes : (b : Bounds) (vars : List ℕ) (atoms : List Atom) → ((x : ℕ) → IsAmong x (vars_of_atoms atoms) → IsAmong x vars) → LeavesOnly vars b (left_by_atoms b atoms)
left_by_atoms_changes b vars [] more = tt
left_by_atoms_changes b vars (a ∷ []) more = changes_more (a.var.0 ∷ []) vars b (made_true b a) more (made_true_changes b a)
left_by_atoms_changes b vars (a ∷ a' ∷ atoms) more = changes_none vars b

left_by_clause_changes : (b : Bounds) (c : Clause) → LeavesOnly (vars_of_atoms c.atoms) b (left_by_clause b c)
unfolding left_by_clause
left_by_clause_changes b c =
    left_by_atoms_changes b (vars_of_atoms c.atoms) (filter (λ a. not (is_false_in b a)) c.atoms)
    (λ x. among_filtered x (λ a. not (is_false_in b a)) c.atoms)

term_changes : (old : Bounds) (room : ℕ) (c : ℤ) (v : Var) (b : Bounds) → ChangesOnly (v.0 ∷ []) b (tightened_by_term old room c v b)
term_changes old room (pos zero) v b = changes_none (v.0 ∷ []) b
term_changes old room (pos (suc n)) v b =
    made_true_changes b (record { var = v; at_least = true; k = upper_of old v.0 -ℤ pos (room / suc n) })
term_changes old room (negsuc n) v b =
    made_true_changes b (record { var = v; at_least = false; k = lower_of old v.0 +ℤ pos (room / suc n) })

terms_change : (old : Bounds) (room : ℕ) (terms : List (ℤ × Var)) (b : Bounds) → ChangesOnly (vars_of_terms terms) b (tightened_by_terms old room terms b)
terms_change old room [] b = changes_none [] b
terms_change old room (t ∷ terms) b =
    changes_then (t.1.0 ∷ []) (vars_of_terms terms) b (tightened_by_term old room t.0 t.1 b) _ (term_changes old room t.0 t.1 b)
    (terms_change old room terms (tightened_by_term old room t.0 t.1 b))

met_by_cases : (b : Bounds) (r : Row) (room : ℕ) (t : Bool) → ChangesOnly (vars_of_terms r.terms) b (if t then tightened_by_terms b room r.terms b else b)
met_by_cases b r room true = terms_change b room r.terms b
met_by_cases b r room false = changes_none (vars_of_terms r.terms) b

refused_by_cases : (b : Bounds) (g : Atom) (t : Bool) → LeavesOnly (g.var.0 ∷ []) b (if t then None else Some (made_true b (negation g)))
refused_by_cases b g true = tt
refused_by_cases b g false = made_true_changes b (negation g)

unmet_changes : (b : Bounds) (guard : Option Atom) → LeavesOnly (vars_of_guard guard) b (left_by_unmet b guard)
unmet_changes b None = tt
unmet_changes b (Some g) = refused_by_cases b g (is_true_in b g)

leaves_more : (vars others : List ℕ) (b : Bounds) (left : Option Bounds) → ((x : ℕ) → IsAmong x vars → IsAmong x others) → LeavesOnly vars b left → LeavesOnly others b left
leaves_more vars others b None more h = tt
leaves_more vars others b (Some new) more h = changes_more vars others b new more h

row_by_cases : (b : Bounds) (r : Row) (t : Bool) → LeavesOnly (vars_of (of_row r)) b (if t then left_by_unmet b r.guard else Some (left_by_met b r))
row_by_cases b r true =
    leaves_more (vars_of_guard r.guard) (vars_of (of_row r)) b (left_by_unmet b r.guard)
    (λ x. among_left x (vars_of_guard r.guard) (vars_of_terms r.terms)) (unmet_changes b r.guard)
row_by_cases b r false =
    changes_more (vars_of_terms r.terms) (vars_of (of_row r)) b (left_by_met b r)
    (λ x. among_right x (vars_of_guard r.guard) (vars_of_terms r.terms)) (met_by_cases b r _ (is_claimed_in b r.guard))

left_by_row_changes : (b : Bounds) (r : Row) → LeavesOnly (vars_of (of_row r)) b (left_by_row b r)
unfolding left_by_row
left_by_row_changes b r = row_by_cases b r (int_lt (greatest_activity b r.terms) r.least)

left_by_changes : (b : Bounds) (c : Constraint) → LeavesOnly (vars_of c) b (left_by b c)
left_by_changes b (of_clause c) = left_by_clause_changes b c
left_by_changes b (of_row r) = left_by_row_changes b r

named_changes : (b : Bounds) (there : Option Constraint) → LeavesOnly (option_map_or vars_of there []) b (left_by_named b there)
named_changes b None = changes_none [] b
named_changes b (Some c) = left_by_changes b c

answer_changes : (vars : List ℕ) (left : Option Bounds) (old new : Bounds) (answer : Narrowed) → LeavesOnly vars old left → IsNarrowing left old new answer → ChangesOnly vars old new
answer_changes vars left old new Same h k = subst (λ (b : Bounds). ChangesOnly vars old b) (sym k.1) (changes_none vars old)
answer_changes vars left old new Tighter h k = subst (λ (o : Option Bounds). LeavesOnly vars old o) k.0 h
answer_changes vars left old new Conflict h k = subst (λ (b : Bounds). ChangesOnly vars old b) (sym k.1) (changes_none vars old)

-- narrowing by a hint touches the variables of what it names alone
pub narrowed_changes : (p : Instance) (s : LogState) (h : Hint) (old new : Bounds) (answer : Narrowed) → IsNarrowing (narrowed p s old h) old new answer → ChangesOnly (vars_of_hint p s h) old new
narrowed_changes p s h old new answer k =
    answer_changes (vars_of_hint p s h) (narrowed p s old h) old new answer (named_changes old (named p s h)) k

pub vars_of_hints-append : (p : Instance) (s : LogState) (hints : List Hint) (h : Hint) → vars_of_hints p s (hints ++ h ∷ []) ≡ vars_of_hints p s hints ++ vars_of_hint p s h
vars_of_hints-append p s [] h = append-nil (vars_of_hint p s h)
vars_of_hints-append p s (x ∷ hints) h =
    ap (λ (vars : List ℕ). vars_of_hint p s x ++ vars) (vars_of_hints-append p s hints h)
    ∙ sym (append_assoc (vars_of_hint p s x) (vars_of_hints p s hints) (vars_of_hint p s h))

-- ---- hint after hint

abbrev pub is_conflict : Narrowed → Bool
is_conflict Same = false
is_conflict Tighter = false
is_conflict Conflict = true

left_without_conflict : (left : Option Bounds) (old new : Bounds) (answer : Narrowed) → IsNarrowing left old new answer → is_conflict answer ≡ false → left ≡ Some new
left_without_conflict left old new Same h k = h.0 ∙ ap Some (sym h.1)
left_without_conflict left old new Tighter h k = h.0
left_without_conflict left old new Conflict h k = absurd (false≢true (sym k))

-- the hints up to a place, and those after it
pub record AreFollowed (p : Instance) (s : LogState) (hints : List Hint) (start : Bounds) (i : ℕ) (b : Bounds) : Type 0 where
  pub left : all_narrowed p s b (drop i hints) ≡ all_narrowed p s start hints
  pub touched : ChangesOnly (vars_of_hints p s (take i hints)) start b
  pub in_box : IsBoxOf p.bounds b

pub one_followed : (p : Instance) (s : LogState) (hints : List Hint) (start : Bounds) (i : ℕ) (d : Hint) (old new : Bounds) (answer : Narrowed) → i < length hints → AreFollowed p s hints start i old → IsNarrowing (narrowed p s old (get_or hints i d)) old new answer → is_conflict answer ≡ false → IsBoxOf p.bounds new → AreFollowed p s hints start (i + 1) new
one_followed p s hints start i d old new answer within far exact still_open place =
    let h : Hint = get_or hints i d in
    let all : vars_of_hints p s (take (i + 1) hints) ≡ vars_of_hints p s (take i hints) ++ vars_of_hint p s h =
    ap (vars_of_hints p s) (take_more hints i d within) ∙ vars_of_hints-append p s (take i hints) h in
    record {
      left =
          sym (ap (option_and_then (λ b. all_narrowed p s b (drop (i + 1) hints))) (left_without_conflict (narrowed p s old h) old new answer exact still_open))
          ∙ sym (ap (all_narrowed p s old) (drop_more hints i d within))
          ∙ far.left;
      touched =
          subst (λ (vars : List ℕ). ChangesOnly vars start new) (sym all)
          (changes_then (vars_of_hints p s (take i hints)) (vars_of_hint p s h) start old new far.touched (narrowed_changes p s h old new answer exact));
      in_box = place;
    }

-- ---- taking back

restored_at : (x v : ℕ) (vars : List ℕ) (limits old new : Bounds) → IsSameAt limits new v → IsAmong x (v ∷ []) ⊎ IsSameAt old new x → IsAmong x (v ∷ vars) ⊎ IsSameAt limits old x → IsAmong x vars ⊎ IsSameAt limits new x
restored_at x v vars limits old new back (inl (inl e)) h = inr (subst (λ (y : ℕ). IsSameAt limits new y) (sym e) back)
restored_at x v vars limits old new back (inl (inr k)) h = absurd k
restored_at x v vars limits old new back (inr k) (inl (inl e)) = inr (subst (λ (y : ℕ). IsSameAt limits new y) (sym e) back)
restored_at x v vars limits old new back (inr k) (inl (inr h)) = inl h
restored_at x v vars limits old new back (inr k) (inr h) = inr (k.0 ∙ h.0, k.1 ∙ h.1)

-- a variable that has the limits' bounds again
abbrev restored : Bounds → ℤ → ℤ → Var → Bounds
restored b lo hi v =
    relaxed (relaxed b (record { var = v; at_least = true; k = lo })) (record { var = v; at_least = false; k = hi })

pub one_restored : (limits b : Bounds) (v : Var) (vars : List ℕ) → IsBoxOf limits b → v.0 < length limits.lower → ChangesOnly (v.0 ∷ vars) limits b → ChangesOnly vars limits (restored b (lower_of limits v.0) (upper_of limits v.0) v)
one_restored limits b v vars place known h x =
    let lo = lower_of limits v.0 in
    let hi = upper_of limits v.0 in
    let a : Atom = record { var = v; at_least = true; k = lo } in
    let a' : Atom = record { var = v; at_least = false; k = hi } in
    let count = place.lower_count in
    let count' = place.upper_count in
    restored_at x v.0 vars limits b (restored b lo hi v)
    (get_or-set_same b.lower v.0 lo (pos 0) (omega arith), get_or-set_same b.upper v.0 hi (pos 0) (omega arith))
    (changes_both (v.0 ∷ []) b (relaxed b a) (restored b lo hi v) (relaxed_changes b a) (relaxed_changes (relaxed b a) a') x)
    (h x)

-- ---- taking back item by item

pub drop_found : {X : Type 0} (xs : List X) (i : ℕ) (x : X) → slice_get xs i ≡ Some x → drop i xs ≡ x ∷ drop (i + 1) xs
drop_found xs i x h =
    drop_more xs i x (slice_get_within xs i x h) ∙ ap (λ y. y ∷ drop (i + 1) xs) (get_or_from_slice_get xs i x x h)

pub term_known : (count : ℕ) (terms : List (ℤ × Var)) (i : ℕ) (d : ℤ × Var) → AreTermsOf count terms → i < length terms → (get_or terms i d).1.0 < count
term_known count [] i d h within = absurd (omega arith)
term_known count (t ∷ terms) zero d h within = h.0
term_known count (t ∷ terms) (suc i) d h within = term_known count terms i d h.3 (omega arith)

-- what the hint names has these variables
pub vars_of_found : (p : Instance) (s : LogState) (h : Hint) (c : Constraint) → named p s h ≡ Some c → vars_of_hint p s h ≡ vars_of c
vars_of_found p s h c e = ap (λ (o : Option Constraint). option_map_or vars_of o []) e

-- lists with the same values
same_values : (xs ys : List ℤ) → length xs ≡ length ys → ((x : ℕ) → value_of xs x ≡ value_of ys x) → xs ≡ ys
same_values [] [] e h = refl
same_values [] (y ∷ ys) e h = absurd (omega arith)
same_values (x ∷ xs) [] e h = absurd (omega arith)
same_values (x ∷ xs) (y ∷ ys) e h =
    ap (λ (z : ℤ). z ∷ xs) (h zero) ∙ ap (λ (zs : List ℤ). y ∷ zs) (same_values xs ys (omega arith) (λ i. h (suc i)))

same_at : (x : ℕ) (old new : Bounds) → IsAmong x [] ⊎ IsSameAt old new x → IsSameAt old new x
same_at x old new (inl h) = absurd h
same_at x old new (inr h) = h

abbrev bounds_from : List ℤ → List ℤ → Bounds
bounds_from lower upper = record { lower = lower; upper = upper }

-- a box with no variable touched is the limits' own
pub nothing_changed : (limits b : Bounds) → length limits.upper ≡ length limits.lower → IsBoxOf limits b → ChangesOnly [] limits b → b ≡ limits
nothing_changed limits b e place h =
    let low : b.lower ≡ limits.lower = same_values b.lower limits.lower place.lower_count (λ x. (same_at x limits b (h x)).0) in
    let high : b.upper ≡ limits.upper = same_values b.upper limits.upper (place.upper_count ∙ sym e) (λ x. (same_at x limits b (h x)).1) in
    ap (λ (l : List ℤ). bounds_from l b.upper) low ∙ ap (bounds_from limits.lower) high

-- the limits' own box is one of them
pub box_of_problem : (limits b : Bounds) → b ≡ limits → AreProperBounds limits → IsBoxOf limits b
box_of_problem limits b same proper = subst (IsBoxOf limits) (sym same) (IsBoxOf-itself limits proper)

-- the same, where a box that was the limits' own was changed, and all of it taken back
pub all_taken_back : (vars : List ℕ) (limits old new back : Bounds) → length limits.upper ≡ length limits.lower → old ≡ limits → ChangesOnly vars old new → ((others : List ℕ) → ChangesOnly (vars ++ others) limits new → ChangesOnly others limits back) → IsBoxOf limits back → back ≡ limits
all_taken_back vars limits old new back e same h restores place =
    nothing_changed limits back e place
    (restores [] (changes_then vars [] limits new new (subst (λ (b : Bounds). ChangesOnly vars b new) same h) (changes_none [] new)))
