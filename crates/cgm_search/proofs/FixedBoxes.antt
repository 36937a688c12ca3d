-- Boxes that hold one value of each variable: where the problem is at rest they are a solution, and a cut that they don't meet has a part that is false in them.
use Rattle.std.proofs.Common.{◌≡◌, ℕ, ◌+◌, ◌<◌, ◌≤◌, Bool, true, false, not, cond, ◌||◌, ◌&&◌, if◌then◌else◌, inl, inr, List, [], ◌∷◌, ◌++◌, length, refl, ap, sym, subst, ◌∙◌, append-nil, arith}
use Rattle.std.specs.Prelude.{◌⊎◌, ℤ, pos, ◌*ℤ◌, int_le, int_lt, IsTrue}
use Rattle.std.specs.declared.option.Option.{Option}
use Rattle.std.specs.declared.option.Option.TheVariants.{Some, None}
use Rattle.std.specs.List.{All, Contains, filter, list_any}
use Rattle.std.proofs.lemmas.Bool.{cases_lt}
use Rattle.std.proofs.lemmas.List.{get_or_past}
use Rattle.std.proofs.lemmas.Int.{ints}
use Rattle.std.proofs.lemmas.List.Elements.{All-contains, All-contains_itself, All-filter, All-nil, All-cons, All-head, All-tail, All-weaker, Contains-append_right}
use Rattle.cgm_atom.specs.declared.constraints.Atom.{Atom}
use Rattle.cgm_atom.specs.declared.constraints.Clause.{Clause}
use Rattle.cgm_atom.specs.declared.constraints.Row.{Row}
use Rattle.cgm_atom.specs.declared.constraints.Var.{Var}
use Rattle.cgm_atom.specs.declared.entries.Entry.{Entry}
use Rattle.cgm_atom.specs.declared.entries.Entry.TheVariants.{Best}
use Rattle.cgm_atom.specs.declared.entries.Hint.TheVariants as hint
use Rattle.cgm_atom.specs.Atoms.{activity, atom_true, clause_true, guard_true, row_true}
use Rattle.cgm_atom.specs.Bounds.{Bounds, IsBoxOf, lower_of, upper_of}
use Rattle.cgm_atom.specs.Cut.{cut}
use Rattle.cgm_atom.specs.Instance.{Instance, IsSolution, vector}
use Rattle.cgm_atom.specs.LogState.{last_best, state_of}
use Rattle.cgm_atom.specs.Narrowing.{greatest_activity, is_false_in, is_true_in, left_by_clause, left_by_row, left_by_unmet}
use Rattle.cgm_base.specs.Order.{IsLess}
use Rattle.cgm_atom.specs.Order.{is_less}
use Rattle.cgm_atom.proofs.Cutting.{cut_is_less}
use Rattle.cgm_clauses.specs.declared.named.Named.{Named}
use Rattle.cgm_clauses.specs.Standing.{IsFalseIn}
use Rattle.cgm_clauses.specs.StoreState.{StoreState, all_clauses}
use Rattle.cgm_clauses.proofs.Standings.{left_as}
use Rattle.cgm_log.specs.declared.batches.Fate.TheVariants.{Behind, Kept}
use Rattle.cgm_log.specs.Landing.{fate_after, kept_candidate, kept_entry}
use Rattle.cgm_search.specs.Storing.{IsStoreFor, cut_named, is_of_cut, last_cut}
use Rattle.cgm_search.proofs.Keeping.{best_pushed}
use Rattle.cgm_split.specs.Halving.{IsPoint}
use Rattle.cgm_trail.specs.TrailState.{IsAtRest}

-- each variable has one value; past the end both bounds are 0
abbrev IsOne : Bounds → Type 0
IsOne b = (x : ℕ) → lower_of b x ≡ upper_of b x

-- ---- atoms and clauses

false_at : (up : Bool) (k lo hi : ℤ) → lo ≡ hi → cond up (int_le k lo) (int_le lo k) ≡ false → cond up (int_lt hi k) (int_lt k lo) ≡ true
false_at true k lo hi e h = grind (arith, ints)
false_at false k lo hi e h = grind (arith, ints)

pub atom_false : (b : Bounds) (a : Atom) → IsOne b → atom_true b.lower a ≡ false → is_false_in b a ≡ true
atom_false b a one h = false_at a.at_least a.k (lower_of b a.var.0) (upper_of b a.var.0) (one a.var.0) h

neither : (t s : Bool) → (t || s) ≡ false → (t ≡ false) × (s ≡ false)
neither true s h = absurd (cc)
neither false s h = (refl, h)

both_false : (t s : Bool) → t ≡ true → (t && s) ≡ false → s ≡ false
both_false true s e h = h
both_false false s e h = absurd (cc)

none_left_in : (b : Bounds) (atoms : List Atom) → IsOne b → list_any (atom_true b.lower) atoms ≡ false → filter (λ a. not (is_false_in b a)) atoms ≡ []
none_left_in b [] one h = refl
none_left_in b (a ∷ atoms) one h =
    let parts = neither (atom_true b.lower a) (list_any (atom_true b.lower) atoms) h in
    let gone : is_false_in b a ≡ true = atom_false b a one parts.0 in
    rw gone (none_left_in b atoms one parts.1)

pub clause_false : (b : Bounds) (c : Clause) → IsOne b → clause_true b.lower c ≡ false → IsFalseIn b c
clause_false b c one h = left_as b c [] (none_left_in b c.atoms one h)

met_by_test : (b : Bounds) (c : Clause) (t : Bool) → IsOne b → clause_true b.lower c ≡ t → left_by_clause b c ≡ Some b → IsTrue (clause_true b.lower c)
met_by_test b c true one e h = e
met_by_test b c false one e h = let gone = clause_false b c one e in absurd (let wrong = sym gone ∙ h in cc)

-- a clause that leaves the box is true at its values
pub clause_met : (b : Bounds) (c : Clause) → IsOne b → left_by_clause b c ≡ Some b → IsTrue (clause_true b.lower c)
clause_met b c one h = met_by_test b c (clause_true b.lower c) one refl h

-- ---- sums

term_at : (t : Bool) (c lo hi : ℤ) → lo ≡ hi → cond t (c *ℤ lo) (c *ℤ hi) ≡ c *ℤ lo
term_at true c lo hi e = refl
term_at false c lo hi e = ap (λ z. c *ℤ z) (sym e)

pub activity_at : (b : Bounds) (terms : List (ℤ × Var)) → IsOne b → greatest_activity b terms ≡ activity b.lower terms
activity_at b [] one = refl
activity_at b (t ∷ terms) one =
    rw (term_at (int_lt t.0 (pos 0)) t.0 (lower_of b t.1.0) (upper_of b t.1.0) (one t.1.0), activity_at b terms one) refl

-- ---- a clause of a list that isn't true

false_by_test : (b : Bounds) (n : Named) (ns : List Named) (t : Bool) → clause_true b.lower n.clause ≡ t → (All (λ m. IsTrue (clause_true b.lower m.clause)) (n ∷ ns) → ⊥) → ((All (λ m. IsTrue (clause_true b.lower m.clause)) ns → ⊥) → (m : Named) × Contains ns m × (clause_true b.lower m.clause ≡ false)) → (m : Named) × Contains (n ∷ ns) m × (clause_true b.lower m.clause ≡ false)
false_by_test b n ns true e h rest =
    let found = rest (λ all. h (All-cons (λ m. IsTrue (clause_true b.lower m.clause)) n ns e all)) in
    (found.0, Contains-append_right (n ∷ []) ns found.0 found.1, found.2)
false_by_test b n ns false e h rest = (n, (0, omega arith, refl), e)

pub some_false : (b : Bounds) (ns : List Named) → (All (λ m. IsTrue (clause_true b.lower m.clause)) ns → ⊥) → (m : Named) × Contains ns m × (clause_true b.lower m.clause ≡ false)
some_false b [] h = absurd (h (All-nil (λ m. IsTrue (clause_true b.lower m.clause))))
some_false b (n ∷ ns) h = false_by_test b n ns (clause_true b.lower n.clause) refl h (some_false b ns)

-- what a filter keeps is of the list
pub contains_from_filter : (test : Named → Bool) (xs : List Named) (n : Named) → Contains (filter test xs) n → Contains xs n
contains_from_filter test xs n there =
    All-contains (Contains xs) (filter test xs) n (All-filter test (Contains xs) xs (All-contains_itself xs)) there

-- ---- rows

met_at : (up : Bool) (k lo hi : ℤ) → lo ≡ hi → cond up (int_le k lo) (int_le lo k) ≡ true → cond up (int_le k lo) (int_le hi k) ≡ true
met_at true k lo hi e h = h
met_at false k lo hi e h = grind (arith, ints)

-- an atom that is true at the values of the box is true in it
pub atom_met : (b : Bounds) (a : Atom) → IsOne b → atom_true b.lower a ≡ true → is_true_in b a ≡ true
atom_met b a one h = met_at a.at_least a.k (lower_of b a.var.0) (upper_of b a.var.0) (one a.var.0) h

unmet_none : (b : Bounds) (guard : Option Atom) → IsOne b → guard_true b.lower guard ≡ true → left_by_unmet b guard ≡ None
unmet_none b None one h = refl
unmet_none b (Some g) one h = let claimed : is_true_in b g ≡ true = atom_met b g one h in rw claimed refl

less_if : (x y z : ℤ) → x ≡ y → int_le z y ≡ false → int_lt x z ≡ true
less_if x y z e h = grind (arith, ints)

not_not : (t : Bool) → not t ≡ false → t ≡ true
not_not true h = refl
not_not false h = absurd (cc)

row_none : (b : Bounds) (r : Row) → int_lt (greatest_activity b r.terms) r.least ≡ true → left_by_unmet b r.guard ≡ None → left_by_row b r ≡ None
unfolding left_by_row
row_none b r low none = rw low none

row_by_test : (b : Bounds) (r : Row) (t : Bool) → IsOne b → row_true b.lower r ≡ t → left_by_row b r ≡ Some b → IsTrue (row_true b.lower r)
row_by_test b r true one e h = e
row_by_test b r false one e h =
    let parts = neither (not (guard_true b.lower r.guard)) (int_le r.least (activity b.lower r.terms)) e in
    let low = less_if (greatest_activity b r.terms) (activity b.lower r.terms) r.least (activity_at b r.terms one) parts.1 in
    let none = row_none b r low (unmet_none b r.guard one (not_not (guard_true b.lower r.guard) parts.0)) in
    absurd (let wrong = sym none ∙ h in cc)

-- a row that leaves the box is met by its values
pub row_met : (b : Bounds) (r : Row) → IsOne b → left_by_row b r ≡ Some b → IsTrue (row_true b.lower r)
row_met b r one h = row_by_test b r (row_true b.lower r) one refl h

-- ---- a solution

one_at : (b : Bounds) (x : ℕ) → length b.upper ≡ length b.lower → IsPoint b → (x < length b.lower) ⊎ (length b.lower ≤ x) → lower_of b x ≡ upper_of b x
one_at b x same point (inl h) = point x h
one_at b x same point (inr h) = get_or_past b.lower x (pos 0) h ∙ sym (get_or_past b.upper x (pos 0) (omega arith))

pub one_from_point : (b : Bounds) → length b.upper ≡ length b.lower → IsPoint b → IsOne b
one_from_point b same point = λ x. one_at b x same point (cases_lt x (length b.lower))

box_one : (limits b : Bounds) → IsBoxOf limits b → IsPoint b → IsOne b
box_one limits b box point = one_from_point b (box.upper_count ∙ sym box.lower_count) point

-- settled and fixed is a solution
pub settled_is_solution : (p : Instance) (b : Bounds) → IsBoxOf p.bounds b → IsPoint b → IsAtRest p b → IsSolution p b.lower
settled_is_solution p b box point rest =
    let one = box_one p.bounds b box point in
    record {
      count = box.lower_count;
      within = λ x. ((box.inside x).0, rw (one x) (box.inside x).1);
      clauses =
          All-weaker (λ c. left_by_clause b c ≡ Some b) (λ c. IsTrue (clause_true b.lower c))
          (λ (c : Clause) (h : left_by_clause b c ≡ Some b). clause_met b c one h) p.clauses rest.clauses;
      rows =
          All-weaker (λ r. left_by_row b r ≡ Some b) (λ r. IsTrue (row_true b.lower r))
          (λ (r : Row) (h : left_by_row b r ≡ Some b). row_met b r one h) p.rows rest.rows;
    }

-- ---- the cut of the last best

clauses_of_parts : (values : List ℤ) (ordinal part : ℕ) (clauses : List Clause) → All (λ m. IsTrue (clause_true values m.clause)) (cut_named ordinal part clauses) → All (λ c. IsTrue (clause_true values c)) clauses
clauses_of_parts values ordinal part [] h = All-nil (λ c. IsTrue (clause_true values c))
clauses_of_parts values ordinal part (c ∷ clauses) h =
    All-cons (λ d. IsTrue (clause_true values d)) c clauses
    (All-head (λ m. IsTrue (clause_true values m.clause)) (record { clause = c; name = hint.Cut ordinal part }) (cut_named ordinal (part + 1) clauses) h)
    (clauses_of_parts values ordinal (part + 1) clauses
    (All-tail (λ m. IsTrue (clause_true values m.clause)) (record { clause = c; name = hint.Cut ordinal part }) (cut_named ordinal (part + 1) clauses) h))

not_less : (us vs : List ℤ) → IsLess us vs → is_less us vs ≡ false → ⊥
not_less [] vs h e = h
not_less (u ∷ us) [] h e = h
not_less (u ∷ us) (v ∷ vs) (inl h) e =
    let parts = neither (int_lt u v) (int_le u v && is_less us vs) e in
    let wrong : int_lt u v ≡ true = grind (arith, ints) in
    let other = parts.0 in
    absurd (cc)
not_less (u ∷ us) (v ∷ vs) (inr h) e =
    let parts = neither (int_lt u v) (int_le u v && is_less us vs) e in
    let here : int_le u v ≡ true = grind (arith, ints) in
    not_less us vs h.1 (both_false (int_le u v) (is_less us vs) here parts.1)

-- a candidate that isn't less than the last best is in conflict with a part of its cut
pub some_part_false : (p : Instance) (log : List Entry) (store : StoreState) (b : Bounds) (best : List ℤ) → IsStoreFor p log store → IsBoxOf p.bounds b → IsPoint b → last_best (state_of log) ≡ Some best → is_less (vector p b.lower) (vector p best) ≡ false
    → (n : Named) × Contains (all_clauses store) n × IsFalseIn b n.clause
some_part_false p log store b best stored box point last behind =
    let one = box_one p.bounds b box point in
    let cut_is : last_cut p (state_of log) ≡ cut_named (length (state_of log).bests) 0 (cut p.objectives (vector p best)) = rw last refl in
    let found = some_false b (filter is_of_cut store.added)
    (λ (all : All (λ m. IsTrue (clause_true b.lower m.clause)) (filter is_of_cut store.added)).
    not_less (vector p b.lower) (vector p best)
    ((cut_is_less p.objectives b.lower (vector p best)).1
    (clauses_of_parts b.lower (length (state_of log).bests) 0 (cut p.objectives (vector p best))
    (subst (λ (ns : List Named). All (λ m. IsTrue (clause_true b.lower m.clause)) ns) (stored.last_cut ∙ cut_is) all)))
    behind) in (
      found.0,
      Contains-append_right store.clauses store.added found.0 (contains_from_filter is_of_cut store.added found.0 found.1),
      clause_false b found.0.clause one found.2,
    )

-- ---- what is last after a candidate

less_self : (vs : List ℤ) → is_less vs vs ≡ false
less_self [] = refl
less_self (v ∷ vs) = let first : int_lt v v ≡ false = grind (arith, ints) in let here : int_le v v ≡ true = grind (arith, ints) in rw (first, here, less_self vs) refl

-- the last best isn't greater than a candidate that was handed on
pub record IsLastBest (p : Instance) (values : List ℤ) (log : List Entry) : Type 0 where
  pub best : List ℤ
  pub last : last_best (state_of log) ≡ Some best
  pub behind : is_less (vector p values) (vector p best) ≡ false

kept_last : (p : Instance) (log : List Entry) (by : ℕ) (values : List ℤ) → IsLastBest p values (log ++ Best by values ∷ [])
kept_last p log by values = record {
  best = values;
  last = best_pushed log by values;
  behind = less_self (vector p values);
}

last_by_test : (p : Instance) (log : List Entry) (by bests : ℕ) (values best : List ℤ) (t : Bool) → is_less (vector p values) (vector p best) ≡ t → last_best (state_of log) ≡ Some best → IsLastBest p values (log ++ kept_entry by values (if t then Kept (bests + 1) else Behind bests best))
last_by_test p log by bests values best true e last = kept_last p log by values
last_by_test p log by bests values best false e last =
    subst (λ (xs : List Entry). IsLastBest p values xs) (sym (append-nil log)) (record { best = best; last = last; behind = e })

last_by_best : (p : Instance) (log : List Entry) (by bests : ℕ) (values : List ℤ) (o : Option (List ℤ)) → last_best (state_of log) ≡ o → IsLastBest p values (log ++ kept_entry by values (fate_after p bests o values))
last_by_best p log by bests values None last = kept_last p log by values
last_by_best p log by bests values (Some best) last =
    last_by_test p log by bests values best (is_less (vector p values) (vector p best)) refl last

pub last_after_candidate : (p : Instance) (log : List Entry) (by : ℕ) (values : List ℤ) → IsLastBest p values (log ++ kept_candidate p (state_of log) by (Some values))
last_after_candidate p log by values =
    last_by_best p log by (length (state_of log).bests) values (last_best (state_of log)) refl
