-- Each lemma of an accepted log follows under its bound.
use Rattle.std.proofs.Common.{◌≡◌, ℕ, zero, suc, ◌+◌, ◌<◌, ◌≤◌, Bool, true, false, cond, List, [], ◌∷◌, ◌++◌, length, refl, sym, ap, ◌∙◌, subst, arith, append_assoc, append-nil}
use Rattle.std.specs.Prelude.{ℤ, IfSome, IsSomeAnd, IsTrue, is_none, slice_get}
use Rattle.std.specs.declared.option.Option.{Option}
use Rattle.std.specs.declared.option.Option.TheVariants.{Some, None}
use Rattle.std.specs.List.{All, AllByRecursion, position_from}
use Rattle.std.specs.Option.{option_and_then, option_map, option_map_or}
use Rattle.std.proofs.lemmas.Bool.{false≢true, eqb-true}
use Rattle.std.proofs.lemmas.List.Elements.{All-from_recursion, recursion_from_All}
use Rattle.cgm_atom.specs.declared.constraints.Clause.{Clause}
use Rattle.cgm_atom.specs.declared.entries.BadStep.TheVariants as fault
use Rattle.cgm_atom.specs.declared.entries.Entry.{Entry}
use Rattle.cgm_atom.specs.declared.entries.Entry.TheVariants.{Best, Lemma}
use Rattle.cgm_atom.specs.declared.entries.Hint.{Hint}
use Rattle.cgm_atom.specs.declared.entries.Hint.TheVariants as hint
use Rattle.cgm_atom.specs.Acceptance.{IsAccepted, faults, first_fault}
use Rattle.cgm_atom.specs.Atoms.{clause_true, row_true}
use Rattle.cgm_atom.specs.Cut.{cut}
use Rattle.cgm_atom.specs.Entailment.{Follows, IsUnderBound, best_values}
use Rattle.cgm_atom.specs.Instance.{Instance, IsSolution, vector}
use Rattle.cgm_atom.specs.Laws.{IsEntailed}
use Rattle.cgm_atom.specs.LogState.{LogState, best_at, carried, greatest_carried, item_at, lemma_bound, lemma_clause, live_at, named, state_of}
use Rattle.cgm_atom.specs.Constraints.{of_clause, of_row}
use Rattle.cgm_base.specs.Order.{IsLess}
use Rattle.cgm_atom.proofs.Cutting.{cut_of_less}
use Rattle.cgm_atom.proofs.LaterBounds.{AreNone, none_fails, passes, under_earlier_bound}
use Rattle.cgm_atom.proofs.StateLemmas.{IsAccepted-next, best_is_of_log, best_values-append, live_is_of_log}
use Rattle.cgm_atom.proofs.Refuting.{IsMet, AreMet, clause_from_refutation}

-- ---- options and places

mapped : {X Y : Type 0} (o : Option X) (f : X → Y) (P : Y → Type 0) → IfSome o (λ x. P (f x)) → IfSome (option_map f o) P
mapped None f P h = tt
mapped (Some x) f P h = h

pub each_at : {X : Type 0} (P : X → Type 0) (xs : List X) (n : ℕ) → AllByRecursion P xs → IfSome (slice_get xs n) P
each_at P [] n h = tt
each_at P (x ∷ xs) zero h = h.0
each_at P (x ∷ xs) (suc n) h = each_at P xs n h.1

-- ---- what is known of a state on the way through a log

-- the live entries are entailed by the log, and the live bests are those of the log
pub record IsKnown (p : Instance) (log : List Entry) (s : LogState) : Type 0 where
  pub entries : (n : ℕ) → IfSome (live_at s n) (IsEntailed p log)
  pub bests : (n : ℕ) → IfSome (best_at s n) (λ values. item_at (best_values log) n ≡ Some values)

-- ---- hints

entry_met : (p : Instance) (log : List Entry) (bound : ℕ) (values : List ℤ) (o : Option Entry) → IsAccepted p log → IsSolution p values → IsUnderBound p log bound (vector p values) → IfSome o (IsEntailed p log) → option_map_or lemma_bound o 0 ≤ bound → IfSome (option_map of_clause (option_and_then lemma_clause o)) (IsMet values)
unfolding Follows
entry_met p log bound values None accepted solution under known le = tt
entry_met p log bound values (Some (Best by others)) accepted solution under known le = tt
entry_met p log bound values (Some (Lemma by clause hints b)) accepted solution under known le =
    known.0 values solution (under_earlier_bound p log (vector p values) b bound accepted le under)

less_than_best : (p : Instance) (v best : List ℤ) (o : Option (List ℤ)) → o ≡ Some best → IsSomeAnd o (λ w. IsLess v (vector p w)) → IsLess v (vector p best)
less_than_best p v best o e h = subst (λ (x : Option (List ℤ)). IsSomeAnd x (λ w. IsLess v (vector p w))) e h

under_best : (p : Instance) (log : List Entry) (ordinal : ℕ) (v best : List ℤ) → item_at (best_values log) ordinal ≡ Some best → IsUnderBound p log ordinal v → IsLess v (vector p best)
under_best p log zero v best h under = absurd (cc)
under_best p log (suc i) v best h under = less_than_best p v best (slice_get (best_values log) i) h under

cut_met : (p : Instance) (log : List Entry) (ordinal part : ℕ) (values : List ℤ) (o : Option (List ℤ)) → IsUnderBound p log ordinal (vector p values) → IfSome o (λ best. item_at (best_values log) ordinal ≡ Some best) → IfSome (option_map of_clause (option_and_then (λ best. slice_get (cut p.objectives (vector p best)) part) o)) (IsMet values)
cut_met p log ordinal part values None under known = tt
cut_met p log ordinal part values (Some best) under known =
    let less = under_best p log ordinal (vector p values) best known under in
    mapped (slice_get (cut p.objectives (vector p best)) part) of_clause (IsMet values)
    (each_at (λ c. IsTrue (clause_true values c)) (cut p.objectives (vector p best)) part
    (recursion_from_All (λ c. IsTrue (clause_true values c)) (cut p.objectives (vector p best)) (cut_of_less p.objectives values (vector p best) less)))

hint_met : (p : Instance) (log : List Entry) (s : LogState) (bound : ℕ) (values : List ℤ) (h : Hint) → IsAccepted p log → IsKnown p log s → IsSolution p values → IsUnderBound p log bound (vector p values) → carried s h ≤ bound → IfSome (named p s h) (IsMet values)
unfolding named carried
hint_met p log s bound values (hint.Clause n) accepted known solution under le =
    mapped (slice_get p.clauses n) of_clause (IsMet values)
    (each_at (λ c. IsTrue (clause_true values c)) p.clauses n (recursion_from_All (λ c. IsTrue (clause_true values c)) p.clauses solution.clauses))
hint_met p log s bound values (hint.Row n) accepted known solution under le =
    mapped (slice_get p.rows n) of_row (IsMet values)
    (each_at (λ r. IsTrue (row_true values r)) p.rows n (recursion_from_All (λ r. IsTrue (row_true values r)) p.rows solution.rows))
hint_met p log s bound values (hint.Entry place) accepted known solution under le =
    entry_met p log bound values (live_at s place) accepted solution under (known.entries place) le
hint_met p log s bound values (hint.Own place) accepted known solution under le = tt
hint_met p log s bound values (hint.Cut ordinal part) accepted known solution under le =
    cut_met p log ordinal part values (best_at s ordinal) (under_earlier_bound p log (vector p values) ordinal bound accepted le under) (known.bests ordinal)

hints_met : (p : Instance) (log : List Entry) (s : LogState) (bound : ℕ) (values : List ℤ) (hints : List Hint) → IsAccepted p log → IsKnown p log s → IsSolution p values → IsUnderBound p log bound (vector p values) → greatest_carried s hints ≤ bound → AreMet p s values hints
hints_met p log s bound values [] accepted known solution under le = tt
hints_met p log s bound values (h ∷ hints) accepted known solution under le =
    (hint_met p log s bound values h accepted known solution under (omega arith), hints_met p log s bound values hints accepted known solution under (omega arith))

-- ---- the bound of a lemma is the ordinal of a best, or 0

place_within : {X : Type 0} (xs : List X) (i : ℕ) (x : X) → slice_get xs i ≡ Some x → i < length xs
place_within [] i x h = absurd (cc)
place_within (y ∷ xs) zero x h = omega arith
place_within (y ∷ xs) (suc i) x h = omega (arith, place_within xs i x h)

best_within : (log : List Entry) (ordinal : ℕ) (best : List ℤ) → item_at (best_values log) ordinal ≡ Some best → ordinal ≤ length (best_values log)
best_within log zero best h = absurd (cc)
best_within log (suc i) best h = omega (arith, place_within (best_values log) i best h)

entry_bound_within : (p : Instance) (log : List Entry) (o : Option Entry) → IfSome o (IsEntailed p log) → option_map_or lemma_bound o 0 ≤ length (best_values log)
entry_bound_within p log None known = omega arith
entry_bound_within p log (Some (Best by values)) known = omega arith
entry_bound_within p log (Some (Lemma by clause hints bound)) known = known.1

ordinal_within : (p : Instance) (log : List Entry) (ordinal part : ℕ) (o : Option (List ℤ)) → IfSome o (λ best. item_at (best_values log) ordinal ≡ Some best) → is_none (option_map of_clause (option_and_then (λ best. slice_get (cut p.objectives (vector p best)) part) o)) ≡ false → ordinal ≤ length (best_values log)
ordinal_within p log ordinal part None known h = absurd (false≢true (sym h))
ordinal_within p log ordinal part (Some best) known h = best_within log ordinal best known

carried_within : (p : Instance) (log : List Entry) (s : LogState) (h : Hint) → IsKnown p log s → is_none (named p s h) ≡ false → carried s h ≤ length (best_values log)
unfolding named carried
carried_within p log s (hint.Clause n) known here = omega arith
carried_within p log s (hint.Row n) known here = omega arith
carried_within p log s (hint.Entry place) known here = entry_bound_within p log (live_at s place) (known.entries place)
carried_within p log s (hint.Own place) known here = omega arith
carried_within p log s (hint.Cut ordinal part) known here =
    ordinal_within p log ordinal part (best_at s ordinal) (known.bests ordinal) here

none_found_step : (P : Type 0) (test : Bool) (i : ℕ) (rest : Option ℕ) → cond test (Some i) rest ≡ None → (rest ≡ None → P) → (test ≡ false) × P
none_found_step P true i rest h next = absurd (cc)
none_found_step P false i rest h next = (refl, next h)

-- no item passes the test
none_found : {X : Type 0} (test : X → Bool) (i : ℕ) (xs : List X) → position_from test i xs ≡ None → AllByRecursion (λ x. test x ≡ false) xs
none_found test i [] h = tt
none_found test i (x ∷ xs) h =
    none_found_step (AllByRecursion (λ y. test y ≡ false) xs) (test x) i (position_from test (i + 1) xs) h (none_found test (i + 1) xs)

all_carried_within : (p : Instance) (log : List Entry) (s : LogState) (hints : List Hint) → IsKnown p log s → AllByRecursion (λ h. is_none (named p s h) ≡ false) hints → greatest_carried s hints ≤ length (best_values log)
all_carried_within p log s [] known here = omega arith
all_carried_within p log s (h ∷ hints) known here =
    omega (arith, carried_within p log s h known here.0, all_carried_within p log s hints known here.1)

-- ---- one more entry

pub none_mapped : {X Y : Type 0} (f : X → Y) (o : Option X) → option_map f o ≡ None → o ≡ None
none_mapped f None h = refl
none_mapped f (Some x) h = absurd (cc)

lemma_entailed : (p : Instance) (log : List Entry) (s : LogState) (by : ℕ) (clause : Clause) (hints : List Hint) (bound : ℕ) → IsAccepted p log → IsKnown p log s → AreNone (faults p s (Lemma by clause hints bound)) → IsEntailed p log (Lemma by clause hints bound)
unfolding Follows
lemma_entailed p log s by clause hints bound accepted known fails =
    let greatest : bound ≡ greatest_carried s hints = eqb-true _ _ (passes _ _ fails.1.1.1.0) in
    let here = none_found (λ h. is_none (named p s h)) 0 hints (none_mapped (λ i. fault.Hint (i + 1)) _ fails.1.1.0) in
    let within = all_carried_within p log s hints known here in
    (λ values solution under. clause_from_refutation p s clause hints values solution.within (hints_met p log s bound values hints accepted known solution under (omega arith)) (passes _ fault.NoConflict fails.1.1.1.1.0), omega arith)

pub entry_entailed : (p : Instance) (log : List Entry) (s : LogState) (e : Entry) → IsAccepted p log → IsKnown p log s → first_fault p s e ≡ None → IsEntailed p log e
unfolding first_fault
entry_entailed p log s (Best by values) accepted known h = tt
entry_entailed p log s (Lemma by clause hints bound) accepted known h =
    lemma_entailed p log s by clause hints bound accepted known (none_fails (faults p s (Lemma by clause hints bound)) h)

-- ---- all entries

item_within : {X : Type 0} (P : X → Type 0) (xs : List X) (place : ℕ) → AllByRecursion P xs → IfSome (item_at xs place) P
item_within P xs zero h = tt
item_within P xs (suc i) h = each_at P xs i h

item_of_front : {X : Type 0} (front rest : List X) (place : ℕ) (x : X) → item_at front place ≡ Some x → item_at (front ++ rest) place ≡ Some x
item_of_front front rest zero x h = absurd (cc)
item_of_front [] rest (suc i) x h = absurd (cc)
item_of_front (y ∷ front) rest (suc zero) x h = h
item_of_front (y ∷ front) rest (suc (suc i)) x h = item_of_front front rest (suc i) x h

if_some : {X : Type 0} (o : Option X) (P : X → Type 0) → ((x : X) → o ≡ Some x → P x) → IfSome o P
if_some None P h = tt
if_some (Some x) P h = h x refl

pushed : {X : Type 0} (P : X → Type 0) (xs : List X) (x : X) → AllByRecursion P xs → P x → AllByRecursion P (xs ++ x ∷ [])
pushed P [] x h here = (here, tt)
pushed P (y ∷ xs) x h here = (h.0, pushed P xs x h.1 here)

-- the state of the first entries of a log, where each is entailed by the log
known_front : (p : Instance) (log front rest : List Entry) → log ≡ front ++ rest → AllByRecursion (IsEntailed p log) front → IsKnown p log (state_of front)
known_front p log front rest all entailed = record {
  entries = λ n.
      if_some (live_at (state_of front) n) (IsEntailed p log)
      (λ e h. subst (λ (o : Option Entry). IfSome o (IsEntailed p log)) (live_is_of_log front n e h) (item_within (IsEntailed p log) front n entailed));
  bests = λ n.
      if_some (best_at (state_of front) n) (λ values. item_at (best_values log) n ≡ Some values)
      (λ values h. ap (λ (xs : List Entry). item_at (best_values xs) n) all
      ∙ ap (λ (vs : List (List ℤ)). item_at vs n) (best_values-append front rest)
      ∙ item_of_front (best_values front) (best_values rest) n values (best_is_of_log front n values h));
}

entailed_after : (p : Instance) (log front rest : List Entry) → IsAccepted p log → log ≡ front ++ rest → AllByRecursion (IsEntailed p log) front → AllByRecursion (IsEntailed p log) log
entailed_after p log front [] accepted all entailed =
    subst (AllByRecursion (IsEntailed p log)) (sym (all ∙ append-nil front)) entailed
entailed_after p log front (e ∷ rest) accepted all entailed =
    let here = entry_entailed p log (state_of front) e accepted (known_front p log front (e ∷ rest) all entailed)
    (IsAccepted-next p front e rest (subst (λ (x : List Entry). IsAccepted p x) all accepted)) in
    entailed_after p log (front ++ e ∷ []) rest accepted (all ∙ sym (append_assoc front (e ∷ []) rest)) (pushed (IsEntailed p log) front e entailed here)

pub all_entailed : (p : Instance) (log : List Entry) → IsAccepted p log → AllByRecursion (IsEntailed p log) log
all_entailed p log h = entailed_after p log [] log h refl tt

pub lemmas_follow : (p : Instance) (log : List Entry) → IsAccepted p log → All (IsEntailed p log) log
lemmas_follow p log h = All-from_recursion (IsEntailed p log) log (all_entailed p log h)
