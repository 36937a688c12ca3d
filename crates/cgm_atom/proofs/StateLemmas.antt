-- How the state of a log grows with the log, and what acceptance says of a longer log.
use Rattle.std.proofs.Common.{◌≡◌, ℕ, zero, suc, Bool, true, false, ◌||◌, List, [], ◌∷◌, ◌++◌, length, map, refl, sym, ap, subst, ◌∙◌, append_assoc, append-nil, add-one}
use Rattle.std.specs.Prelude.{ℤ, ◌↔◌, slice_get, IsTrue, IsSomeAnd}
use Rattle.std.specs.declared.option.Option.{Option}
use Rattle.std.specs.declared.option.Option.TheVariants.{Some, None}
use Rattle.std.specs.List.{last_or}
use Rattle.std.specs.Option.{option_and_then, option_flatten, option_map}
use Rattle.std.proofs.lemmas.Bool.{false≢true}
use Rattle.std.proofs.lemmas.List.{length_push}
use Rattle.std.proofs.lemmas.Option.{slice_get-map}
use Rattle.cgm_atom.specs.declared.entries.BadStep.TheVariants as fault
use Rattle.cgm_atom.specs.declared.entries.Entry.{Entry}
use Rattle.cgm_atom.specs.declared.entries.Entry.TheVariants.{Best, Lemma}
use Rattle.cgm_atom.specs.Acceptance.{IsAccepted, IsAcceptedAfter, IsAcceptedState, IsClosed, first_fault}
use Rattle.cgm_atom.specs.Entailment.{best_values}
use Rattle.cgm_atom.specs.Instance.{Instance}
use Rattle.cgm_atom.specs.Laws.{EndsWithClosing}
use Rattle.cgm_atom.specs.LogState.{LogState, best_at, empty_state, entry_values, is_closing, item_at, last_best, live_at, state_after, state_of, state_with, values_at_place}

-- ---- lists

one_longer : {X : Type 0} (xs : List X) (x : X) → length (xs ++ x ∷ []) ≡ suc (length xs)
one_longer xs x = length_push xs x ∙ add-one (length xs)

at_front : {X : Type 0} (front : List X) (x : X) (rest : List X) → slice_get (front ++ x ∷ rest) (length front) ≡ Some x
at_front [] x rest = refl
at_front (y ∷ front) x rest = at_front front x rest

pub last_at : {X : Type 0} (x : X) (xs : List X) → slice_get (x ∷ xs) (length xs) ≡ last_or (Some x) xs
last_at x [] = refl
last_at x (y ∷ xs) = last_at y xs

item_at-last : {X : Type 0} (xs : List X) → item_at xs (length xs) ≡ last_or None xs
item_at-last [] = refl
item_at-last (x ∷ xs) = last_at x xs

pub last_of_pushed : {X : Type 0} (o : Option X) (x : X) (xs : List X) → last_or o (xs ++ x ∷ []) ≡ Some x
last_of_pushed o x [] = refl
last_of_pushed o x (y ∷ xs) = last_of_pushed (Some y) x xs

pub best_values-append : (front rest : List Entry) → best_values (front ++ rest) ≡ best_values front ++ best_values rest
best_values-append [] rest = refl
best_values-append (Best by values ∷ front) rest = ap (λ (vs : List (List ℤ)). values ∷ vs) (best_values-append front rest)
best_values-append (Lemma by clause hints bound ∷ front) rest = best_values-append front rest

-- ---- the state

state_after-append : (s : LogState) (log more : List Entry) → state_after s (log ++ more) ≡ state_after (state_after s log) more
state_after-append s [] more = refl
state_after-append s (e ∷ log) more = state_after-append (state_with s e) log more

pub state_of-push : (log : List Entry) (e : Entry) → state_of (log ++ e ∷ []) ≡ state_with (state_of log) e
unfolding state_of
state_of-push log e = state_after-append empty_state log (e ∷ [])

state_after-entries : (s : LogState) (log : List Entry) → (state_after s log).entries ≡ s.entries ++ map Some log
state_after-entries s [] = sym (append-nil s.entries)
state_after-entries s (e ∷ log) =
    state_after-entries (state_with s e) log ∙ append_assoc s.entries (Some e ∷ []) (map Some log)

-- each entry is live, at its place
pub state_of-entries : (log : List Entry) → (state_of log).entries ≡ map Some log
unfolding state_of
state_of-entries log = state_after-entries empty_state log

-- the places of the bests among entries that so many others precede
abbrev pub places_after : ℕ → List Entry → List ℕ
places_after n [] = []
places_after n (Best by values ∷ log) = suc n ∷ places_after (suc n) log
places_after n (Lemma by clause hints bound ∷ log) = places_after (suc n) log

state_after-bests : (s : LogState) (log : List Entry) → (state_after s log).bests ≡ s.bests ++ places_after (length s.entries) log
state_after-bests s [] = sym (append-nil s.bests)
state_after-bests s (Best by values ∷ log) =
    state_after-bests (state_with s (Best by values)) log
    ∙ ap (λ (n : ℕ). (s.bests ++ suc (length s.entries) ∷ []) ++ places_after n log) (one_longer s.entries (Some (Best by values)))
    ∙ append_assoc s.bests (suc (length s.entries) ∷ []) (places_after (suc (length s.entries)) log)
state_after-bests s (Lemma by clause hints bound ∷ log) =
    state_after-bests (state_with s (Lemma by clause hints bound)) log
    ∙ ap (λ (n : ℕ). s.bests ++ places_after n log) (one_longer s.entries (Some (Lemma by clause hints bound)))

state_of-bests : (log : List Entry) → (state_of log).bests ≡ places_after 0 log
unfolding state_of
state_of-bests log = state_after-bests empty_state log

length-places_after : (n : ℕ) (log : List Entry) → length (places_after n log) ≡ length (best_values log)
length-places_after n [] = refl
length-places_after n (Best by values ∷ log) = ap suc (length-places_after (suc n) log)
length-places_after n (Lemma by clause hints bound ∷ log) = length-places_after (suc n) log

pub count_of_bests : (log : List Entry) → length (state_of log).bests ≡ length (best_values log)
count_of_bests log = ap length (state_of-bests log) ∙ length-places_after 0 log

-- ---- live entries

flatten-Some : {X : Type 0} (o : Option X) → option_flatten (option_map Some o) ≡ o
flatten-Some None = refl
flatten-Some (Some x) = refl

-- each entry of a log is live
pub live_at-log : (log : List Entry) (place : ℕ) → live_at (state_of log) place ≡ item_at log place
live_at-log log zero = refl
live_at-log log (suc i) =
    ap (λ (xs : List (Option Entry)). option_flatten (slice_get xs i)) (state_of-entries log)
    ∙ ap option_flatten (slice_get-map Some log i)
    ∙ flatten-Some (slice_get log i)

-- the live entry at a place is the log's there
pub live_is_of_log : (log : List Entry) (place : ℕ) (e : Entry) → live_at (state_of log) place ≡ Some e → item_at log place ≡ Some e
live_is_of_log log place e h = sym (live_at-log log place) ∙ h

-- ---- live bests

abbrev values_in : List Entry → ℕ → Option (List ℤ)
values_in log place = option_and_then entry_values (item_at log place)

past : (front : List Entry) (e : Entry) (log : List Entry) (i : ℕ) → option_and_then (values_in ((front ++ e ∷ []) ++ log)) (slice_get (places_after (length (front ++ e ∷ [])) log) i) ≡ option_and_then (values_in (front ++ e ∷ log)) (slice_get (places_after (suc (length front)) log) i)
past front e log i =
    ap (λ (xs : List Entry). option_and_then (values_in xs) (slice_get (places_after (length (front ++ e ∷ [])) log) i)) (append_assoc front (e ∷ []) log)
    ∙ ap (λ (n : ℕ). option_and_then (values_in (front ++ e ∷ log)) (slice_get (places_after n log) i)) (one_longer front e)

by_places : (front log : List Entry) (i : ℕ) → option_and_then (values_in (front ++ log)) (slice_get (places_after (length front) log) i) ≡ slice_get (best_values log) i
by_places front [] i = refl
by_places front (Best by values ∷ log) zero = ap (option_and_then entry_values) (at_front front (Best by values) log)
by_places front (Best by values ∷ log) (suc i) =
    sym (past front (Best by values) log i) ∙ by_places (front ++ Best by values ∷ []) log i
by_places front (Lemma by clause hints bound ∷ log) i =
    sym (past front (Lemma by clause hints bound) log i) ∙ by_places (front ++ Lemma by clause hints bound ∷ []) log i

in_log : (log : List Entry) (o : Option ℕ) → option_and_then (values_at_place (state_of log)) o ≡ option_and_then (values_in log) o
in_log log None = refl
in_log log (Some place) = ap (option_and_then entry_values) (live_at-log log place)

-- each best of a log is live
pub best_at-log : (log : List Entry) (ordinal : ℕ) → best_at (state_of log) ordinal ≡ item_at (best_values log) ordinal
best_at-log log zero = refl
best_at-log log (suc i) =
    in_log log (slice_get (state_of log).bests i)
    ∙ ap (λ (places : List ℕ). option_and_then (values_in log) (slice_get places i)) (state_of-bests log)
    ∙ by_places [] log i

-- the live best with an ordinal is the log's with it
pub best_is_of_log : (log : List Entry) (ordinal : ℕ) (values : List ℤ) → best_at (state_of log) ordinal ≡ Some values → item_at (best_values log) ordinal ≡ Some values
best_is_of_log log ordinal values h = sym (best_at-log log ordinal) ∙ h

-- the last best is live
pub last_best_of_log : (log : List Entry) → last_best (state_of log) ≡ last_or None (best_values log)
last_best_of_log log =
    ap (best_at (state_of log)) (count_of_bests log)
    ∙ best_at-log log (length (best_values log))
    ∙ item_at-last (best_values log)

-- ---- acceptance

accepted_after_both : (p : Instance) (s : LogState) (log more : List Entry) → IsAcceptedAfter p s log → IsAcceptedAfter p (state_after s log) more → IsAcceptedAfter p s (log ++ more)
accepted_after_both p s [] more h k = k
accepted_after_both p s (e ∷ log) more h k = (h.0, accepted_after_both p (state_with s e) log more h.1 k)

accepted_after_parts : (p : Instance) (s : LogState) (log more : List Entry) → IsAcceptedAfter p s (log ++ more) → IsAcceptedAfter p s log × IsAcceptedAfter p (state_after s log) more
accepted_after_parts p s [] more h = (tt, h)
accepted_after_parts p s (e ∷ log) more h =
    let parts = accepted_after_parts p (state_with s e) log more h.1 in
    ((h.0, parts.0), parts.1)

pub IsAccepted-nil : (p : Instance) → IsAccepted p []
unfolding IsAccepted
IsAccepted-nil p = tt

pub IsAccepted-push : (p : Instance) (log : List Entry) (e : Entry) → IsAccepted p log → first_fault p (state_of log) e ≡ None → IsAccepted p (log ++ e ∷ [])
unfolding IsAccepted state_of
IsAccepted-push p log e h k = accepted_after_both p empty_state log (e ∷ []) h (k, tt)

pub IsAccepted-next : (p : Instance) (log : List Entry) (e : Entry) (more : List Entry) → IsAccepted p (log ++ e ∷ more) → first_fault p (state_of log) e ≡ None
unfolding IsAccepted state_of
IsAccepted-next p log e more h = (accepted_after_parts p empty_state log (e ∷ more) h).1.0

-- the state of an accepted log is an accepted state
pub accepted_state : (p : Instance) (log : List Entry) (s : LogState) → s ≡ state_of log → IsAccepted p log → IsAcceptedState p s
accepted_state p log s e h = (log, h, e)

pub accepted_states_grow : (p : Instance) (s : LogState) (e : Entry) → IsAcceptedState p s → first_fault p s e ≡ None → IsAcceptedState p (state_with s e)
accepted_states_grow p s e h k = (
  h.0 ++ e ∷ [],
  IsAccepted-push p h.0 e h.1 (subst (λ (t : LogState). first_fault p t e ≡ None) h.2 k),
  ap (λ (t : LogState). state_with t e) h.2 ∙ sym (state_of-push h.0 e),
)

-- ---- nothing follows a lemma without atoms

fault_after_closed : (p : Instance) (s : LogState) (e : Entry) → IsTrue s.closed → first_fault p s e ≡ Some fault.AfterEnd
unfolding first_fault
fault_after_closed p s (Best by values) closed = rw closed refl
fault_after_closed p s (Lemma by clause hints bound) closed = rw closed refl

closed_accepts_none : (p : Instance) (s : LogState) (e : Entry) → IsTrue s.closed → ¬ (first_fault p s e ≡ None)
closed_accepts_none p s e closed h =
    let some = fault_after_closed p s e closed in
    absurd (cc)

open_by_cases : (p : Instance) (s : LogState) (e : Entry) (t : Bool) → s.closed ≡ t → first_fault p s e ≡ None → s.closed ≡ false
open_by_cases p s e true closed h = absurd (closed_accepts_none p s e closed h)
open_by_cases p s e false still_open h = still_open

closing_first : (p : Instance) (log : List Entry) (e : Entry) → IsAccepted p (log ++ e ∷ []) → (state_of (log ++ e ∷ [])).closed ≡ is_closing e
closing_first p log e h =
    ap (λ (s : LogState). s.closed) (state_of-push log e)
    ∙ ap (λ (t : Bool). t || is_closing e) (open_by_cases p (state_of log) e (state_of log).closed refl (IsAccepted-next p log e [] h))

ends_nil : IsClosed [] ↔ EndsWithClosing []
unfolding state_of
ends_nil = (λ h. absurd (false≢true h), λ h. absurd h)

ends_pushed : (p : Instance) (log : List Entry) (e : Entry) → IsAccepted p (log ++ e ∷ []) → IsClosed (log ++ e ∷ []) ↔ EndsWithClosing (log ++ e ∷ [])
ends_pushed p log e h =
    let closed = closing_first p log e h in
    let last : last_or None (log ++ e ∷ []) ≡ Some e = last_of_pushed None e log in (
      λ k. subst (λ (o : Option Entry). IsSomeAnd o (λ x. IsTrue (is_closing x))) (sym last) (sym closed ∙ k),
      λ k. closed ∙ subst (λ (o : Option Entry). IsSomeAnd o (λ x. IsTrue (is_closing x))) last k,
    )

-- a log with these entries, of which the last stands alone
ends_after : (p : Instance) (front : List Entry) (e : Entry) (rest : List Entry) → IsAccepted p (front ++ e ∷ rest) → IsClosed (front ++ e ∷ rest) ↔ EndsWithClosing (front ++ e ∷ rest)
ends_after p front e [] h = ends_pushed p front e h
ends_after p front e (x ∷ rest) h =
    let same : (front ++ e ∷ []) ++ x ∷ rest ≡ front ++ e ∷ x ∷ rest = append_assoc front (e ∷ []) (x ∷ rest) in
    subst (λ (log : List Entry). IsClosed log ↔ EndsWithClosing log) same
    (ends_after p (front ++ e ∷ []) x rest (subst (λ (log : List Entry). IsAccepted p log) (sym same) h))

pub closed_log_ends : (p : Instance) (log : List Entry) → IsAccepted p log → IsClosed log ↔ EndsWithClosing log
closed_log_ends p [] h = ends_nil
closed_log_ends p (e ∷ log) h = ends_after p [] e log h
