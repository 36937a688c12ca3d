-- The log that the pending lemmas follow: it is accepted and still open, and hints name and carry in it what they do in the log.
use Rattle.std.proofs.Common.{◌≡◌, ℕ, zero, suc, ◌+◌, ◌≤◌, false, ◌||◌, List, [], ◌∷◌, ◌++◌, length, refl, ap, sym, ◌∙◌, arith, append-nil}
use Rattle.std.specs.Prelude.{slice_get, ◌≢◌, ◌==◌}
use Rattle.std.specs.declared.option.Option.{Option}
use Rattle.std.specs.declared.option.Option.TheVariants.{Some, None}
use Rattle.std.specs.List.{All}
use Rattle.std.specs.Option.{option_and_then, option_map, option_map_or}
use Rattle.std.proofs.lemmas.Bool.{ne_eqb}
use Rattle.std.proofs.lemmas.List.{length-map}
use Rattle.std.proofs.lemmas.List.Elements.{All-head, All-tail}
use Rattle.cgm_atom.specs.declared.constraints.Atom.{Atom}
use Rattle.cgm_atom.specs.declared.constraints.Clause.{Clause}
use Rattle.cgm_atom.specs.declared.entries.Entry.{Entry}
use Rattle.cgm_atom.specs.declared.entries.Entry.TheVariants.{Best, Lemma}
use Rattle.cgm_atom.specs.declared.entries.Hint.{Hint}
use Rattle.cgm_atom.specs.declared.entries.Hint.TheVariants as hint
use Rattle.cgm_atom.specs.Acceptance.{IsAcceptedAfter, IsAcceptedState}
use Rattle.cgm_atom.specs.ClauseAtoms.{AreKnown}
use Rattle.cgm_atom.specs.Constraints.{of_clause}
use Rattle.cgm_atom.specs.Cut.{cut}
use Rattle.cgm_atom.specs.Entailment.{best_values}
use Rattle.cgm_atom.specs.Instance.{Instance, var_count, vector}
use Rattle.cgm_atom.specs.LogState.{LogState, best_at, carried, empty_state, item_at, lemma_bound, lemma_clause, live_at, named, state_after, state_of, state_with}
use Rattle.cgm_atom.specs.Placing.{all_placed, placed, placed_entry}
use Rattle.cgm_atom.specs.Ranges.{IsPlaced}
use Rattle.cgm_atom.proofs.PlacedHints.{placed_carry_pending, placed_name_pending}
use Rattle.cgm_atom.proofs.StateLemmas.{accepted_states_grow, best_at-log, best_values-append, live_at-log, state_of-entries}
use Rattle.cgm_step.specs.declared.naming.Found.{Found}
use Rattle.cgm_step.specs.Naming.{IsFound}
use Rattle.cgm_step.proofs.Accepted.{lemma_atoms_known}
use Rattle.cgm_learn.specs.Learning.{IsKnownHint, IsOpenLemma, state_with_pending}
use Rattle.cgm_learn.specs.Grounds.{GroundState, IsFoundOn, IsGround, IsKnownOn, placed_on, whole_state}

-- ---- the state

after_append : (s : LogState) (log more : List Entry) → state_after s (log ++ more) ≡ state_after (state_after s log) more
after_append s [] more = refl
after_append s (e ∷ log) more = after_append (state_with s e) log more

of_append : (log more : List Entry) → state_of (log ++ more) ≡ state_after (state_of log) more
unfolding state_of
of_append log more = after_append empty_state log more

-- the log of the state, and the longer one
record IsOfLog (s : LogState) (lemmas log : List Entry) : Type 0 where
  count : length s.entries ≡ length log
  state : s ≡ state_of log
  whole : state_with_pending s lemmas ≡ state_of (log ++ all_placed (length log) lemmas)

counted : (log : List Entry) → length (state_of log).entries ≡ length log
counted log = ap length (state_of-entries log) ∙ length-map log Some

of_log : (s : LogState) (lemmas log : List Entry) → s ≡ state_of log → IsOfLog s lemmas log
of_log s lemmas log e =
    let count : length s.entries ≡ length log = ap (λ (x : LogState). length x.entries) e ∙ counted log in
    record {
      count = count;
      state = e;
      whole = ap (λ (x : LogState). state_after x (all_placed (length s.entries) lemmas)) e ∙ ap (λ n. state_after (state_of log) (all_placed n lemmas)) count ∙ sym (of_append log (all_placed (length log) lemmas));
    }

accepted_after : (p : Instance) (s : LogState) (more : List Entry) → IsAcceptedState p s → IsAcceptedAfter p s more → IsAcceptedState p (state_after s more)
accepted_after p s [] h k = h
accepted_after p s (e ∷ more) h k = accepted_after p (state_with s e) more (accepted_states_grow p s e h k.0) k.1

-- it is accepted
pub accepted_whole : (g : GroundState) → IsGround g → IsAcceptedState g.problem (whole_state g)
accepted_whole g valid = accepted_after g.problem g.state (all_placed (length g.state.entries) g.pending) valid.accepted valid.follows

some_atoms : (atoms : List Atom) → atoms ≢ [] → (length atoms == 0) ≡ false
some_atoms [] h = absurd (h refl)
some_atoms (a ∷ atoms) h = ne_eqb (length (a ∷ atoms)) 0 (λ e. omega (arith, e))

open_after : (n : ℕ) (s : LogState) (lemmas : List Entry) → s.closed ≡ false → All IsOpenLemma lemmas → (state_after s (all_placed n lemmas)).closed ≡ false
open_after n s [] e h = e
open_after n s (Best by values ∷ lemmas) e h = absurd (All-head IsOpenLemma (Best by values) lemmas h)
open_after n s (Lemma by clause hints bound ∷ lemmas) e h =
    open_after n (state_with s (placed_entry n (Lemma by clause hints bound))) lemmas
    (ap (λ t. t || (length clause.atoms == 0)) e ∙ some_atoms clause.atoms (All-head IsOpenLemma (Lemma by clause hints bound) lemmas h))
    (All-tail IsOpenLemma (Lemma by clause hints bound) lemmas h)

-- and still open
pub open_whole : (g : GroundState) → IsGround g → (whole_state g).closed ≡ false
open_whole g valid = open_after (length g.state.entries) g.state g.pending valid.still_open valid.with_atoms

-- ---- what entries and bests stay

item_same : {X : Type 0} (xs more : List X) (place : ℕ) → place ≤ length xs → item_at (xs ++ more) place ≡ item_at xs place
item_same xs more zero h = refl
item_same [] more (suc i) h = absurd (omega arith)
item_same (x ∷ xs) more (suc zero) h = refl
item_same (x ∷ xs) more (suc (suc i)) h = item_same xs more (suc i) (omega arith)

live_same : (log more : List Entry) (place : ℕ) → place ≤ length log → live_at (state_of (log ++ more)) place ≡ live_at (state_of log) place
live_same log more place h = live_at-log (log ++ more) place ∙ item_same log more place h ∙ sym (live_at-log log place)

no_bests : (n : ℕ) (lemmas : List Entry) → All IsOpenLemma lemmas → best_values (all_placed n lemmas) ≡ []
no_bests n [] h = refl
no_bests n (Best by values ∷ lemmas) h = absurd (All-head IsOpenLemma (Best by values) lemmas h)
no_bests n (Lemma by clause hints bound ∷ lemmas) h = no_bests n lemmas (All-tail IsOpenLemma (Lemma by clause hints bound) lemmas h)

best_same : (log more : List Entry) (ordinal : ℕ) → best_values more ≡ [] → best_at (state_of (log ++ more)) ordinal ≡ best_at (state_of log) ordinal
best_same log more ordinal h =
    best_at-log (log ++ more) ordinal
    ∙ ap (λ bests. item_at bests ordinal) (best_values-append log more ∙ ap (λ bests. best_values log ++ bests) h ∙ append-nil (best_values log))
    ∙ sym (best_at-log log ordinal)

-- ---- what hints name and carry

named_by_entry : (p : Instance) (s t : LogState) (place : ℕ) → live_at s place ≡ live_at t place → named p s (hint.Entry place) ≡ named p t (hint.Entry place)
unfolding named
named_by_entry p s t place e = ap (λ o. option_map of_clause (option_and_then lemma_clause o)) e

named_by_best : (p : Instance) (s t : LogState) (ordinal part : ℕ) → best_at s ordinal ≡ best_at t ordinal → named p s (hint.Cut ordinal part) ≡ named p t (hint.Cut ordinal part)
unfolding named
named_by_best p s t ordinal part e = ap (λ o. option_map of_clause (option_and_then (λ values. slice_get (cut p.objectives (vector p values)) part) o)) e

named_by_clause : (p : Instance) (s t : LogState) (n : ℕ) → named p s (hint.Clause n) ≡ named p t (hint.Clause n)
unfolding named
named_by_clause p s t n = refl

named_by_row : (p : Instance) (s t : LogState) (n : ℕ) → named p s (hint.Row n) ≡ named p t (hint.Row n)
unfolding named
named_by_row p s t n = refl

carried_by_entry : (s t : LogState) (place : ℕ) → live_at s place ≡ live_at t place → carried s (hint.Entry place) ≡ carried t (hint.Entry place)
unfolding carried
carried_by_entry s t place e = ap (λ o. option_map_or lemma_bound o 0) e

carried_by_other : (s t : LogState) (n : ℕ) → (carried s (hint.Clause n) ≡ carried t (hint.Clause n)) × (carried s (hint.Row n) ≡ carried t (hint.Row n))
unfolding carried
carried_by_other s t n = (refl, refl)

carried_by_best : (s t : LogState) (ordinal part : ℕ) → carried s (hint.Cut ordinal part) ≡ carried t (hint.Cut ordinal part)
unfolding carried
carried_by_best s t ordinal part = refl

-- live entries up to the log's end, and all bests, are those of the log
record AreSame (s t : LogState) (n : ℕ) : Type 0 where
  entries : (place : ℕ) → place ≤ n → live_at s place ≡ live_at t place
  bests : (ordinal : ℕ) → best_at s ordinal ≡ best_at t ordinal

same_of_log : (s : LogState) (lemmas log : List Entry) → IsOfLog s lemmas log → All IsOpenLemma lemmas → AreSame (state_with_pending s lemmas) s (length s.entries)
same_of_log s lemmas log h all =
    rw (h.whole, h.state)
    (record {
      entries = λ place k. live_same log (all_placed (length log) lemmas) place (omega (arith, k, counted log));
      bests = λ ordinal. best_same log (all_placed (length log) lemmas) ordinal (no_bests (length log) lemmas all);
    })

same_in_whole : (g : GroundState) → IsGround g → AreSame (whole_state g) g.state (length g.state.entries)
same_in_whole g valid = same_of_log g.state g.pending valid.accepted.0 (of_log g.state g.pending valid.accepted.0 valid.accepted.2) valid.with_atoms

named_same : (p : Instance) (s t : LogState) (n m : ℕ) (h : Hint) → AreSame s t n → IsPlaced h → IsKnownHint n m h → named p s (placed n h) ≡ named p t h
named_same p s t n m (hint.Clause i) same is_placed known = named_by_clause p s t i
named_same p s t n m (hint.Row i) same is_placed known = named_by_row p s t i
named_same p s t n m (hint.Entry place) same is_placed known = named_by_entry p s t place (same.entries place known)
named_same p s t n m (hint.Own i) same is_placed known = absurd is_placed
named_same p s t n m (hint.Cut ordinal part) same is_placed known = named_by_best p s t ordinal part (same.bests ordinal)

carried_same : (s t : LogState) (n m : ℕ) (h : Hint) → AreSame s t n → IsPlaced h → IsKnownHint n m h → carried s (placed n h) ≡ carried t h
carried_same s t n m (hint.Clause i) same is_placed known = (carried_by_other s t i).0
carried_same s t n m (hint.Row i) same is_placed known = (carried_by_other s t i).1
carried_same s t n m (hint.Entry place) same is_placed known = carried_by_entry s t place (same.entries place known)
carried_same s t n m (hint.Own i) same is_placed known = absurd is_placed
carried_same s t n m (hint.Cut ordinal part) same is_placed known = carried_by_best s t ordinal part

found_same : (p : Instance) (s t : LogState) (h h' : Hint) (r : Option Found) → named p s h' ≡ named p t h → carried s h' ≡ carried t h → IsFound p t h r → IsFound p s h' r
found_same p s t h h' None e f found = e ∙ found
found_same p s t h h' (Some n) e f found = (e ∙ found.0, found.1, found.2 ∙ sym f)

-- a hint to the log or the problem leads to the same
pub found_in_whole : (g : GroundState) (h : Hint) (r : Option Found) → IsGround g → IsKnownOn g h → IsPlaced h → IsFound g.problem g.state h r → IsFoundOn g h r
found_in_whole g h r valid known is_placed found =
    let same = same_in_whole g valid in
    found_same g.problem (whole_state g) g.state h (placed_on g h) r (named_same g.problem (whole_state g) g.state (length g.state.entries) (length g.pending) h same is_placed known) (carried_same (whole_state g) g.state (length g.state.entries) (length g.pending) h same is_placed known) found

-- ---- pending lemmas

-- what a hint to a pending lemma names and carries
pub record IsPendingFound (p : Instance) (s : LogState) (lemmas : List Entry) (i : ℕ) (clause : Clause) (bound : ℕ) : Type 0 where
  pub there : named p (state_with_pending s lemmas) (hint.Entry (length s.entries + i)) ≡ Some (of_clause clause)
  pub known : AreKnown (var_count p) clause.atoms
  pub carries : bound ≡ carried (state_with_pending s lemmas) (hint.Entry (length s.entries + i))

of_some : (o : Option Clause) (clause : Clause) → option_map of_clause o ≡ Some (of_clause clause) → o ≡ Some clause
of_some None clause e = absurd (cc)
of_some (Some c) clause e = let same : c ≡ clause = cc in ap Some same

named_clause : (p : Instance) (s : LogState) (place : ℕ) (clause : Clause) → named p s (hint.Entry place) ≡ Some (of_clause clause) → option_and_then lemma_clause (live_at s place) ≡ Some clause
unfolding named
named_clause p s place clause e = of_some (option_and_then lemma_clause (live_at s place)) clause e

pending_in_log : (p : Instance) (s : LogState) (lemmas log : List Entry) (i by bound : ℕ) (clause : Clause) (hints : List Hint) → IsOfLog s lemmas log → slice_get lemmas i ≡ Some (Lemma by clause hints bound)
    → (named p (state_with_pending s lemmas) (hint.Entry (length s.entries + (i + 1))) ≡ Some (of_clause clause)) × (bound ≡ carried (state_with_pending s lemmas) (hint.Entry (length s.entries + (i + 1))))
pending_in_log p s lemmas log i by bound clause hints h e =
    rw (h.whole, h.count) (
      placed_name_pending p log lemmas i ∙ ap (λ o. option_map of_clause (option_and_then lemma_clause o)) e,
      sym (placed_carry_pending log lemmas i ∙ ap (λ o. option_map_or lemma_bound o 0) e),
    )

pub pending_found : (g : GroundState) (i j by bound : ℕ) (clause : Clause) (hints : List Hint) → IsGround g → i ≡ j + 1 → slice_get g.pending j ≡ Some (Lemma by clause hints bound) → IsPendingFound g.problem g.state g.pending i clause bound
pending_found g i j by bound clause hints valid e found =
    let p : Instance = g.problem in
    let s : LogState = g.state in
    let lemmas : List Entry = g.pending in
    let parts = pending_in_log p s lemmas valid.accepted.0 j by bound clause hints (of_log s lemmas valid.accepted.0 valid.accepted.2) found in
    rw e
    (record {
      there = parts.0;
      known = lemma_atoms_known p (whole_state g) (length s.entries + (j + 1)) clause (accepted_whole g valid) (named_clause p (whole_state g) (length s.entries + (j + 1)) clause parts.0);
      carries = parts.1;
    })
