-- What every list of events keeps.
use Rattle.std.proofs.Common.{◌≡◌, ℕ, zero, suc, ◌+◌, ◌≤◌, Bool, true, false, List, [], ◌∷◌, ◌++◌, length, refl, sym, ap, subst, ◌∙◌, append_assoc, append-nil, arith, take, drop}
use Rattle.std.specs.Prelude.{IfSome, IsSomeAnd, slice_get, slice_set, replicate, if◌then◌else◌}
use Rattle.std.specs.declared.option.Option.{Option}
use Rattle.std.specs.declared.option.Option.TheVariants.{Some, None}
use Rattle.std.specs.Option.{option_flatten}
use Rattle.std.proofs.lemmas.List.{length-append, take-append-drop}
use Rattle.cgm_atom.specs.declared.entries.Entry.{Entry}
use Rattle.cgm_atom.specs.Acceptance.{IsAccepted, IsAcceptedAfter}
use Rattle.cgm_atom.specs.Instance.{Instance}
use Rattle.cgm_atom.specs.Limits.{max_workers}
use Rattle.cgm_atom.specs.LogState.{LogState, empty_state, state_of, state_with}
use Rattle.cgm_atom.proofs.Solving.{bests_are_solutions}
use Rattle.cgm_atom.proofs.Entailing.{lemmas_follow}
use Rattle.cgm_atom.proofs.LaterBounds.{all_bests_descend}
use Rattle.cgm_atom.proofs.StateLemmas.{IsAccepted-nil}
use Rattle.cgm_log.specs.declared.batches.Batch.{Batch}
use Rattle.cgm_log.specs.Landing.{IsProperBatch, kept_candidate, landed, with_landed}
use Rattle.cgm_log.proofs.Landings.{landing_accepted}
use Rattle.cgm_log.proofs.LaterLandings.{proper_on_log}
use Rattle.cgm_atom.specs.Placing.{all_placed}
use Rattle.cgm_log.specs.declared.events.Event.{Event}
use Rattle.cgm_log.specs.declared.events.Event.TheVariants.{Enter, Trade, Look, Leave}
use Rattle.cgm_log.specs.Events.{AreAllowedEvents, AreFronts, CoreState, IsAllowedEvent, IsFirstIllegal, after_event, after_events, begin, seen_by}
use Rattle.cgm_core.specs.Laws.{EventsKeepLogs, LogsGrow}

-- ---- a trade

by_closed : (p : Instance) (log added : List Entry) (t : Bool) → IsAccepted p log → (t ≡ false → IsAccepted p (log ++ added)) → IsAccepted p (log ++ (if t then [] else added))
by_closed p log added true h rest = subst (λ (xs : List Entry). IsAccepted p xs) (sym (append-nil log)) h
by_closed p log added false h rest = rest refl

pub trade_accepted : (p : Instance) (log : List Entry) (seen : ℕ) (b : Batch) → IsAccepted p log → IsProperBatch p (take seen log) b → IsAccepted p (with_landed p log b)
trade_accepted p log seen b h proper =
    by_closed p log (all_placed (length log) b.lemmas ++ kept_candidate p (state_of log) b.by b.candidate) (state_of log).closed h
    (λ still_open. landing_accepted p log b h still_open (proper_on_log p log seen b still_open proper))

-- ---- what each worker has seen

-- at each place the old item, or the one that was set
set_or_old : (P : Option ℕ → Type 0) (seen : List (Option ℕ)) (i j : ℕ) (new : Option ℕ) → P (option_flatten (slice_get seen j)) → P new → P (option_flatten (slice_get (slice_set seen i new) j))
set_or_old P [] i j new old h = old
set_or_old P (s ∷ seen) zero zero new old h = h
set_or_old P (s ∷ seen) zero (suc j) new old h = old
set_or_old P (s ∷ seen) (suc i) zero new old h = old
set_or_old P (s ∷ seen) (suc i) (suc j) new old h = set_or_old P seen i j new old h

none_seen : (n j : ℕ) → option_flatten (slice_get (replicate {A = Option ℕ} n None) j) ≡ None
none_seen zero j = refl
none_seen (suc n) zero = refl
none_seen (suc n) (suc j) = none_seen n j

further : (o : Option ℕ) (n m : ℕ) → n ≤ m → IfSome o (λ k. k ≤ n) → IfSome o (λ k. k ≤ m)
further None n m le h = tt
further (Some k) n m le h = omega arith

pub fronts_set : (s : CoreState) (log : List Entry) (worker : ℕ) (new : Option ℕ) → length s.log ≤ length log → IfSome new (λ n. n ≤ length log) → AreFronts s → AreFronts (record { problem = s.problem; log = log; fronts_seen = slice_set s.fronts_seen worker new })
fronts_set s log worker new le h fronts other =
    set_or_old (λ (o : Option ℕ). IfSome o (λ n. n ≤ length log)) s.fronts_seen worker other new (further (seen_by s other) (length s.log) (length log) le (fronts other)) h

-- ---- one event

record IsSound (p : Instance) (s : CoreState) : Type 0 where
  problem : s.problem ≡ p
  accepted : IsAccepted p s.log
  fronts : AreFronts s

trade_kept : (p : Instance) (s : CoreState) (worker : ℕ) (b : Batch) (o : Option ℕ) → seen_by s worker ≡ o → IsSound p s → IsSomeAnd o (λ n. IsProperBatch s.problem (take n s.log) b × (b.by ≡ worker)) → IsSound p (after_event s (Trade worker b))
trade_kept p s worker b None e sound allowed = absurd allowed
trade_kept p s worker b (Some n) e sound allowed =
    let le : length s.log ≤ length (with_landed s.problem s.log b) = omega (arith, length-append s.log (landed s.problem s.log b)) in
    record {
      problem = sound.problem;
      accepted =
          subst (λ (q : Instance). IsAccepted q (with_landed s.problem s.log b)) sound.problem
          (trade_accepted s.problem s.log n b (subst (λ (q : Instance). IsAccepted q s.log) (sym sound.problem) sound.accepted) allowed.0);
      fronts = fronts_set s (with_landed s.problem s.log b) worker (Some (length (with_landed s.problem s.log b))) le (omega arith) sound.fronts;
    }

step_kept : (p : Instance) (s : CoreState) (e : Event) → IsSound p s → IsAllowedEvent s e → IsSound p (after_event s e)
step_kept p s (Enter worker) sound allowed = record {
  problem = sound.problem;
  accepted = sound.accepted;
  fronts = fronts_set s s.log worker (Some 0) (omega arith) (omega arith) sound.fronts;
}
step_kept p s (Trade worker b) sound allowed = trade_kept p s worker b (seen_by s worker) refl sound allowed
step_kept p s (Look worker count) sound allowed = sound
step_kept p s (Leave worker) sound allowed = record {
  problem = sound.problem;
  accepted = sound.accepted;
  fronts = fronts_set s s.log worker None (omega arith) tt sound.fronts;
}

-- ---- all events

all_kept : (p : Instance) (s : CoreState) (events : List Event) → IsSound p s → AreAllowedEvents s events → IsSound p (after_events s events)
all_kept p s [] sound allowed = sound
all_kept p s (e ∷ events) sound allowed = all_kept p (after_event s e) events (step_kept p s e sound allowed.0) allowed.1

nothing_seen : (o : Option ℕ) (n : ℕ) → o ≡ None → IfSome o (λ k. k ≤ n)
nothing_seen None n e = tt
nothing_seen (Some k) n e = absurd (cc)

pub events_keep : EventsKeepLogs
events_keep p events valid allowed =
    let sound : IsSound p (after_events (begin p) events) =
    all_kept p (begin p) events (record { problem = refl; accepted = IsAccepted-nil p; fronts = λ worker. nothing_seen (seen_by (begin p) worker) 0 (none_seen max_workers worker) }) allowed in
    let log = (after_events (begin p) events).log in
    record {
      problem = sound.problem;
      accepted = sound.accepted;
      entailed = lemmas_follow p log sound.accepted;
      solutions = bests_are_solutions p log valid.proper sound.accepted;
      descending = all_bests_descend p log sound.accepted;
      fronts = sound.fronts;
    }

-- ---- a log only grows

grown : (s : CoreState) (e : Event) → (more : List Entry) × ((after_event s e).log ≡ s.log ++ more)
grown s (Enter worker) = ([], sym (append-nil s.log))
grown s (Trade worker b) = (landed s.problem s.log b, refl)
grown s (Look worker count) = ([], sym (append-nil s.log))
grown s (Leave worker) = ([], sym (append-nil s.log))

pub all_grown : LogsGrow
all_grown s [] = ([], sym (append-nil s.log))
all_grown s (e ∷ events) =
    let first = grown s e in
    let rest = all_grown (after_event s e) events in
    (first.0 ++ rest.0, rest.1 ∙ ap (λ (log : List Entry). log ++ rest.0) first.1 ∙ append_assoc s.log first.0 rest.0)

-- ---- fronts of accepted logs

accepted_parts : (p : Instance) (s : LogState) (log more : List Entry) → IsAcceptedAfter p s (log ++ more) → IsAcceptedAfter p s log
accepted_parts p s [] more h = tt
accepted_parts p s (e ∷ log) more h = (h.0, accepted_parts p (state_with s e) log more h.1)

pub front_accepted : (p : Instance) (log : List Entry) (n : ℕ) → IsAccepted p log → IsAccepted p (take n log)
unfolding IsAccepted
front_accepted p log n h = accepted_parts p empty_state (take n log) (drop n log) (subst (λ (xs : List Entry). IsAcceptedAfter p empty_state xs) (sym (take-append-drop n log)) h)

-- ---- the first event that isn't allowed

pub illegal_next : (P : ℕ → Type 0) (s : CoreState) (e : Event) (rest : List Event) (n : ℕ) → IsAllowedEvent s e → ((k : ℕ) → IsFirstIllegal s (e ∷ rest) k → P (n + k)) → (k : ℕ) → IsFirstIllegal (after_event s e) rest k → P (n + 1 + k)
illegal_next P s e rest n ok first k h =
    let same : n + suc k ≡ n + 1 + k = omega arith in
    subst P same (first (suc k) (record {
      before = e ∷ h.before;
      event = h.event;
      others = h.others;
      parts = ap (λ (events : List Event). e ∷ events) h.parts;
      place_is = omega (arith, h.place_is);
      allowed = (ok, h.allowed);
      refused = h.refused;
    }))
