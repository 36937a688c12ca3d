-- A candidate as a batch of its own: it is proper, and after it was traded the last best isn't greater than it.
use Rattle.std.proofs.Common.{◌≡◌, inl, inr, ⊎_elim, ℕ, ◌<◌, Bool, true, false, ◌||◌, List, [], ◌++◌, length, refl, sym, ap, subst, ◌∙◌, append-nil, arith}
use Rattle.std.specs.Prelude.{◌⊎◌, ℤ, Result, Ok, Err, OnOk}
use Rattle.std.specs.declared.option.Option.TheVariants.{Some}
use Rattle.std.specs.List.{Contains}
use Rattle.std.proofs.lemmas.List.Elements.{All-nil}
use Rattle.cgm_atom.specs.declared.entries.Entry.{Entry}
use Rattle.cgm_atom.specs.declared.entries.Entry.TheVariants.{Best}
use Rattle.cgm_atom.specs.Acceptance.{IsClosed}
use Rattle.cgm_atom.specs.Bounds.{IsBoxOf}
use Rattle.cgm_atom.specs.Instance.{Instance, IsSolution}
use Rattle.cgm_atom.specs.Limits.{max_workers}
use Rattle.cgm_atom.specs.LogState.{LogState, last_best, state_of}
use Rattle.cgm_atom.proofs.StateLemmas.{state_of-push}
use Rattle.cgm_clauses.specs.declared.named.Named.{Named}
use Rattle.cgm_clauses.specs.Standing.{IsFalseIn}
use Rattle.cgm_clauses.specs.StoreState.{all_clauses}
use Rattle.cgm_log.specs.declared.batches.Batch.{Batch}
use Rattle.cgm_log.specs.declared.batches.Fate.{Fate}
use Rattle.cgm_log.specs.declared.batches.Fate.TheVariants.{Behind, Kept}
use Rattle.cgm_log.specs.Landing.{IsLemmaOf, IsProperBatch, fate_after, kept_candidate, kept_entry, with_landed}
use Rattle.cgm_log.proofs.Adding.{closed_stays, open_grows}
use Rattle.cgm_search.specs.declared.searches.Search.{Search}
use Rattle.cgm_search.specs.Knowing.{IsKnowledge, seen}
use Rattle.cgm_search.specs.Searching.{IsReady, IsTradedIn}
use Rattle.cgm_search.specs.Stepping.{IsOffered}
use Rattle.cgm_search.specs.Storing.{IsStoreFor}
use Rattle.cgm_search.specs.Trading.{HasLanded}
use Rattle.cgm_search.proofs.FixedBoxes.{IsLastBest, last_after_candidate, some_part_false}
use Rattle.cgm_search.proofs.LandedBatches.{longer}
use Rattle.cgm_search.proofs.Readiness.{ready_traded}
use Rattle.cgm_split.specs.Halving.{IsPoint}
use Rattle.cgm_trail.specs.Rank.{IsTrail}
use Rattle.cgm_trail.specs.TrailState.{TrailState, box_of}

abbrev pub candidate_batch : ℕ → List ℤ → Batch
candidate_batch by values = record { by = by; lemmas = []; candidate = Some values }

pub proper_candidate : (p : Instance) (log : List Entry) (by : ℕ) (values : List ℤ) → by < max_workers → IsSolution p values → IsProperBatch p log (candidate_batch by values)
proper_candidate p log by values below solves =
    record { worker = below; count = omega arith; lemmas = All-nil (IsLemmaOf by (length log)); accepted = tt; closing = tt; candidate = solves }

-- ---- once it was traded

-- the log is open, and the values aren't less than its last best
pub record IsBehind (p : Instance) (values : List ℤ) (log : List Entry) : Type 0 where
  pub last : IsLastBest p values log
  pub still_open : (state_of log).closed ≡ false

open_after : (log : List Entry) (by : ℕ) (values : List ℤ) (fate : Fate) → (state_of log).closed ≡ false → (state_of (log ++ kept_entry by values fate)).closed ≡ false
open_after log by values (Kept ordinal) still_open =
    ap (λ (s : LogState). s.closed) (state_of-push log (Best by values)) ∙ ap (λ (t : Bool). t || false) still_open
open_after log by values (Behind ordinal best) still_open =
    subst (λ (xs : List Entry). (state_of xs).closed ≡ false) (sym (append-nil log)) still_open

behind : (p : Instance) (log : List Entry) (by : ℕ) (values : List ℤ) → (state_of log).closed ≡ false → IsBehind p values (log ++ kept_candidate p (state_of log) by (Some values))
behind p log by values still_open =
    record {
      last = last_after_candidate p log by values;
      still_open = open_after log by values (fate_after p (length (state_of log).bests) (last_best (state_of log)) values) still_open;
    }

by_closed : (p : Instance) (log new : List Entry) (by : ℕ) (values : List ℤ) (t : Bool) → (state_of log).closed ≡ t → new ≡ with_landed p log (candidate_batch by values) → IsClosed new ⊎ IsBehind p values new
by_closed p log new by values true closed h =
    let same : log ≡ new = closed_stays p log (candidate_batch by values) closed ∙ sym h in
    inl (subst (λ (xs : List Entry). IsClosed xs) same closed)
by_closed p log new by values false still_open h =
    let same = open_grows p log (candidate_batch by values) still_open ∙ sym h in
    inr (subst (λ (xs : List Entry). IsBehind p values xs) same (behind p log by values still_open))

pub offered : (p : Instance) (old new : List Entry) (by : ℕ) (values : List ℤ) → HasLanded p old (candidate_batch by values) new → IsClosed new ⊎ IsBehind p values new
offered p old new by values h = by_closed p (old ++ h.0) new by values (state_of (old ++ h.0)).closed refl h.1

pub offered_on_ok : {T E : Type 0} (r : Result T E) (old new : Search) (b : Batch) → IsReady old → IsTradedIn old new → IsBoxOf old.known.problem.bounds (box_of old.trail) → IsPoint (box_of old.trail) → b ≡ candidate_batch old.worker (box_of old.trail).lower → OnOk r (IsKnowledge new.known) → OnOk r (HasLanded old.known.problem (seen old.known) b (seen new.known)) → OnOk r (IsOffered old new)
offered_on_ok (Err x) old new b h same box point e known landed = tt
offered_on_ok (Ok x) old new b h same box point e known landed =
    let p : Instance = old.known.problem in
    let values : List ℤ = (box_of old.trail).lower in
    let stored : IsStoreFor p (seen new.known) new.known.store = subst (λ (q : Instance). IsStoreFor q (seen new.known) new.known.store) same.problem known.store in
    ⊎_elim (λ (closed : IsClosed (seen new.known)). inl closed)
    (λ (behind : IsBehind p values (seen new.known)).
    inr (
      ready_traded old new h same known behind.still_open (longer p (seen old.known) (seen new.known) b landed),
      subst (λ (t : TrailState). (n : Named) × Contains (all_clauses new.known.store) n × IsFalseIn (box_of t) n.clause) (sym same.trail)
          (some_part_false p (seen new.known) new.known.store (box_of old.trail) behind.last.best stored box point behind.last.last behind.last.behind),
    ))
    (offered p (seen old.known) (seen new.known) old.worker values (subst (λ (a : Batch). HasLanded p (seen old.known) a (seen new.known)) e landed))

pub trail_box : (s : Search) → IsReady s → IsTrail s.trail → IsBoxOf s.known.problem.bounds (box_of s.trail)
trail_box s h valid = subst (λ (p : Instance). IsBoxOf p.bounds (box_of s.trail)) h.trail.problem valid.place
