-- What a trade does to the seat of a worker, and what the search then knows.
use Rattle.std.proofs.Common.{◌≡◌, ℕ, List, ◌++◌, length, sym, ap, subst, ◌∙◌}
use Rattle.std.specs.Prelude.{Result, Ok, Err, OnOk}
use Rattle.cgm_atom.specs.declared.entries.Entry.{Entry}
use Rattle.cgm_atom.specs.Acceptance.{IsAccepted}
use Rattle.cgm_atom.specs.Instance.{Instance}
use Rattle.cgm_log.specs.declared.batches.Batch.{Batch}
use Rattle.cgm_log.specs.declared.batches.Traded.{Traded}
use Rattle.cgm_log.specs.Landing.{IsProperBatch, with_landed}
use Rattle.cgm_log.specs.Seats.{KeepsOwn, Seat}
use Rattle.cgm_log.specs.Trading.{landed_by, news_of, with_batch, with_news}
use Rattle.cgm_log.proofs.Makers.{made_landed, made_same}
use Rattle.cgm_search.specs.declared.searches.Search.{Search}
use Rattle.cgm_search.specs.Knowing.{seen}
use Rattle.cgm_search.specs.Searching.{IsTradedIn, Sits}
use Rattle.cgm_search.specs.Trading.{after_trade}
use Rattle.cgm_search.proofs.Readiness.{sits_traded}

-- the log of the seat with the batch is what is known with it
with_batch_known : (s : Search) (seat : Seat) (t : Traded) (b : Batch) → Sits s seat → with_batch seat t b ≡ after_trade s.known t b
with_batch_known s seat t b h =
    ap (λ (p : Instance). with_landed p (seat.told ++ news_of t) b) h.same_problem
    ∙ ap (λ (xs : List Entry). with_landed s.known.problem (xs ++ news_of t) b) h.same_entries

pub told_on_ok : {T E : Type 0} (r : Result T E) (old new : Search) (seat seat' : Seat) (t : Traded) (b copy : Batch) → Sits old seat → IsTradedIn old new → seat'.problem ≡ seat.problem → seat'.number ≡ seat.number → seat'.told ≡ with_batch seat t b → copy ≡ b → OnOk r (seen new.known ≡ after_trade old.known t copy) → OnOk r (Sits new seat')
told_on_ok (Ok x) old new seat seat' t b copy h same e f told c entries =
    sits_traded old new seat seat' h same e
    (told ∙ with_batch_known old seat t b h ∙ ap (λ (a : Batch). after_trade old.known t a) (sym c) ∙ sym entries) f
told_on_ok (Err x) old new seat seat' t b copy h same e f told c entries = tt

pub accepted_after : (s : Search) (seat seat' : Seat) (t : Traded) (b copy : Batch) → Sits s seat → seat'.problem ≡ seat.problem → seat'.told ≡ with_batch seat t b → copy ≡ b → IsAccepted seat'.problem seat'.told → IsAccepted s.known.problem (after_trade s.known t copy)
accepted_after s seat seat' t b copy sits same told c h =
    rw c
    (subst (λ (log : List Entry). IsAccepted s.known.problem log) (told ∙ with_batch_known s seat t b sits)
    (subst (λ (p : Instance). IsAccepted p seat'.told) (same ∙ sits.same_problem) h))

-- ---- what it landed

pub own_landed : (p : Instance) (seen : List Entry) (seat seat' : Seat) (t : Traded) (b : Batch) (worker : ℕ) → IsProperBatch p seen b → b.by ≡ worker → seat'.own ≡ seat.own ++ landed_by seat t b → KeepsOwn worker seat seat'
own_landed p seen seat seat' t b worker proper by grown n e h =
    made_landed n seat.problem (with_news seat t) b (length seen) seat.own seat'.own proper.lemmas (by ∙ e) grown h

pub own_same : (seat seat' : Seat) (worker : ℕ) → seat'.own ≡ seat.own → KeepsOwn worker seat seat'
own_same seat seat' worker same n e h = made_same n seat.own seat'.own same h
