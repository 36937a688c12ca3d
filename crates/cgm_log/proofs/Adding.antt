-- What a trade adds to the log.
use Rattle.std.proofs.Common.{◌≡◌, ℕ, Bool, true, false, List, [], ◌∷◌, ◌++◌, ◌^◌, ◌<◌, ◌≤◌, drop, length, refl, sym, ap, subst, ◌∙◌, append-nil, arith}
use Rattle.std.specs.Prelude.{IsTrue, if◌then◌else◌, IfOk, OnOk, OnErr, Result, Ok, Err}
use Rattle.std.specs.List.{All}
use Rattle.std.specs.declared.option.Option.TheVariants.{Some}
use Rattle.std.proofs.lemmas.List.{drop-append-le, length-map}
use Rattle.std.proofs.lemmas.List.Elements.{All-append, All-nil}
use Rattle.cgm_atom.specs.declared.entries.Entry.{Entry}
use Rattle.cgm_atom.specs.Acceptance.{IsAccepted}
use Rattle.cgm_atom.specs.Instance.{Instance}
use Rattle.cgm_atom.specs.LogState.{state_of}
use Rattle.cgm_atom.specs.Placing.{all_placed}
use Rattle.cgm_atom.specs.Limits.{IsWellFormedProblem}
use Rattle.cgm_atom.specs.Ranges.{IsPrintable}
use Rattle.cgm_atom.proofs.StateLemmas.{IsAccepted-nil, state_of-entries}
use Rattle.cgm_step.specs.Indexing.{Index, IsLogIndexOf}
use Rattle.cgm_log.specs.declared.batches.Batch.{Batch}
use Rattle.cgm_log.specs.declared.batches.Refund.{Refund}
use Rattle.cgm_log.specs.declared.batches.Traded.{Traded}
use Rattle.cgm_log.specs.Landing.{kept_candidate, landed, with_landed}
use Rattle.cgm_log.specs.LogBook.{IsLog}
use Rattle.cgm_log.specs.Trading.{news_of}

-- a log without entries
pub empty_log : (p : Instance) (entries : List Entry) → entries ≡ [] → IsWellFormedProblem p → IsLog (record { problem = p; entries = entries })
empty_log p entries e valid =
    subst (λ (xs : List Entry). IsLog (record { problem = p; entries = xs })) (sym e)
    (record { problem = valid; accepted = IsAccepted-nil p; printable = All-nil IsPrintable; count = omega arith })

pub counted : (index : Index) (log : List Entry) → IsLogIndexOf index log → index.entries ≡ length log
counted index log own = ap (λ (i : Index). i.entries) own ∙ ap length (state_of-entries log) ∙ length-map log Some

-- ---- the list that lands

abbrev pub added : Instance → List Entry → Batch → List Entry
added p log b = all_placed (length log) b.lemmas ++ kept_candidate p (state_of log) b.by b.candidate

pub landing_is : (p : Instance) (log : List Entry) (b : Batch) (lemmas kept : List Entry) → lemmas ≡ b.lemmas → kept ≡ kept_candidate p (state_of log) b.by b.candidate → all_placed (length log) lemmas ++ kept ≡ added p log b
landing_is p log b lemmas kept f g =
    ap (λ (xs : List Entry). all_placed (length log) xs ++ kept) f
    ∙ ap (λ (xs : List Entry). all_placed (length log) b.lemmas ++ xs) g

when_closed : (t : Bool) (log added : List Entry) → t ≡ true → log ≡ log ++ (if t then [] else added)
when_closed true log added h = sym (append-nil log)
when_closed false log added h = absurd (cc)

when_open : (t : Bool) (log added : List Entry) → t ≡ false → log ++ added ≡ log ++ (if t then [] else added)
when_open true log added h = absurd (cc)
when_open false log added h = refl

pub closed_stays : (p : Instance) (log : List Entry) (b : Batch) → IsTrue (state_of log).closed → log ≡ with_landed p log b
closed_stays p log b h = when_closed (state_of log).closed log (all_placed (length log) b.lemmas ++ kept_candidate p (state_of log) b.by b.candidate) h

pub open_grows : (p : Instance) (log : List Entry) (b : Batch) → (state_of log).closed ≡ false → log ++ (all_placed (length log) b.lemmas ++ kept_candidate p (state_of log) b.by b.candidate) ≡ with_landed p log b
open_grows p log b h = when_open (state_of log).closed log (all_placed (length log) b.lemmas ++ kept_candidate p (state_of log) b.by b.candidate) h

-- a log to which accepted entries were added, or none
pub log_after : {E : Type 0} (r : Result (Unit {0}) E) (p : Instance) (old new more : List Entry) → IsLog (record { problem = p; entries = old }) → OnOk r (new ≡ old ++ more) → OnErr r (new ≡ old) → IsAccepted p (old ++ more) → All IsPrintable more → length new < 2 ^ 63 → IsLog (record { problem = p; entries = new })
log_after (Ok x) p old new more log ok err accepted printable count = record {
  problem = log.problem;
  accepted = subst (λ (xs : List Entry). IsAccepted p xs) (sym ok) accepted;
  printable = subst (λ (xs : List Entry). All IsPrintable xs) (sym ok) (All-append IsPrintable old more log.printable printable);
  count = count;
}
log_after (Err e) p old new more log ok err accepted printable count =
    subst (λ (xs : List Entry). IsLog (record { problem = p; entries = xs })) (sym err) log

-- ---- who has seen all is told nothing new

pub drop_own : (log : List Entry) → drop (length log) log ≡ []
drop_own [] = refl
drop_own (e ∷ log) = drop_own log

none_new : (log news : List Entry) (seen : ℕ) → seen ≡ length log → news ≡ drop seen log → log ≡ log ++ news
none_new log news seen e h =
    sym (append-nil log) ∙ ap (λ (xs : List Entry). log ++ xs) (sym (h ∙ ap (λ (n : ℕ). drop n log) e ∙ drop_own log))

pub landed_after_news : (p : Instance) (told after : List Entry) (seen : ℕ) (b : Batch) (r : Result Traded Refund) → seen ≡ length told → IfOk r (λ t. news_of t ≡ drop seen told) → OnOk r (after ≡ with_landed p told b) → IfOk r (λ t. after ≡ with_landed p (told ++ news_of t) b)
landed_after_news p told after seen b (Ok t) e h k =
    k ∙ ap (λ (log : List Entry). with_landed p log b) (none_new told (news_of t) seen e h)
landed_after_news p told after seen b (Err r) e h k = k

-- ---- what was landed after the entries with which the log began

pub own_after_news : (p : Instance) (told after : List Entry) (begun seen : ℕ) (b : Batch) (r : Result Traded Refund) → begun ≤ length told → seen ≡ length told → IfOk r (λ t. news_of t ≡ drop seen told) → OnOk r (after ≡ with_landed p told b) → IfOk r (λ t. drop begun after ≡ drop begun told ++ landed p (told ++ news_of t) b)
own_after_news p told after begun seen b (Ok t) le e h k =
    ap (λ (xs : List Entry). drop begun xs) k
    ∙ drop-append-le begun told (landed p told b) le
    ∙ ap (λ (log : List Entry). drop begun told ++ landed p log b) (none_new told (news_of t) seen e h)
own_after_news p told after begun seen b (Err r) le e h k = k
