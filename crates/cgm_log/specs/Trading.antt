-- The answer of a trade on a log.
use Rattle.std.specs.Prelude.{◌≡◌, false, ◌+◌, ◌++◌, List, length}
use Rattle.cgm_atom.specs.declared.entries.Entry.{Entry}
use Rattle.cgm_atom.specs.Acceptance.{IsClosed}
use Rattle.cgm_atom.specs.Instance.{Instance}
use Rattle.cgm_atom.specs.LogState.{state_of}
use Rattle.cgm_log.specs.declared.batches.Batch.{Batch}
use Rattle.cgm_log.specs.declared.batches.Traded.{Traded}
use Rattle.cgm_log.specs.declared.batches.Traded.TheVariants.{Closed, Landed}
use Rattle.cgm_log.specs.Landing.{fate_of, landed, with_landed}
use Rattle.cgm_log.specs.Seats.{Seat}

-- the entries that stood before the trade and weren't seen
abbrev pub news_of : Traded → List Entry
news_of (Landed news first fate) = news
news_of (Closed news) = news

-- what a trade of the batch on the log answers
abbrev pub IsAnswer : Instance → List Entry → Batch → Traded → Type 0
IsAnswer p log b (Landed news first fate) =
    ((state_of log).closed ≡ false) × (first ≡ length log + 1) × (fate ≡ fate_of p (state_of log) b.candidate)
IsAnswer p log b (Closed news) = IsClosed log

-- the log of a seat with the news of an answer, and then with the batch
abbrev pub with_news : Seat → Traded → List Entry
with_news s t = s.told ++ news_of t

abbrev pub with_batch : Seat → Traded → Batch → List Entry
with_batch s t b = with_landed s.problem (with_news s t) b

-- what the batch adds to it
abbrev pub landed_by : Seat → Traded → Batch → List Entry
landed_by s t b = landed s.problem (with_news s t) b
