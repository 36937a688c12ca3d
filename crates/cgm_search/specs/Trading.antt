-- What a trade brings a worker: news of the log, and what landed of its batch.
use Rattle.std.specs.Prelude.{◌≡◌, ℕ, ℤ, List, [], ◌++◌, Option, Some, None}
use Rattle.cgm_atom.specs.declared.entries.Entry.{Entry}
use Rattle.cgm_atom.specs.Instance.{Instance}
use Rattle.cgm_log.specs.declared.batches.Batch.{Batch}
use Rattle.cgm_log.specs.declared.batches.Fate.{Fate}
use Rattle.cgm_log.specs.declared.batches.Traded.{Traded}
use Rattle.cgm_log.specs.Landing.{kept_entry, with_landed}
use Rattle.cgm_log.specs.Trading.{news_of}
use Rattle.cgm_search.specs.declared.knowledge.Known.{Known}
use Rattle.cgm_search.specs.Knowing.{seen}

-- the entry that a candidate with this fate became, if it was kept
abbrev pub kept_of : ℕ → Option (List ℤ) → Option Fate → List Entry
kept_of by None fate = []
kept_of by (Some values) None = []
kept_of by (Some values) (Some fate) = kept_entry by values fate

-- the seen list is the old one, then news, then what landed of the batch
abbrev pub HasLanded : Instance → List Entry → Batch → List Entry → Type 0
HasLanded p old b new = (news : List Entry) × (new ≡ with_landed p (old ++ news) b)

-- a longer log
abbrev pub IsLongerLog : List Entry → List Entry → Type 0
IsLongerLog old new = (more : List Entry) × (new ≡ old ++ more)

-- what is known of the log with the news of an answer, and then with the batch
abbrev pub after_news : Known → Traded → List Entry
after_news k t = seen k ++ news_of t

abbrev pub after_trade : Known → Traded → Batch → List Entry
after_trade k t b = with_landed k.problem (after_news k t) b
