-- The log that the fields of a `Log` keep: the index is that of its entries.
use Rattle.cgm_step.specs.Indexing.{IsLogIndexOf}
use Rattle.cgm_log.specs.declared.logs.Log.TheInside.{Inside}
use Rattle.cgm_log.specs.LogBook.{IsLog, LogBook}

abbrev pub log_book : Inside → LogBook
log_book l = record { problem = l.problem; entries = l.entries.items }

pub record IsKeptLog (l : Inside) : Type 0 where
  pub valid : IsLog (log_book l)
  pub own : IsLogIndexOf l.index l.entries.items
