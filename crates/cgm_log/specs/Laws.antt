-- Laws over landing: a proper batch stays proper on a longer log.
use Rattle.std.specs.Prelude.{◌≡◌, false, List, ◌++◌}
use Rattle.cgm_atom.specs.declared.entries.Entry.{Entry}
use Rattle.cgm_atom.specs.Instance.{Instance}
use Rattle.cgm_atom.specs.LogState.{state_of}
use Rattle.cgm_log.specs.declared.batches.Batch.{Batch}
use Rattle.cgm_log.specs.Landing.{IsProperBatch}

-- a batch that is proper after some entries is proper after more, where the log isn't closed: so each of its lemmas is
-- accepted at the place where it lands
abbrev pub ProperBatchesStay : Type 0
ProperBatchesStay =
    (p : Instance) (seen more : List Entry) (b : Batch)
    → (state_of (seen ++ more)).closed ≡ false
    → IsProperBatch p seen b
    → IsProperBatch p (seen ++ more) b
