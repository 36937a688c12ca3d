-- What a worker knows of the log: the entries that it has seen, their index, and its store.
use Rattle.std.specs.Prelude.{◌^◌, ◌<◌, List, length}
use Rattle.cgm_atom.specs.declared.entries.Entry.{Entry}
use Rattle.cgm_atom.specs.Acceptance.{IsAccepted}
use Rattle.cgm_atom.specs.Limits.{IsWellFormedProblem}
use Rattle.cgm_atom.specs.LogState.{LogState, state_of}
use Rattle.cgm_step.specs.Indexing.{IsLogIndexOf}
use Rattle.cgm_search.specs.declared.knowledge.Known.{Known}
use Rattle.cgm_search.specs.Storing.{IsStoreFor}

-- the entries that were seen
abbrev pub seen : Known → List Entry
seen k = k.entries.items

abbrev pub seen_state : Known → LogState
seen_state k = state_of k.entries.items

pub record IsKnowledge (k : Known) : Type 0 where
  pub problem : IsWellFormedProblem k.problem
  pub own : IsLogIndexOf k.index k.entries.items
  pub accepted : IsAccepted k.problem k.entries.items
  pub count : length k.entries.items < 2 ^ 63
  pub store : IsStoreFor k.problem k.entries.items k.store
