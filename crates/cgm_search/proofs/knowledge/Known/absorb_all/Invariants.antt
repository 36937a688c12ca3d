use Rattle.std.proofs.Common.{◌≡◌, ◌++◌, ◌+◌, ◌^◌, ◌<◌, length}
use Rattle.cgm_atom.specs.Acceptance.{IsAcceptedAfter}
use Rattle.cgm_search.specs.Knowing.{IsKnowledge, seen, seen_state}
use Rattle.cgm_search.proofs.knowledge.Known.absorb_all.Given as goal

abbrev pub invariant-loop-entry : goal.invariant-loop-entry
invariant-loop-entry l = record {
  known : IsKnowledge l.self;
  accepted : IsAcceptedAfter l.self.problem (seen_state l.self) l.entry-iterator.rest.items;
  entries : seen l.self ++ l.entry-iterator.rest.items ≡ seen l.fn.self ++ l.fn.more.items;
  room : length (seen l.self) + length l.entry-iterator.rest.items < 2 ^ 63;
  problem : l.self.problem ≡ l.fn.self.problem;
}
