-- The entries that are left lead to the same index, and the places of the bests so far stay in front.
use Rattle.std.proofs.Common.{◌≡◌, ◌+◌, ◌^◌, ◌≤◌, drop, length, take}
use Rattle.cgm_step.specs.Indexing.{index_after}
use Rattle.cgm_step.proofs.index.LogIndex.add_each.Given as goal

abbrev pub invariant-loop-e : goal.invariant-loop-e
invariant-loop-e l = record {
  after : index_after l.self (drop l.e-index l.more) ≡ index_after l.fn.self l.more;
  front : take (length l.fn.self.bests) l.self.bests ≡ l.fn.self.bests;
  room : l.self.entries + length (drop l.e-index l.more) ≤ 2 ^ 63;
}
