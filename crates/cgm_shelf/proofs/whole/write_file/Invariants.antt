use Rattle.std.proofs.Common.{◌≡◌, ◌-◌, ◌≤◌, length, take}
use Rattle.cgm_shelf.specs.Shelf.{Leaves}
use Rattle.cgm_shelf.proofs.whole.write_file.Given as goal

abbrev pub invariant-loop-stored : goal.invariant-loop-stored
invariant-loop-stored g l = record {
  inside : l.stored ≤ length l.bytes;
  left : Leaves (g.F.Shelf.state l.fn.shelf).files (g.F.Shelf.state l.shelf).files l.name (take l.stored l.bytes);
  reads : (g.F.Shelf.state l.shelf).read_faults ≡ (g.F.Shelf.state l.fn.shelf).read_faults;
  later : (g.F.Shelf.state l.fn.shelf).write_faults ≤ (g.F.Shelf.state l.shelf).write_faults;
}

abbrev pub decreases-loop-stored : goal.decreases-loop-stored
decreases-loop-stored g l = length l.bytes - l.stored
