use Rattle.std.proofs.Common.{◌≡◌, ◌-◌, ◌^◌, ◌≤◌, IfSome, vec_len}
use Rattle.cgm_shelf.specs.Shelf.{IsMissing}
use Rattle.cgm_shelf.proofs.Told.{IsFront}
use Rattle.cgm_shelf.proofs.whole.read_whole.Given as goal

abbrev pub invariant-loop-bytes : goal.invariant-loop-bytes
invariant-loop-bytes g l = record {
  files : (g.F.Shelf.state l.shelf).files ≡ (g.F.Shelf.state l.fn.shelf).files;
  writes : (g.F.Shelf.state l.shelf).write_faults ≡ (g.F.Shelf.state l.fn.shelf).write_faults;
  later : (g.F.Shelf.state l.fn.shelf).read_faults ≤ (g.F.Shelf.state l.shelf).read_faults;
  missing : IsMissing (g.F.Shelf.state l.fn.shelf).files l.name → (g.F.Shelf.state l.shelf).read_faults ≡ (g.F.Shelf.state l.fn.shelf).read_faults;
  front : IsFront (g.F.Shelf.state l.fn.shelf).files l.name l.bytes.items;
  fits : IfSome l.limit (λ most. vec_len l.bytes ≤ most);
}

abbrev pub decreases-loop-bytes : goal.decreases-loop-bytes
decreases-loop-bytes g l = 2 ^ 63 - vec_len l.bytes
