use Rattle.std.proofs.Common.{◌≡◌, ◌+◌, ◌^◌, ◌≤◌}
use Rattle.std.specs.Prelude.{Some}
use Rattle.std.specs.List.{AllWithin}
use Rattle.cgm_atom.specs.Narrowing.{left_by_row}
use Rattle.cgm_search.specs.Settling.{IsRowName}
use Rattle.cgm_trail.specs.Steps.{IsPropagated}
use Rattle.cgm_trail.specs.TrailState.{box_of}
use Rattle.cgm_search.proofs.settlement.sweep_rows.Given as goal

abbrev pub invariant-loop-n : goal.invariant-loop-n
invariant-loop-n l = record {
  made : IsPropagated (IsRowName l.problem) l.fn.trail l.trail l.fn.left l.left;
  quiet : l.left ≡ l.fn.left → AllWithin (λ r. left_by_row (box_of l.trail) r ≡ Some (box_of l.trail)) l.problem.rows 0 l.n;
  problem : l.trail.problem ≡ l.fn.trail.problem;
  room : l.trail.moves + l.left ≤ 2 ^ 62;
}
