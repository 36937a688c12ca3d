use Rattle.std.proofs.Common.{◌≡◌, ◌+◌, ◌≤◌, ◌++◌, drop, length, vec_len}
use Rattle.std.specs.Prelude.{vec_capacity}
use Rattle.cgm_solve.specs.Runs.{moves_of}
use Rattle.cgm_solve.proofs.answering.moves_of.Given as goal

abbrev pub invariant-loop-trail : goal.invariant-loop-trail
invariant-loop-trail l = record {
  moves : l.moves.items ++ moves_of (drop l.trail-index l.trails) ≡ moves_of l.trails;
  count : vec_len l.moves ≡ l.trail-index;
  room : length l.trails ≤ vec_capacity l.moves;
}
