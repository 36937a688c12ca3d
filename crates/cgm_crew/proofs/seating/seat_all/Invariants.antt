use Rattle.std.proofs.Common.{◌≡◌, ◌+◌, ◌≤◌, vec_len}
use Rattle.std.specs.Prelude.{vec_capacity}
use Rattle.std.specs.List.{All}
use Rattle.cgm_crew.specs.Workers.{IsOther, first_after}
use Rattle.cgm_crew.proofs.seating.seat_all.Given as goal

abbrev pub invariant-loop : goal.invariant-loop
invariant-loop g l = record {
  first : l.first ≡ first_after l.turn (vec_len l.others);
  others : All (IsOther l.turn l.crew) l.others.items;
  number : vec_len l.others + 1 ≡ l.counter;
  room : l.count ≤ vec_capacity l.others;
}
