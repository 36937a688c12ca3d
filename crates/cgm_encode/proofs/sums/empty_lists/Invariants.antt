use Rattle.std.proofs.Common.{◌≡◌, ℕ, [], length, get_or}
use Rattle.cgm_encode.proofs.sums.empty_lists.Given as goal

abbrev pub invariant-loop : goal.invariant-loop
invariant-loop l =
    (length l.lists.items ≡ l.counter) × ((e : ℕ) → get_or l.lists.items e [] ≡ [])
