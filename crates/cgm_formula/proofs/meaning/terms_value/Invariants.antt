use Rattle.std.proofs.Common.{◌≡◌, ◌+◌, ◌≤◌, drop, ◌+ℤ◌}
use Rattle.std.specs.Prelude.{unsigned_abs}
use Rattle.cgm_formula.specs.Reading.{number_in}
use Rattle.cgm_formula.specs.Sizes.{size}
use Rattle.cgm_formula.specs.Truth.{total}
use Rattle.cgm_formula.proofs.meaning.terms_value.Given as goal

abbrev pub invariant-loop-term : goal.invariant-loop-term
invariant-loop-term l =
    (l.so_far +ℤ total (number_in l.assignment l.sums) (drop l.term-index l.terms) ≡ total (number_in l.assignment l.sums) l.terms)
    × (unsigned_abs l.so_far + size (number_in l.assignment l.sums) (drop l.term-index l.terms) ≤ size (number_in l.assignment l.sums) l.terms)
