-- The order of the variables that a worker goes by: by number for worker 0, drawn for the others.
use Rattle.std.specs.Prelude.{ℕ, zero, suc, ◌%◌, List, map, swap, IsPermutation}
use Rattle.std.specs.List.{range_with_len}
use Rattle.cgm_atom.specs.declared.constraints.Var.{Var}
use Rattle.rand_pcg.specs.Lcg.{Lcg, increment_of, started}
use Rattle.rand_pcg.specs.Pcg.{multiplier_64, pcg32}

-- the variables by number
abbrev pub by_number : ℕ → List Var
by_number count = map (λ x. record { 0 = x }) (range_with_len 0 count)

-- each of so many variables stands in the list exactly once
abbrev pub IsEachOnce : ℕ → List Var → Type 0
IsEachOnce count variables = IsPermutation (by_number count) variables

-- the generator of a worker: the seed is its state, and the worker its stream
abbrev pub generator : ℕ → ℕ → Lcg
generator seed worker = started 64 multiplier_64 seed (increment_of 64 worker)

-- of the first n places, each from the last down is exchanged with a drawn one that isn't above it
abbrev pub shuffled : ℕ → Lcg → List Var → List Var
shuffled zero g variables = variables
shuffled (suc n) g variables = shuffled n (pcg32 g).1 (swap variables n ((pcg32 g).0 % suc n))

unfoldable pub drawn : ℕ → Lcg → List Var
drawn count g = shuffled count g (by_number count)

-- the order of a worker
abbrev pub order_of : ℕ → ℕ → ℕ → List Var
order_of count seed zero = by_number count
order_of count seed (suc w) = drawn count (generator seed (suc w))
