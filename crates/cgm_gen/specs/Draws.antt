-- What the tasks of a generated model cost: draws of a generator that is started with the number of its goals.
use Rattle.std.specs.Prelude.{ℕ, zero, suc, ◌+◌, ◌%◌, min, nat_lt, if◌then◌else◌, List, [], ◌∷◌, sum_by, take}
use Rattle.cgm_base.specs.declared.limit.Which.TheVariants as limits
use Rattle.cgm_base.specs.Words.{limit_number}
use Rattle.rand_pcg.specs.Lcg.{Lcg, increment_of, started}
use Rattle.rand_pcg.specs.Pcg.{multiplier_64, pcg32}
use Rattle.cgm_gen.specs.declared.costs.Costs.{Costs}

-- the most goals of a generated model
abbrev pub most_goals : ℕ
most_goals = limit_number limits.Trial

-- ---- draws

-- the generator of a model of so many goals: their number is its state, and 1 its stream
abbrev pub cost_generator : ℕ → Lcg
cost_generator goals = started 64 multiplier_64 goals (increment_of 64 1)

-- a draw, which is a number from 1 to 100, and the generator after it
unfoldable pub draw : Lcg → ℕ × Lcg
draw g = (1 + (pcg32 g).0 % 100, (pcg32 g).1)

-- ---- costs

-- both costs of a goal are drawn, that of A first
abbrev pub both_drawn : Lcg → Costs × Lcg
both_drawn g =
    (record { of_a = (draw g).0; of_b = (draw (draw g).1).0 }, (draw (draw g).1).1)

-- A costs nothing, and B a draw
abbrev pub one_drawn : Lcg → Costs × Lcg
one_drawn g = (record { of_a = 0; of_b = (draw g).0 }, (draw g).1)

-- the costs of the goal at this place, from 0, and the generator after them
abbrev pub drawn_costs : ℕ → Lcg → Costs × Lcg
drawn_costs place g = if nat_lt place 8 then both_drawn g else one_drawn g

-- the costs of so many goals, of which the first has this place
abbrev pub costs_from : ℕ → ℕ → Lcg → List Costs
costs_from place zero g = []
costs_from place (suc count) g =
    (drawn_costs place g).0 ∷ costs_from (place + 1) count (drawn_costs place g).1

-- the costs of so many goals
unfoldable pub costs_of : ℕ → List Costs
costs_of goals = costs_from 0 goals (cost_generator goals)

-- ---- the least cost

-- the lesser of the costs of a goal
abbrev pub lesser : Costs → ℕ
lesser costs = min costs.of_a costs.of_b

-- the lesser costs of the first eight goals, or of all where there are fewer
abbrev pub least_of : List Costs → ℕ
least_of costs = sum_by lesser (take 8 costs)

-- the least cost of the generated model of so many goals
abbrev pub least_cost : ℕ → ℕ
least_cost goals = least_of (costs_of goals)
