-- Laws of generated models: their texts are read, they have a realization, and their least cost is the stated sum.
use Rattle.std.specs.Prelude.{◌≡◌, ℕ, ◌≤◌, List, [], ◌∷◌, length, pos, ◌≤ℤ◌}
use Rattle.cgm_base.specs.Words.{most_bytes}
use Rattle.cgm_formula.specs.declared.assignment.Assignment.{Assignment}
use Rattle.cgm_evolve.specs.Pairs.{Pair}
use Rattle.cgm_obj.specs.Least.{Realizes}
use Rattle.cgm_obj.specs.Vector.{vector_of}
use Rattle.cgm_text.specs.Text.{IsTextOf}
use Rattle.cgm_gen.specs.Draws.{least_cost, most_goals}
use Rattle.cgm_gen.specs.GeneratedModel.{generated_model}
use Rattle.cgm_gen.specs.GeneratedText.{generated_text}
use Rattle.cgm_gen.specs.Realized.{cost_in, generated_realization}

-- each text is one of the model that is written out for it
abbrev pub GeneratedIsRead : Type 0
GeneratedIsRead =
    (goals : ℕ) → goals ≤ most_goals → IsTextOf (generated_text goals) (generated_model goals)

-- each text is within the limit on bytes
abbrev pub GeneratedIsShort : Type 0
GeneratedIsShort =
    (goals : ℕ) → goals ≤ most_goals → length (generated_text goals) ≤ most_bytes

-- the assignment that is written out is a realization, of the stated cost
abbrev pub GeneratedIsRealized : Type 0
GeneratedIsRealized =
    (goals : ℕ) → goals ≤ most_goals
    → Realizes (generated_model goals) (generated_realization goals)
    × (cost_in (generated_model goals) (generated_realization goals) ≡ pos (least_cost goals))

-- no realization costs less, and the cost is the one objective, whatever is known of an earlier realization
abbrev pub GeneratedHasLeast : Type 0
GeneratedHasLeast =
    (goals : ℕ) → goals ≤ most_goals → (pairs : List Pair) (a : Assignment)
    → Realizes (generated_model goals) a
    → (pos (least_cost goals) ≤ℤ cost_in (generated_model goals) a)
    × (vector_of (generated_model goals) pairs a ≡ cost_in (generated_model goals) a ∷ [])
