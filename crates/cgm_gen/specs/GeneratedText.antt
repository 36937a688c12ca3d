-- The text of a generated model, line by line.
use Rattle.std.specs.Prelude.{ℕ, zero, suc, ◌+◌, ◌-◌, ◌<◌, ◌≤◌, List, [], ◌∷◌, ◌++◌, codes, length}
use Rattle.std.specs.Fmt.{decimal}
use Rattle.cgm_base.specs.Printed.{line}
use Rattle.cgm_gen.specs.declared.costs.Costs.{Costs}
use Rattle.cgm_gen.specs.declared.generator.GenStop.{GenStop}
use Rattle.cgm_gen.specs.declared.generator.GenStop.TheVariants as stops
use Rattle.cgm_gen.specs.Draws.{costs_of, most_goals}

-- ---- names; places are counted from 0, and numbers in names from 1

-- the goal at a place
abbrev pub goal_name : ℕ → List ℕ
goal_name place = codes "G" ++ decimal (place + 1)

-- its task A
abbrev pub a_name : ℕ → List ℕ
a_name place = codes "A" ++ decimal (place + 1)

-- its task B
abbrev pub b_name : ℕ → List ℕ
b_name place = codes "B" ++ decimal (place + 1)

-- the way to it by the task A
abbrev pub r_name : ℕ → List ℕ
r_name place = codes "R" ++ decimal (place + 1)

-- the way to it by the task B
abbrev pub s_name : ℕ → List ℕ
s_name place = codes "S" ++ decimal (place + 1)

-- ---- lines

-- a goal, its two tasks and the two ways to reach it
abbrev pub goal_lines : ℕ → List ℕ
goal_lines place =
    line (codes "goal " ++ goal_name place ++ codes " must")
    ++ line (codes "task " ++ b_name place)
    ++ line (codes "task " ++ a_name place)
    ++ line (codes "refine " ++ r_name place ++ codes " " ++ goal_name place ++ codes " : " ++ a_name place)
    ++ line (codes "refine " ++ s_name place ++ codes " " ++ goal_name place ++ codes " : " ++ b_name place)

-- what its tasks cost
abbrev pub value_lines : ℕ → Costs → List ℕ
value_lines place costs =
    line (codes "value cost " ++ a_name place ++ codes " " ++ decimal costs.of_a)
    ++ line (codes "value cost " ++ b_name place ++ codes " " ++ decimal costs.of_b)

-- where its task B is true, so is that of the next goal
abbrev pub link_line : ℕ → List ℕ
link_line place = line (codes "contrib " ++ b_name place ++ codes " " ++ b_name (place + 1))

-- ---- the whole

-- what each goal gives, of which the first has this place
abbrev pub each_goal : {X : Type 0} → (ℕ → Costs → List X) → ℕ → List Costs → List X
each_goal give place [] = []
each_goal give place (one ∷ costs) = give place one ++ each_goal give (place + 1) costs

-- so many links, of which the first begins at this place
abbrev pub chain_lines : ℕ → ℕ → List ℕ
chain_lines place zero = []
chain_lines place (suc count) = link_line place ++ chain_lines (place + 1) count

-- the text of a model whose tasks have these costs: the links begin at the ninth goal, and the last one ends at the last goal
abbrev pub text_of_costs : List Costs → List ℕ
text_of_costs costs =
    line (codes "cgm 1")
    ++ (each_goal (λ place costs. goal_lines place) 0 costs
    ++ (line (codes "sum cost")
    ++ (each_goal value_lines 0 costs
    ++ (chain_lines 8 (length costs - 9)
    ++ (line (codes "require (<= cost 800)") ++ line (codes "objective min cost"))))))

-- the text of the generated model of so many goals
unfoldable pub generated_text : ℕ → List ℕ
generated_text goals = text_of_costs (costs_of goals)

-- why there is none: there are too many goals, or memory is wanted
abbrev pub IsNotGenerated : ℕ → GenStop → Type 0
IsNotGenerated goals stops.Limit = most_goals < goals
IsNotGenerated goals stops.Memory = goals ≤ most_goals
