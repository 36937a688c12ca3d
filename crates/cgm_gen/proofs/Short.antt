-- A generated text is short: so many bytes for each goal at most.
use Rattle.std.proofs.Common.{◌≡◌, ℕ, zero, suc, ◌+◌, ◌*◌, ◌-◌, ◌<◌, ◌≤◌, List, [], ◌∷◌, ◌++◌, codes, length, All, refl, ap, arith}
use Rattle.std.specs.Fmt.{decimal}
use Rattle.std.proofs.lemmas.Fmt.{length-decimal-le}
use Rattle.std.proofs.lemmas.List.{length-append}
use Rattle.std.proofs.lemmas.List.Elements.{All-head, All-tail}
use Rattle.cgm_base.specs.Printed.{line}
use Rattle.cgm_gen.specs.declared.costs.Costs.{Costs}
use Rattle.cgm_gen.specs.Draws.{costs_from, costs_of, cost_generator}
use Rattle.cgm_gen.specs.GeneratedText.{a_name, b_name, chain_lines, each_goal, generated_text, goal_lines, goal_name, link_line, r_name, s_name, text_of_costs, value_lines}
use Rattle.cgm_gen.specs.Laws.{GeneratedIsShort}
use Rattle.cgm_gen.proofs.Drawing.{counted}
use Rattle.cgm_gen.proofs.InOrder.{IsSmall, all_small}
use Rattle.cgm_gen.proofs.Naming.{short}

-- ---- pieces of at most so many bytes

-- at most so many bytes
abbrev Most : ℕ → List ℕ → Type 0
Most count bs = length bs ≤ count

exactly : (count : ℕ) (bs : List ℕ) → length bs ≡ count → Most count bs
exactly count bs is = omega (arith, is)

joined : (j k : ℕ) (xs ys : List ℕ) → Most j xs → Most k ys → Most (j + k) (xs ++ ys)
joined j k xs ys here there = omega (arith, length-append xs ys, here, there)

lined : (count : ℕ) (bs : List ℕ) → Most count bs → Most (count + 1) (line bs)
lined count bs within = joined count 1 bs (10 ∷ []) within (exactly 1 (10 ∷ []) refl)

-- ---- the lines of a goal

name_short : (letter place : ℕ) → place < 2000 → length (letter ∷ decimal (place + 1)) ≤ 5
name_short letter place few = short letter (place + 1) (omega (arith, few))

goal_line : (name : List ℕ) → Most 5 name → Most 16 (line (codes "goal " ++ name ++ codes " must"))
goal_line name within =
    lined 15 (codes "goal " ++ name ++ codes " must")
    (joined 5 10 (codes "goal ") (name ++ codes " must") (exactly 5 (codes "goal ") refl)
    (joined 5 5 name (codes " must") within (exactly 5 (codes " must") refl)))

task_line : (name : List ℕ) → Most 5 name → Most 11 (line (codes "task " ++ name))
task_line name within =
    lined 10 (codes "task " ++ name) (joined 5 5 (codes "task ") name (exactly 5 (codes "task ") refl) within)

way_line : (way goal task : List ℕ) → Most 5 way → Most 5 goal → Most 5 task → Most 27 (line (codes "refine " ++ way ++ codes " " ++ goal ++ codes " : " ++ task))
way_line way goal task way_within goal_within task_within =
    let named : Most 12 (codes "refine " ++ way) = joined 7 5 (codes "refine ") way (exactly 7 (codes "refine ") refl) way_within in
    let spaced : Most 13 (codes "refine " ++ way ++ codes " ") = joined 12 1 (codes "refine " ++ way) (codes " ") named (exactly 1 (codes " ") refl) in
    let target : Most 18 (codes "refine " ++ way ++ codes " " ++ goal) = joined 13 5 (codes "refine " ++ way ++ codes " ") goal spaced goal_within in
    let parted : Most 21 (codes "refine " ++ way ++ codes " " ++ goal ++ codes " : ") =
    joined 18 3 (codes "refine " ++ way ++ codes " " ++ goal) (codes " : ") target (exactly 3 (codes " : ") refl) in
    lined 26 (codes "refine " ++ way ++ codes " " ++ goal ++ codes " : " ++ task)
    (joined 21 5 (codes "refine " ++ way ++ codes " " ++ goal ++ codes " : ") task parted task_within)

goal_within : (place : ℕ) → place < 2000 → Most 92 (goal_lines place)
goal_within place few =
    let first : List ℕ = line (codes "goal " ++ goal_name place ++ codes " must") in
    let second : List ℕ = line (codes "task " ++ b_name place) in
    let third : List ℕ = line (codes "task " ++ a_name place) in
    let fourth : List ℕ = line (codes "refine " ++ r_name place ++ codes " " ++ goal_name place ++ codes " : " ++ a_name place) in
    let fifth : List ℕ = line (codes "refine " ++ s_name place ++ codes " " ++ goal_name place ++ codes " : " ++ b_name place) in
    let goal : Most 5 (goal_name place) = name_short 71 place few in
    let b : Most 5 (b_name place) = name_short 66 place few in
    let a : Most 5 (a_name place) = name_short 65 place few in
    let r : Most 5 (r_name place) = name_short 82 place few in
    let s : Most 5 (s_name place) = name_short 83 place few in
    joined 65 27 (first ++ second ++ third ++ fourth) fifth
    (joined 38 27 (first ++ second ++ third) fourth
    (joined 27 11 (first ++ second) third
    (joined 16 11 first second (goal_line (goal_name place) goal) (task_line (b_name place) b))
    (task_line (a_name place) a))
    (way_line (r_name place) (goal_name place) (a_name place) r goal a))
    (way_line (s_name place) (goal_name place) (b_name place) s goal b)

goals_within : (place : ℕ) (costs : List Costs) → place + length costs ≤ 2000 → length (each_goal (λ k (one : Costs). goal_lines k) place costs) ≤ length costs * 92
goals_within place [] few = omega arith
goals_within place (c ∷ costs) few =
    let here : length (goal_lines place) ≤ 92 = goal_within place (omega (arith, few)) in
    let later = goals_within (place + 1) costs (omega (arith, few)) in
    omega (arith, here, later, length-append (goal_lines place) (each_goal (λ k (one : Costs). goal_lines k) (place + 1) costs))

-- ---- the lines of its costs

cost_short : (cost : ℕ) → cost ≤ 100 → Most 3 (decimal cost)
cost_short cost small = length-decimal-le 3 cost (omega arith) (omega (arith, small)) (omega (arith, small))

value_line : (task cost : List ℕ) → Most 5 task → Most 3 cost → Most 21 (line (codes "value cost " ++ task ++ codes " " ++ cost))
value_line task cost task_within cost_within =
    let named : Most 16 (codes "value cost " ++ task) = joined 11 5 (codes "value cost ") task (exactly 11 (codes "value cost ") refl) task_within in
    let spaced : Most 17 (codes "value cost " ++ task ++ codes " ") = joined 16 1 (codes "value cost " ++ task) (codes " ") named (exactly 1 (codes " ") refl) in
    lined 20 (codes "value cost " ++ task ++ codes " " ++ cost) (joined 17 3 (codes "value cost " ++ task ++ codes " ") cost spaced cost_within)

value_within : (place : ℕ) (c : Costs) → place < 2000 → IsSmall c → Most 42 (value_lines place c)
value_within place c few small =
    let a : Most 5 (a_name place) = name_short 65 place few in
    let b : Most 5 (b_name place) = name_short 66 place few in
    joined 21 21 (line (codes "value cost " ++ a_name place ++ codes " " ++ decimal c.of_a)) (line (codes "value cost " ++ b_name place ++ codes " " ++ decimal c.of_b))
    (value_line (a_name place) (decimal c.of_a) a (cost_short c.of_a small.0))
    (value_line (b_name place) (decimal c.of_b) b (cost_short c.of_b small.1))

values_within : (place : ℕ) (costs : List Costs) → place + length costs ≤ 2000 → All IsSmall costs → length (each_goal value_lines place costs) ≤ length costs * 42
values_within place [] few small = omega arith
values_within place (c ∷ costs) few small =
    let here : length (value_lines place c) ≤ 42 = value_within place c (omega (arith, few)) (All-head IsSmall c costs small) in
    let later = values_within (place + 1) costs (omega (arith, few)) (All-tail IsSmall c costs small) in
    omega (arith, here, later, length-append (value_lines place c) (each_goal value_lines (place + 1) costs))

-- ---- the chain

link_within : (place : ℕ) → place + 1 < 2000 → Most 20 (link_line place)
link_within place few =
    let one : Most 5 (b_name place) = name_short 66 place (omega (arith, few)) in
    let other : Most 5 (b_name (place + 1)) = name_short 66 (place + 1) few in
    let named : Most 13 (codes "contrib " ++ b_name place) = joined 8 5 (codes "contrib ") (b_name place) (exactly 8 (codes "contrib ") refl) one in
    let spaced : Most 14 (codes "contrib " ++ b_name place ++ codes " ") = joined 13 1 (codes "contrib " ++ b_name place) (codes " ") named (exactly 1 (codes " ") refl) in
    lined 19 (codes "contrib " ++ b_name place ++ codes " " ++ b_name (place + 1))
    (joined 14 5 (codes "contrib " ++ b_name place ++ codes " ") (b_name (place + 1)) spaced other)

chain_within : (place many : ℕ) → (0 < many → place + many < 2000) → length (chain_lines place many) ≤ many * 20
chain_within place zero within = omega arith
chain_within place (suc many) within =
    let some : 0 < suc many = omega arith in
    let few : place + suc many < 2000 = within some in
    let here : length (link_line place) ≤ 20 = link_within place (omega (arith, few)) in
    let on : 0 < many → place + 1 + many < 2000 = λ more. omega (arith, few) in
    let later = chain_within (place + 1) many on in
    omega (arith, here, later, length-append (link_line place) (chain_lines (place + 1) many))

chain_few : (count many : ℕ) → count ≤ 2000 → many ≡ count - 9 → 0 < many → 8 + many < 2000
chain_few count many few is some = omega (arith, few, is, some)

-- ---- the whole

text_within : (costs : List Costs) → length costs ≤ 2000 → All IsSmall costs → length (text_of_costs costs) ≤ 16777216
text_within costs few small =
    let head : List ℕ = line (codes "cgm 1") in
    let goals : List ℕ = each_goal (λ k (one : Costs). goal_lines k) 0 costs in
    let sum : List ℕ = line (codes "sum cost") in
    let values : List ℕ = each_goal value_lines 0 costs in
    let chain : List ℕ = chain_lines 8 (length costs - 9) in
    let rule : List ℕ = line (codes "require (<= cost 800)") in
    let objective : List ℕ = line (codes "objective min cost") in
    let goals_few = goals_within 0 costs (omega (arith, few)) in
    let values_few = values_within 0 costs (omega (arith, few)) small in
    let chain_is_few = chain_within 8 (length costs - 9) (chain_few (length costs) (length costs - 9) few refl) in
    let last : Most 41 (rule ++ objective) = joined 22 19 rule objective (exactly 22 rule refl) (exactly 19 objective refl) in
    let whole : length (text_of_costs costs) ≤ 6 + (length costs * 92 + (9 + (length costs * 42 + ((length costs - 9) * 20 + 41)))) =
    joined 6 (length costs * 92 + (9 + (length costs * 42 + ((length costs - 9) * 20 + 41)))) head (goals ++ (sum ++ (values ++ (chain ++ (rule ++ objective))))) (exactly 6 head refl)
    (joined (length costs * 92) (9 + (length costs * 42 + ((length costs - 9) * 20 + 41))) goals (sum ++ (values ++ (chain ++ (rule ++ objective)))) goals_few
    (joined 9 (length costs * 42 + ((length costs - 9) * 20 + 41)) sum (values ++ (chain ++ (rule ++ objective))) (exactly 9 sum refl)
    (joined (length costs * 42) ((length costs - 9) * 20 + 41) values (chain ++ (rule ++ objective)) values_few
    (joined ((length costs - 9) * 20) 41 chain (rule ++ objective) chain_is_few last)))) in
    omega (arith, few, whole)

pub generated_is_short : GeneratedIsShort
unfolding generated_text costs_of
generated_is_short goals within =
    let most : goals ≤ 2000 = within in
    let few : length (costs_from 0 goals (cost_generator goals)) ≤ 2000 = omega (arith, most, counted 0 goals (cost_generator goals)) in
    text_within (costs_from 0 goals (cost_generator goals)) few (all_small 0 goals (cost_generator goals))

-- the text of the drawn costs is the generated one
pub text_of_drawn : (goals : ℕ) (costs : List Costs) → costs ≡ costs_of goals → text_of_costs costs ≡ generated_text goals
unfolding generated_text
text_of_drawn goals costs is = ap text_of_costs is
