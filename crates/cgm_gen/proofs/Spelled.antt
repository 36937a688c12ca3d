-- The lines of a generated text are those of its statements, with the names of its model.
use Rattle.std.proofs.Common.{◌≡◌, ℕ, zero, suc, ◌+◌, ◌*◌, ◌<◌, ◌≤◌, List, [], ◌∷◌, ◌++◌, codes, map, length, get_or, refl, sym, ap, ◌∙◌, append-nil, arith}
use Rattle.cgm_base.specs.Printed.{line}
use Rattle.cgm_model.specs.declared.lists.Element.{Element}
use Rattle.cgm_model.specs.declared.lists.Lists.{Lists}
use Rattle.cgm_model.specs.declared.lists.Statement.{Statement}
use Rattle.cgm_print.specs.Canonical.{element_name, statement_lines, whole_line}
use Rattle.cgm_print.specs.Statements.{refinement, statement_tokens}
use Rattle.cgm_print.proofs.Spaces.{lines_together}
use Rattle.cgm_gen.specs.declared.costs.Costs.{Costs}
use Rattle.cgm_gen.specs.GeneratedModel.{a_at, a_number, b_at, b_number, goal_at, goal_number, goal_statements, model_of_costs}
use Rattle.cgm_gen.specs.GeneratedText.{a_name, b_name, each_goal, goal_lines, goal_name, r_name, s_name}
use Rattle.cgm_gen.proofs.Realizing.{from_start}
use Rattle.cgm_gen.proofs.Writing.{five_flat, three_flat}

-- ---- the names of elements

abbrev items : ℕ → Costs → List Element
items place one = goal_at place ∷ b_at place ∷ a_at place ∷ []

abbrev names_from : ℕ → List Costs → List (List ℕ)
names_from first costs = map (λ (e : Element). e.name) (each_goal items first costs)

goal_there : (first k : ℕ) (costs : List Costs) → k < length costs → get_or (names_from first costs) (3 * k) [] ≡ goal_name (first + k)
goal_there first k [] h = absurd (omega (arith, h))
goal_there first zero (c ∷ costs) h =
    let same : first ≡ first + 0 = omega arith in
    ap goal_name same
goal_there first (suc k) (c ∷ costs) h =
    let on : 3 * suc k ≡ suc (suc (suc (3 * k))) = omega arith in
    let under : k < length costs = omega (arith, h) in
    let same : first + 1 + k ≡ first + suc k = omega arith in
    ap (λ (j : ℕ). get_or (names_from first (c ∷ costs)) j []) on ∙ goal_there (first + 1) k costs under ∙ ap goal_name same

b_there : (first k : ℕ) (costs : List Costs) → k < length costs → get_or (names_from first costs) (3 * k + 1) [] ≡ b_name (first + k)
b_there first k [] h = absurd (omega (arith, h))
b_there first zero (c ∷ costs) h =
    let same : first ≡ first + 0 = omega arith in
    ap b_name same
b_there first (suc k) (c ∷ costs) h =
    let on : 3 * suc k + 1 ≡ suc (suc (suc (3 * k + 1))) = omega arith in
    let under : k < length costs = omega (arith, h) in
    let same : first + 1 + k ≡ first + suc k = omega arith in
    ap (λ (j : ℕ). get_or (names_from first (c ∷ costs)) j []) on ∙ b_there (first + 1) k costs under ∙ ap b_name same

a_there : (first k : ℕ) (costs : List Costs) → k < length costs → get_or (names_from first costs) (3 * k + 2) [] ≡ a_name (first + k)
a_there first k [] h = absurd (omega (arith, h))
a_there first zero (c ∷ costs) h =
    let same : first ≡ first + 0 = omega arith in
    ap a_name same
a_there first (suc k) (c ∷ costs) h =
    let on : 3 * suc k + 2 ≡ suc (suc (suc (3 * k + 2))) = omega arith in
    let under : k < length costs = omega (arith, h) in
    let same : first + 1 + k ≡ first + suc k = omega arith in
    ap (λ (j : ℕ). get_or (names_from first (c ∷ costs)) j []) on ∙ a_there (first + 1) k costs under ∙ ap a_name same

-- the names that lines of the text use
pub record NamesGoals (m : Lists) (count : ℕ) : Type 0 where
  pub goal : (k : ℕ) → k < count → element_name m (goal_number k) ≡ goal_name k
  pub b : (k : ℕ) → k < count → element_name m (b_number k) ≡ b_name k
  pub a : (k : ℕ) → k < count → element_name m (a_number k) ≡ a_name k

pub names_goals : (costs : List Costs) → NamesGoals (model_of_costs costs) (length costs)
names_goals costs = record {
  goal = λ k h. goal_there 0 k costs h ∙ ap goal_name (from_start k);
  b = λ k h. b_there 0 k costs h ∙ ap b_name (from_start k);
  a = λ k h. a_there 0 k costs h ∙ ap a_name (from_start k);
}

-- ---- lines

way_line : (way goal task : List ℕ) → whole_line (statement_tokens (refinement way goal task [])) ≡ line (codes "refine " ++ way ++ codes " " ++ goal ++ codes " : " ++ task)
way_line way goal task = ap (λ (bs : List ℕ). bs ++ 10 ∷ []) (sym (three_flat (codes "refine ") way (codes " ") goal (codes " : ") task))

-- the lines of a goal
goal_spelled : (m : Lists) (k : ℕ) → element_name m (goal_number k) ≡ goal_name k → element_name m (b_number k) ≡ b_name k → element_name m (a_number k) ≡ a_name k → statement_lines m (goal_statements k) ≡ goal_lines k
goal_spelled m k goal b a =
    let first : List ℕ = line (codes "goal " ++ goal_name k ++ codes " must") in
    let second : List ℕ = line (codes "task " ++ b_name k) in
    let third : List ℕ = line (codes "task " ++ a_name k) in
    let by_a = λ (g t : List ℕ). whole_line (statement_tokens (refinement (r_name k) g t [])) in
    let by_b = λ (g t : List ℕ). whole_line (statement_tokens (refinement (s_name k) g t [])) in
    let fourth : List ℕ = line (codes "refine " ++ r_name k ++ codes " " ++ goal_name k ++ codes " : " ++ a_name k) in
    let fifth : List ℕ = line (codes "refine " ++ s_name k ++ codes " " ++ goal_name k ++ codes " : " ++ b_name k) in
    let front : List ℕ → List ℕ = λ rest. first ++ (second ++ (third ++ rest)) in
    ap (λ (g : List ℕ). front (by_a g (element_name m (a_number k)) ++ (by_b g (element_name m (b_number k)) ++ []))) goal
    ∙ ap (λ (t : List ℕ). front (by_a (goal_name k) t ++ (by_b (goal_name k) (element_name m (b_number k)) ++ []))) a
    ∙ ap (λ (t : List ℕ). front (by_a (goal_name k) (a_name k) ++ (by_b (goal_name k) t ++ []))) b
    ∙ ap (λ (rest : List ℕ). front (by_a (goal_name k) (a_name k) ++ rest)) (append-nil (by_b (goal_name k) (b_name k)))
    ∙ ap (λ (bs : List ℕ). front (bs ++ by_b (goal_name k) (b_name k))) (way_line (r_name k) (goal_name k) (a_name k))
    ∙ ap (λ (bs : List ℕ). front (fourth ++ bs)) (way_line (s_name k) (goal_name k) (b_name k))
    ∙ sym (five_flat first second third fourth fifth)

pub goals_spelled : (m : Lists) (count place : ℕ) (costs : List Costs) → NamesGoals m count → place + length costs ≤ count
    → statement_lines m (each_goal (λ k one. goal_statements k) place costs) ≡ each_goal (λ k one. goal_lines k) place costs
goals_spelled m count place [] names within = refl
goals_spelled m count place (c ∷ costs) names within =
    let here : place < count = omega (arith, within) in
    let rest : List Statement = each_goal (λ k (one : Costs). goal_statements k) (place + 1) costs in
    lines_together m (goal_statements place) rest
    ∙ ap (λ (bs : List ℕ). bs ++ statement_lines m rest) (goal_spelled m place (names.goal place here) (names.b place here) (names.a place here))
    ∙ ap (λ (bs : List ℕ). goal_lines place ++ bs) (goals_spelled m count (place + 1) costs names (omega (arith, within)))
