-- The statements of a generated text, one after another, give the lists of its model.
use Rattle.std.proofs.Common.{◌≡◌, ℕ, zero, suc, ◌+◌, ◌-◌, List, [], ◌∷◌, ◌++◌, length, refl, sym, ap, ap₂, ◌∙◌, append_assoc, append-nil}
use Rattle.cgm_model.specs.declared.lists.Edge.{Edge}
use Rattle.cgm_model.specs.declared.lists.Element.{Element}
use Rattle.cgm_model.specs.declared.lists.Lists.{Lists}
use Rattle.cgm_model.specs.declared.lists.Refinement.{Refinement}
use Rattle.cgm_model.specs.declared.lists.Statement.{Statement}
use Rattle.cgm_model.specs.declared.lists.Statement.TheVariants as statements
use Rattle.cgm_model.specs.declared.lists.SumValue.{SumValue}
use Rattle.cgm_model.specs.Canonical.{after}
use Rattle.cgm_model.specs.Lists.{added, no_lists}
use Rattle.cgm_gen.specs.declared.costs.Costs.{Costs}
use Rattle.cgm_gen.specs.GeneratedModel.{a_at, a_value, b_at, b_value, cost_objective, cost_rule, cost_sum, goal_at, goal_statements, link_at, link_statements, links, model_of_costs, r_at, s_at, statements_of_costs, value_statements}
use Rattle.cgm_gen.specs.GeneratedText.{each_goal}

abbrev items : ℕ → Costs → List Element
items place one = goal_at place ∷ b_at place ∷ a_at place ∷ []

abbrev ways : ℕ → Costs → List Refinement
ways place one = r_at place ∷ s_at place ∷ []

abbrev worths : ℕ → Costs → List SumValue
worths place one = a_value place one ∷ b_value place one ∷ []

after_append : (m : Lists) (xs ys : List Statement) → after m (xs ++ ys) ≡ after (after m xs) ys
after_append m [] ys = refl
after_append m (s ∷ xs) ys = after_append (added m s) xs ys

pub two_behind : {X : Type 0} (xs : List X) (x y : X) (rest : List X) → ((xs ++ x ∷ []) ++ y ∷ []) ++ rest ≡ xs ++ (x ∷ y ∷ rest)
two_behind xs x y rest = append_assoc (xs ++ x ∷ []) (y ∷ []) rest ∙ append_assoc xs (x ∷ []) (y ∷ rest)

three_behind : {X : Type 0} (xs : List X) (x y z : X) (rest : List X) → (((xs ++ x ∷ []) ++ y ∷ []) ++ z ∷ []) ++ rest ≡ xs ++ (x ∷ y ∷ z ∷ rest)
three_behind xs x y z rest = append_assoc ((xs ++ x ∷ []) ++ y ∷ []) (z ∷ []) rest ∙ two_behind xs x y (z ∷ rest)

abbrev pub with_graph : Lists → List Element → List Refinement → Lists
with_graph m elements_are refinements_are = record m { elements = elements_are; refinements = refinements_are }

goals_after : (m : Lists) (place : ℕ) (costs : List Costs) → after m (each_goal (λ k one. goal_statements k) place costs) ≡ with_graph m (m.elements ++ each_goal items place costs) (m.refinements ++ each_goal ways place costs)
goals_after m place [] = ap₂ (with_graph m) (sym (append-nil m.elements)) (sym (append-nil m.refinements))
goals_after m place (c ∷ costs) =
    let next : Lists = with_graph m (((m.elements ++ goal_at place ∷ []) ++ b_at place ∷ []) ++ a_at place ∷ []) ((m.refinements ++ r_at place ∷ []) ++ s_at place ∷ []) in
    goals_after next (place + 1) costs
    ∙ ap₂ (with_graph m)
    (three_behind m.elements (goal_at place) (b_at place) (a_at place) (each_goal items (place + 1) costs))
    (two_behind m.refinements (r_at place) (s_at place) (each_goal ways (place + 1) costs))

abbrev with_values : Lists → List SumValue → Lists
with_values m values_are = record m { values = values_are }

values_after : (m : Lists) (place : ℕ) (costs : List Costs) → after m (each_goal value_statements place costs) ≡ with_values m (m.values ++ each_goal worths place costs)
values_after m place [] = ap (with_values m) (sym (append-nil m.values))
values_after m place (c ∷ costs) =
    values_after (with_values m ((m.values ++ a_value place c ∷ []) ++ b_value place c ∷ [])) (place + 1) costs
    ∙ ap (with_values m) (two_behind m.values (a_value place c) (b_value place c) (each_goal worths (place + 1) costs))

abbrev with_contribs : Lists → List Edge → Lists
with_contribs m contribs_are = record m { contribs = contribs_are }

links_after : (m : Lists) (place count : ℕ) → after m (link_statements place count) ≡ with_contribs m (m.contribs ++ links place count)
links_after m place zero = ap (with_contribs m) (sym (append-nil m.contribs))
links_after m place (suc count) =
    links_after (with_contribs m (m.contribs ++ link_at place ∷ [])) (place + 1) count
    ∙ ap (with_contribs m) (append_assoc m.contribs (link_at place ∷ []) (links (place + 1) count))

-- the statements of the text give the model
pub statements_give : (costs : List Costs) → after no_lists (statements_of_costs costs) ≡ model_of_costs costs
statements_give costs =
    let last : List Statement = statements.Rule cost_rule ∷ statements.Objective cost_objective ∷ [] in
    let chain : List Statement = link_statements 8 (length costs - 9) in
    let priced : List Statement = each_goal value_statements 0 costs in
    let declared_ : List Statement = each_goal (λ k one. goal_statements k) 0 costs in
    let graph : Lists = with_graph no_lists (each_goal items 0 costs) (each_goal ways 0 costs) in
    let summed : Lists = added graph (statements.Sum cost_sum) in
    let valued : Lists = with_values summed (each_goal worths 0 costs) in
    after_append no_lists declared_ (statements.Sum cost_sum ∷ (priced ++ (chain ++ last)))
    ∙ ap (λ (m : Lists). after m (statements.Sum cost_sum ∷ (priced ++ (chain ++ last)))) (goals_after no_lists 0 costs)
    ∙ after_append summed priced (chain ++ last)
    ∙ ap (λ (m : Lists). after m (chain ++ last)) (values_after summed 0 costs)
    ∙ after_append valued chain last
    ∙ ap (λ (m : Lists). after m last) (links_after valued 8 (length costs - 9))
