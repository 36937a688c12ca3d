-- A generated text is a text of its model.
use Rattle.std.proofs.Common.{◌≡◌, ℕ, zero, suc, ◌+◌, ◌-◌, ◌<◌, ◌≤◌, List, [], ◌∷◌, ◌++◌, codes, length, pos, refl, sym, ap, ◌∙◌, subst, append-nil, arith}
use Rattle.std.specs.Fmt.{decimal}
use Rattle.cgm_base.specs.Printed.{line}
use Rattle.cgm_model.specs.declared.lists.Lists.{Lists}
use Rattle.cgm_model.specs.declared.lists.Statement.{Statement}
use Rattle.cgm_model.specs.declared.lists.Statement.TheVariants as statements
use Rattle.cgm_model.specs.Canonical.{after}
use Rattle.cgm_model.specs.Lists.{no_lists}
use Rattle.cgm_print.specs.Canonical.{element_name, statement_lines, whole_line}
use Rattle.cgm_print.specs.declared.words.PairWord.TheVariants as pair_words
use Rattle.cgm_print.specs.Statements.{header_tokens, pair, statement_tokens, value}
use Rattle.cgm_print.proofs.Spaces.{lines_together}
use Rattle.cgm_text.specs.Text.{IsTextOf}
use Rattle.cgm_text.proofs.TextBack.{statements_back}
use Rattle.cgm_gen.specs.declared.costs.Costs.{Costs}
use Rattle.cgm_gen.specs.Draws.{costs_of}
use Rattle.cgm_gen.specs.GeneratedModel.{b_number, cost_objective, cost_rule, cost_sum, generated_model, goal_statements, link_statements, model_of_costs, statements_of_costs, value_statements}
use Rattle.cgm_gen.specs.GeneratedText.{a_name, b_name, chain_lines, each_goal, generated_text, goal_lines, text_of_costs, value_lines}
use Rattle.cgm_gen.specs.Laws.{GeneratedIsRead}
use Rattle.cgm_gen.proofs.CostRule.{header_line, rule_line}
use Rattle.cgm_gen.proofs.InOrder.{generated_in_order, generated_width}
use Rattle.cgm_gen.proofs.Spelled.{goals_spelled, names_goals}
use Rattle.cgm_gen.proofs.Statements.{statements_give}
use Rattle.cgm_gen.proofs.Writing.{two_flat}

-- ---- lines

value_line : (task : List ℕ) (cost : ℕ) → whole_line (statement_tokens (value (codes "cost") task (pos cost))) ≡ line (codes "value cost " ++ task ++ codes " " ++ decimal cost)
value_line task cost = ap (λ (bs : List ℕ). bs ++ 10 ∷ []) (sym (two_flat (codes "value cost ") task (codes " ") (decimal cost)))

pair_line : (one other : List ℕ) → whole_line (statement_tokens (pair pair_words.Contrib one other)) ≡ line (codes "contrib " ++ one ++ codes " " ++ other)
pair_line one other = ap (λ (bs : List ℕ). bs ++ 10 ∷ []) (sym (two_flat (codes "contrib ") one (codes " ") other))

module _ (all : List Costs) where
  abbrev m : Lists
  m = model_of_costs all

  value_spelled : (k : ℕ) (c : Costs) → k < length all → statement_lines m (value_statements k c) ≡ value_lines k c
  value_spelled k c h =
      let names = names_goals all in
      let by = λ (task : List ℕ) (cost : ℕ). whole_line (statement_tokens (value (codes "cost") task (pos cost))) in
      ap (λ (a : List ℕ). by a c.of_a ++ (by (element_name m (b_number k)) c.of_b ++ [])) (names.a k h)
      ∙ ap (λ (b : List ℕ). by (a_name k) c.of_a ++ (by b c.of_b ++ [])) (names.b k h)
      ∙ ap (λ (rest : List ℕ). by (a_name k) c.of_a ++ rest) (append-nil (by (b_name k) c.of_b))
      ∙ ap (λ (bs : List ℕ). bs ++ by (b_name k) c.of_b) (value_line (a_name k) c.of_a)
      ∙ ap (λ (bs : List ℕ). line (codes "value cost " ++ a_name k ++ codes " " ++ decimal c.of_a) ++ bs) (value_line (b_name k) c.of_b)

  values_spelled : (place : ℕ) (costs : List Costs) → place + length costs ≤ length all → statement_lines m (each_goal value_statements place costs) ≡ each_goal value_lines place costs
  values_spelled place [] within = refl
  values_spelled place (c ∷ costs) within =
      let rest : List Statement = each_goal value_statements (place + 1) costs in
      lines_together m (value_statements place c) rest
      ∙ ap (λ (bs : List ℕ). bs ++ statement_lines m rest) (value_spelled place c (omega (arith, within)))
      ∙ ap (λ (bs : List ℕ). value_lines place c ++ bs) (values_spelled (place + 1) costs (omega (arith, within)))

  chain_spelled : (place count : ℕ) → place + count < length all → statement_lines m (link_statements place count) ≡ chain_lines place count
  chain_spelled place zero within = refl
  chain_spelled place (suc count) within =
      let names = names_goals all in
      let by = λ (one other : List ℕ). whole_line (statement_tokens (pair pair_words.Contrib one other)) in
      let rest = statement_lines m (link_statements (place + 1) count) in
      ap (λ (one : List ℕ). by one (element_name m (b_number (place + 1))) ++ rest) (names.b place (omega (arith, within)))
      ∙ ap (λ (other : List ℕ). by (b_name place) other ++ rest) (names.b (place + 1) (omega (arith, within)))
      ∙ ap (λ (bs : List ℕ). by (b_name place) (b_name (place + 1)) ++ bs) (chain_spelled (place + 1) count (omega (arith, within)))
      ∙ ap (λ (bs : List ℕ). bs ++ chain_lines (place + 1) count) (pair_line (b_name place) (b_name (place + 1)))

  -- the whole chain, which is empty up to nine goals
  whole_chain : (count : ℕ) → count ≡ length all - 9 → statement_lines m (link_statements 8 count) ≡ chain_lines 8 count
  whole_chain zero is = refl
  whole_chain (suc count) is = chain_spelled 8 (suc count) (omega (arith, is))

  pub text_is : whole_line header_tokens ++ statement_lines m (statements_of_costs all) ≡ text_of_costs all
  text_is =
      let last : List Statement = statements.Rule cost_rule ∷ statements.Objective cost_objective ∷ [] in
      let chain : List Statement = link_statements 8 (length all - 9) in
      let priced : List Statement = each_goal value_statements 0 all in
      let declared_ : List Statement = each_goal (λ k (one : Costs). goal_statements k) 0 all in
      let head : List ℕ = line (codes "cgm 1") in
      let goals : List ℕ = each_goal (λ k (one : Costs). goal_lines k) 0 all in
      let values : List ℕ = each_goal value_lines 0 all in
      let links : List ℕ = chain_lines 8 (length all - 9) in
      let summed : List ℕ = line (codes "sum cost") in
      let rule : List ℕ = line (codes "require (<= cost 800)") in
      let objective : List ℕ = line (codes "objective min cost") in
      ap (λ (bs : List ℕ). bs ++ statement_lines m (statements_of_costs all)) header_line
      ∙ ap (λ (bs : List ℕ). head ++ bs) (lines_together m declared_ (statements.Sum cost_sum ∷ (priced ++ (chain ++ last))))
      ∙ ap (λ (bs : List ℕ). head ++ (bs ++ (summed ++ statement_lines m (priced ++ (chain ++ last))))) (goals_spelled m (length all) 0 all (names_goals all) (omega arith))
      ∙ ap (λ (bs : List ℕ). head ++ (goals ++ (summed ++ bs))) (lines_together m priced (chain ++ last))
      ∙ ap (λ (bs : List ℕ). head ++ (goals ++ (summed ++ (bs ++ statement_lines m (chain ++ last))))) (values_spelled 0 all (omega arith))
      ∙ ap (λ (bs : List ℕ). head ++ (goals ++ (summed ++ (values ++ bs)))) (lines_together m chain last)
      ∙ ap (λ (bs : List ℕ). head ++ (goals ++ (summed ++ (values ++ (bs ++ statement_lines m last))))) (whole_chain (length all - 9) refl)
      ∙ ap (λ (bs : List ℕ). head ++ (goals ++ (summed ++ (values ++ (links ++ (bs ++ (objective ++ []))))))) (rule_line all)
      ∙ ap (λ (bs : List ℕ). head ++ (goals ++ (summed ++ (values ++ (links ++ (rule ++ bs)))))) (append-nil objective)

-- the law
pub generated_is_read : GeneratedIsRead
unfolding generated_text generated_model
generated_is_read goals within =
    let costs = costs_of goals in
    let ss = statements_of_costs costs in
    let read : IsTextOf (whole_line header_tokens ++ statement_lines (after no_lists ss) ss) (after no_lists ss) = statements_back ss (generated_in_order goals within) (generated_width goals) in
    subst (λ (text : List ℕ). IsTextOf text (model_of_costs costs)) (text_is costs)
    (subst (λ (model : Lists). IsTextOf (whole_line header_tokens ++ statement_lines model ss) model) (statements_give costs) read)
