-- The one rule of a generated model: its formula is a single comparison, and its line is known; so is that of the header.
use Rattle.std.proofs.Common.{◌≡◌, ℕ, true, List, [], ◌∷◌, ◌++◌, ℤ, pos, codes, ap, ◌∙◌, arith}
use Rattle.std.specs.Fmt.{decimal}
use Rattle.std.specs.List.{list_all}
use Rattle.std.proofs.lemmas.Fmt.{decimal_digit, decimal_step}
use Rattle.cgm_base.specs.Printed.{line}
use Rattle.cgm_formula.specs.declared.formula.Formula.{Formula}
use Rattle.cgm_formula.specs.declared.formula.Formula.TheVariants as formulas
use Rattle.cgm_formula.specs.declared.formula.Linear.{Linear}
use Rattle.cgm_formula.specs.Nodes.{comparisons, comparisons_step, depth, depth_step, formula_names, full_step, is_full, names_step, node_count, node_step}
use Rattle.cgm_formula.proofs.Folds.{fold-AtMost}
use Rattle.cgm_model.specs.declared.lists.Statement.TheVariants as statements
use Rattle.cgm_model.specs.Formulas.{every_linear, has_distinct_terms, has_small_terms}
use Rattle.cgm_print.specs.Canonical.{whole_line, written, written_step}
use Rattle.cgm_print.specs.Statements.{header_tokens, requirement, statement_tokens}
use Rattle.cgm_print.specs.Written.{WrittenFormula}
use Rattle.cgm_gen.specs.declared.costs.Costs.{Costs}
use Rattle.cgm_gen.specs.GeneratedModel.{cost_rule, cost_term, model_of_costs}

-- the cost is at most 800
abbrev pub cost_formula : Formula
cost_formula = formulas.AtMost cost_term (pos 800)

-- ---- what stands in the formula

pub no_names : formula_names cost_formula ≡ []
no_names = fold-AtMost names_step cost_term (pos 800)

pub one_comparison : comparisons cost_formula ≡ (cost_term, pos 800) ∷ []
one_comparison = fold-AtMost comparisons_step cost_term (pos 800)

pub full_formula : is_full cost_formula ≡ true
full_formula = fold-AtMost full_step cost_term (pos 800)

pub one_deep : depth cost_formula ≡ 1
one_deep = fold-AtMost depth_step cost_term (pos 800)

pub two_nodes : node_count cost_formula ≡ 2
two_nodes = fold-AtMost node_step cost_term (pos 800)

pub small_terms : every_linear has_small_terms cost_formula ≡ true
small_terms = ap (λ (cs : List (Linear × ℤ)). list_all (λ (c : Linear × ℤ). has_small_terms c.0) cs) one_comparison

pub distinct_terms : every_linear has_distinct_terms cost_formula ≡ true
distinct_terms = ap (λ (cs : List (Linear × ℤ)). list_all (λ (c : Linear × ℤ). has_distinct_terms c.0) cs) one_comparison

-- ---- lines with a number

one_written : decimal 1 ≡ codes "1"
one_written = decimal_digit 1 (omega arith)

eight_hundred : decimal 800 ≡ codes "800"
eight_hundred =
    decimal_step 800 (omega arith) (omega arith)
    ∙ ap (λ (bs : List ℕ). bs ++ 48 ∷ []) (decimal_step 80 (omega arith) (omega arith))
    ∙ ap (λ (bs : List ℕ). (bs ++ 48 ∷ []) ++ 48 ∷ []) (decimal_digit 8 (omega arith))

pub header_line : whole_line header_tokens ≡ line (codes "cgm 1")
header_line = ap (λ (bs : List ℕ). line (codes "cgm " ++ bs)) one_written

pub rule_line : (all : List Costs) → whole_line (statement_tokens (written (model_of_costs all) (statements.Rule cost_rule))) ≡ line (codes "require (<= cost 800)")
rule_line all =
    let by = λ (f : WrittenFormula). whole_line (statement_tokens (requirement f)) in
    ap by (fold-AtMost (written_step (model_of_costs all)) cost_term (pos 800))
    ∙ ap (λ (bs : List ℕ). line (codes "require (<= cost " ++ (bs ++ codes ")"))) eight_hundred
