use Rattle.std.proofs.Common.{◌++◌, ◌∙◌, ap, ℕ, List, []}
use Rattle.std.specs.Prelude.{codes, flat_map}
use Rattle.cgm_atom.specs.declared.constraints.Var.{Var}
use Rattle.cgm_encode.specs.ProblemText.{clause_lines, problem_line, objective_line, problem_objective_lines, problem_text, row_lines, var_lines}
use Rattle.cgm_encode.proofs.Lines.{four_groups}
use Rattle.cgm_encode.proofs.printer.print_problem.Goals as goal

pub returns : goal.returns
unfolding problem_text
returns c =
    let p = c.args.problem.now in
    four_groups (problem_line (codes "cgm-problem 1") []) (var_lines p) (clause_lines p) (row_lines p) (problem_objective_lines p)
    c.push_vars.new.out.items c.push_clauses.new.out.items c.push_rows.new.out.items c.push_objectives.new.out.items
    (c.in_ok-push_vars.ensures ∙ ap (λ (l : List ℕ). l ++ var_lines p) c.in_ok-out.ensures.items)
    c.in_ok-push_clauses.ensures c.in_ok-push_rows.ensures
    (c.in_ok-push_objectives.ensures ∙ ap (λ (vs : List Var). c.push_rows.new.out.items ++ flat_map objective_line vs) c.objectives.ensures.objectives)
