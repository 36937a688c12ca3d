use Rattle.std.proofs.Common.{◌≡◌, ℕ, ◌^◌, ◌<◌, List, of_z, to_z, w64, sym, ap, ◌∙◌, subst, rules}
use Rattle.std.specs.Prelude.{ℤ}
use Rattle.std.specs.List.{All}
use Rattle.cgm_atom.specs.declared.constraints.Var.{Var}
use Rattle.cgm_model.specs.Model.{lists_of}
use Rattle.cgm_encode.specs.declared.expressions.Expression.{Expression}
use Rattle.cgm_encode.specs.Building.{expression_of, share_size}
use Rattle.cgm_encode.specs.Quantities.{objective_total}
use Rattle.cgm_encode.specs.Totals.{Share, Total, combined_terms}
use Rattle.cgm_encode.specs.Variables.{first_objective}
use Rattle.cgm_encode.proofs.quantities.objective_expression.Goals as goal

abbrev with_parts : List (ℤ × Var) → ℤ → Expression
with_parts terms constant = record { terms = terms; constant = constant }

made : (n : ℕ) (t : Total) (terms : List (ℤ × Var)) (constant : ℤ) → terms ≡ combined_terms n t.shares → constant ≡ t.constant → with_parts terms constant ≡ expression_of n t
made n t terms constant first second =
    ap (λ (ts : List (ℤ × Var)). with_parts ts constant) first ∙ ap (λ (z : ℤ). with_parts (combined_terms n t.shares) z) second

pub combined_terms-requires : goal.combined_terms-requires
combined_terms-requires c =
    subst (λ (shares : List Share). share_size shares < 2 ^ 63) (sym (c.as_slice.ensures ∙ c.in_ok-summands.ensures.0)) c.requires.fitting.numbers

pub returns : goal.returns
returns c =
    let m = lists_of c.args.model.now in
    let n = first_objective m in
    let total = objective_total m c.args.earlier.now.pairs c.args.objective in
    let shares = c.as_slice.ensures ∙ c.in_ok-summands.ensures.0 in
    let known = subst (λ (ss : List Share). All (λ s. s.1 < n) ss) (sym shares) c.requires.fitting.shares in
    let constant : to_z w64 (of_z w64 c.in_ok-summands.summands.constant) ≡ c.in_ok-summands.summands.constant = search rules in
    made n total c.of.result (to_z w64 (of_z w64 c.in_ok-summands.summands.constant))
    (c.of.ensures ∙ c.in_ok-terms.ensures n known ∙ ap (λ (ss : List Share). combined_terms n ss) shares) (constant ∙ c.in_ok-summands.ensures.1)
