use Rattle.std.proofs.Common.{◌≡◌, ◌∷◌, [], ap, ◌∙◌, subst, sym}
use Rattle.cgm_atom.specs.declared.constraints.Clause.{Clause}
use Rattle.cgm_atom.specs.Adding.{CanTake, with_written}
use Rattle.cgm_atom.specs.Literals.{clause, literal, negated}
use Rattle.cgm_atom.proofs.Additions.{first_left, left_all, left_more}
use Rattle.cgm_formula.specs.declared.formula.Truth.TheVariants as truth
use Rattle.cgm_model.specs.Model.{lists_of}
use Rattle.cgm_model.specs.TruthVariables.{variable_of}
use Rattle.cgm_enc_graph.specs.GraphClauses.{bind_clauses, target_of}
use Rattle.cgm_enc_graph.proofs.edges.add_bind.Goals as goal

pub add_clause-requires : goal.add_clause-requires
add_clause-requires c =
    let m = lists_of c.args.model.now in
    let e = c.args.edge.now in
    let b = c.args.builder.now in
    let one = negated (target_of m e.from) in
    let other = negated (target_of m e.to) in
    let from = variable_of m (truth.Refinement e.from) in
    let to = variable_of m (truth.Refinement e.to) in
    let first : Clause = clause (one ∷ other ∷ negated from ∷ literal to ∷ []) in
    let second : Clause = clause (one ∷ other ∷ literal from ∷ negated to ∷ []) in
    let same : clause (c.negated.result ∷ c.negated-2.result ∷ c.negated-3.result ∷ c.literal.result ∷ []) ≡ first = cc in
    subst (λ (added : Clause). CanTake b (added ∷ [])) (sym same)
    (first_left b b (bind_clauses m e) (first ∷ []) (second ∷ []) (left_all b (bind_clauses m e) c.requires.room))

pub add_clause-requires-2 : goal.add_clause-requires-2
add_clause-requires-2 c =
    let m = lists_of c.args.model.now in
    let e = c.args.edge.now in
    let b = c.args.builder.now in
    let one = negated (target_of m e.from) in
    let other = negated (target_of m e.to) in
    let from = variable_of m (truth.Refinement e.from) in
    let to = variable_of m (truth.Refinement e.to) in
    let first : Clause = clause (one ∷ other ∷ negated from ∷ literal to ∷ []) in
    let second : Clause = clause (one ∷ other ∷ literal from ∷ negated to ∷ []) in
    let same : clause (c.negated.result ∷ c.negated-2.result ∷ c.negated-3.result ∷ c.literal.result ∷ []) ≡ first = cc in
    let next : clause (c.negated-4.result ∷ c.negated-5.result ∷ c.literal-2.result ∷ c.negated-6.result ∷ []) ≡ second = cc in
    let added = c.in_ok-add_clause.ensures ∙ ap (λ (x : Clause). with_written b (x ∷ [])) same in
    let far = left_more b b c.add_clause.new.builder (bind_clauses m e) (first ∷ []) (second ∷ []) (left_all b (bind_clauses m e) c.requires.room) added in
    subst (λ (x : Clause). CanTake c.add_clause.new.builder (x ∷ [])) (sym next) far.room
