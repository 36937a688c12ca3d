use Rattle.std.proofs.Common.{ℕ, ◌++◌, ◌∷◌, [], List, map, ap, ◌∙◌, subst, sym}
use Rattle.cgm_atom.specs.declared.constraints.Clause.{Clause}
use Rattle.cgm_atom.specs.Adding.{CanTake, with_written}
use Rattle.cgm_atom.specs.Literals.{clause, implication, literal, negated}
use Rattle.cgm_atom.proofs.Additions.{first_left, left_all, left_more}
use Rattle.cgm_enc_graph.specs.GraphClauses.{refinement_clauses}
use Rattle.cgm_enc_graph.proofs.refinements.add_refinement.Goals as goal

pub add_converse-requires : goal.add_converse-requires
add_converse-requires c =
    let b = c.args.builder.now in
    let x = c.args.x in
    let own = c.args.refinement.now.sources in
    let all = refinement_clauses (x, c.args.refinement.now) in
    let converse : List ℕ → Clause = λ sources. clause (map negated sources ++ literal x ∷ []) in
    let rest = converse own ∷ implication x c.args.refinement.now.target ∷ [] in
    let added = c.in_ok-add_sources.ensures ∙ ap (λ (sources : List ℕ). with_written b (map (implication x) sources)) c.as_slice-sources.ensures in
    let far = left_more b b c.add_sources.new.builder all (map (implication x) own) rest (left_all b all c.requires) added in
    subst (λ (sources : List ℕ). CanTake c.add_sources.new.builder (converse sources ∷ [])) (sym c.as_slice-sources.ensures)
    (first_left b c.add_sources.new.builder all (converse own ∷ []) (implication x c.args.refinement.now.target ∷ []) far)

pub add_implication-requires : goal.add_implication-requires
add_implication-requires c =
    let b = c.args.builder.now in
    let x = c.args.x in
    let own = c.args.refinement.now.sources in
    let all = refinement_clauses (x, c.args.refinement.now) in
    let converse : List ℕ → Clause = λ sources. clause (map negated sources ++ literal x ∷ []) in
    let last = implication x c.args.refinement.now.target ∷ [] in
    let rest = converse own ∷ last in
    let added = c.in_ok-add_sources.ensures ∙ ap (λ (sources : List ℕ). with_written b (map (implication x) sources)) c.as_slice-sources.ensures in
    let far = left_more b b c.add_sources.new.builder all (map (implication x) own) rest (left_all b all c.requires) added in
    let more = c.in_ok-add_converse.ensures ∙ ap (λ (sources : List ℕ). with_written c.add_sources.new.builder (converse sources ∷ [])) c.as_slice-sources.ensures in
    let next = left_more b c.add_sources.new.builder c.add_converse.new.builder all (converse own ∷ []) last far more in
    next.room
