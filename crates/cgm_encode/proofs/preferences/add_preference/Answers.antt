use Rattle.std.proofs.Common.{◌≡◌, ℕ, ◌∷◌, [], ap, ◌∙◌, subst, sym}
use Rattle.cgm_atom.specs.declared.constraints.Atom.{Atom}
use Rattle.cgm_atom.specs.declared.constraints.Clause.{Clause}
use Rattle.cgm_atom.specs.Adding.{CanTake, with_written}
use Rattle.cgm_atom.specs.Literals.{clause, literal, negated}
use Rattle.cgm_atom.proofs.Additions.{first_left, left_all, left_more}
use Rattle.cgm_model.specs.Model.{lists_of}
use Rattle.cgm_model.specs.TruthVariables.{variable_of}
use Rattle.cgm_enc_formula.proofs.Defining.{three_is}
use Rattle.cgm_encode.specs.Problem.{preference_clauses}
use Rattle.cgm_encode.proofs.preferences.add_preference.Goals as goal

two_is : (a b x y : Atom) → a ≡ x → b ≡ y → clause (a ∷ b ∷ []) ≡ clause (x ∷ y ∷ [])
two_is a b x y first second = ap (λ (z : Atom). clause (z ∷ b ∷ [])) first ∙ ap (λ (z : Atom). clause (x ∷ z ∷ [])) second

pub add_clause-requires : goal.add_clause-requires
add_clause-requires c =
    let m = lists_of c.args.model.now in
    let p = c.args.preference.now in
    let u = c.args.u in
    let b = c.args.builder.now in
    let all = preference_clauses m (u, p) in
    let better = variable_of m p.better in
    let worse = variable_of m p.worse in
    let first : Clause = clause (negated u ∷ negated better ∷ []) in
    let second : Clause = clause (negated u ∷ literal worse ∷ []) in
    let third : Clause = clause (literal u ∷ literal better ∷ negated worse ∷ []) in
    let same : clause (c.negated.result ∷ c.negated-2.result ∷ []) ≡ first =
    two_is c.negated.result c.negated-2.result (negated u) (negated better) c.negated.ensures (c.negated-2.ensures ∙ ap (λ (x : ℕ). negated x) c.truth_variable-better.ensures.variable) in
    subst (λ (added : Clause). CanTake b (added ∷ [])) (sym same)
    (first_left b b all (first ∷ []) (second ∷ third ∷ []) (left_all b all c.requires.room))

pub add_clause-requires-2 : goal.add_clause-requires-2
add_clause-requires-2 c =
    let m = lists_of c.args.model.now in
    let p = c.args.preference.now in
    let u = c.args.u in
    let b = c.args.builder.now in
    let all = preference_clauses m (u, p) in
    let better = variable_of m p.better in
    let worse = variable_of m p.worse in
    let first : Clause = clause (negated u ∷ negated better ∷ []) in
    let second : Clause = clause (negated u ∷ literal worse ∷ []) in
    let third : Clause = clause (literal u ∷ literal better ∷ negated worse ∷ []) in
    let same : clause (c.negated.result ∷ c.negated-2.result ∷ []) ≡ first =
    two_is c.negated.result c.negated-2.result (negated u) (negated better) c.negated.ensures (c.negated-2.ensures ∙ ap (λ (x : ℕ). negated x) c.truth_variable-better.ensures.variable) in
    let next : clause (c.negated-3.result ∷ c.literal.result ∷ []) ≡ second =
    two_is c.negated-3.result c.literal.result (negated u) (literal worse) c.negated-3.ensures (c.literal.ensures ∙ ap (λ (x : ℕ). literal x) c.truth_variable-worse.ensures.variable) in
    let added = c.in_ok-add_clause.ensures ∙ ap (λ (x : Clause). with_written b (x ∷ [])) same in
    let far = left_more b b c.add_clause.new.builder all (first ∷ []) (second ∷ third ∷ []) (left_all b all c.requires.room) added in
    subst (λ (x : Clause). CanTake c.add_clause.new.builder (x ∷ [])) (sym next)
    (first_left b c.add_clause.new.builder all (second ∷ []) (third ∷ []) far)

pub add_clause-requires-3 : goal.add_clause-requires-3
add_clause-requires-3 c =
    let m = lists_of c.args.model.now in
    let p = c.args.preference.now in
    let u = c.args.u in
    let b = c.args.builder.now in
    let all = preference_clauses m (u, p) in
    let better = variable_of m p.better in
    let worse = variable_of m p.worse in
    let first : Clause = clause (negated u ∷ negated better ∷ []) in
    let second : Clause = clause (negated u ∷ literal worse ∷ []) in
    let third : Clause = clause (literal u ∷ literal better ∷ negated worse ∷ []) in
    let same : clause (c.negated.result ∷ c.negated-2.result ∷ []) ≡ first =
    two_is c.negated.result c.negated-2.result (negated u) (negated better) c.negated.ensures (c.negated-2.ensures ∙ ap (λ (x : ℕ). negated x) c.truth_variable-better.ensures.variable) in
    let next : clause (c.negated-3.result ∷ c.literal.result ∷ []) ≡ second =
    two_is c.negated-3.result c.literal.result (negated u) (literal worse) c.negated-3.ensures (c.literal.ensures ∙ ap (λ (x : ℕ). literal x) c.truth_variable-worse.ensures.variable) in
    let last : clause (c.literal-2.result ∷ c.literal-3.result ∷ c.negated-4.result ∷ []) ≡ third =
    three_is c.literal-2.result c.literal-3.result c.negated-4.result (literal u) (literal better) (negated worse) c.literal-2.ensures
    (c.literal-3.ensures ∙ ap (λ (x : ℕ). literal x) c.truth_variable-better.ensures.variable) (c.negated-4.ensures ∙ ap (λ (x : ℕ). negated x) c.truth_variable-worse.ensures.variable) in
    let added = c.in_ok-add_clause.ensures ∙ ap (λ (x : Clause). with_written b (x ∷ [])) same in
    let far = left_more b b c.add_clause.new.builder all (first ∷ []) (second ∷ third ∷ []) (left_all b all c.requires.room) added in
    let more = c.in_ok-add_clause-2.ensures ∙ ap (λ (x : Clause). with_written c.add_clause.new.builder (x ∷ [])) next in
    let end = left_more b c.add_clause.new.builder c.add_clause-2.new.builder all (second ∷ []) (third ∷ []) far more in
    subst (λ (x : Clause). CanTake c.add_clause-2.new.builder (x ∷ [])) (sym last) end.room
