use Rattle.std.proofs.Common.{◌≡◌, ℕ, ◌∷◌, [], subst, sym, ap, ◌∙◌}
use Rattle.std.specs.List.{All}
use Rattle.std.proofs.lemmas.List.Elements.{All-head}
use Rattle.std.proofs.lemmas.Result.{on_ok_weaker}
use Rattle.cgm_atom.specs.declared.constraints.Atom.{Atom}
use Rattle.cgm_atom.specs.declared.constraints.Clause.{Clause}
use Rattle.cgm_atom.specs.Adding.{CanTake, with_written}
use Rattle.cgm_atom.specs.Literals.{clause, literal, negated}
use Rattle.cgm_model.specs.declared.lists.Rule.{Rule}
use Rattle.cgm_model.specs.Formulas.{IsKnownTruth, condition_names}
use Rattle.cgm_model.specs.Model.{lists_of}
use Rattle.cgm_model.specs.TruthVariables.{variable_of}
use Rattle.cgm_enc_formula.specs.Rules.{rule_clause}
use Rattle.cgm_enc_formula.proofs.rules.add_condition.Goals as goal

pub truth_variable-requires : goal.truth_variable-requires
truth_variable-requires c =
    let m = lists_of c.args.model.now in
    All-head (IsKnownTruth m) c.in-Positive.name [] (subst (λ (r : Rule). All (IsKnownTruth m) (condition_names r)) c.in-Positive.is c.requires.condition)

pub add_clause-requires : goal.add_clause-requires
add_clause-requires c =
    let m = lists_of c.args.model.now in
    let l = c.args.l in
    let x : c.negated.result ≡ negated (variable_of m c.in-Positive.name) = c.negated.ensures ∙ ap (λ (k : ℕ). negated k) c.truth_variable.ensures in
    let given : clause (c.negated.result ∷ c.atom.result ∷ []) ≡ rule_clause m c.args.rule.now l =
    ap (λ (y : Atom). clause (y ∷ c.atom.result ∷ [])) x ∙ ap (λ (y : Atom). clause (negated (variable_of m c.in-Positive.name) ∷ y ∷ [])) c.atom.ensures
    ∙ ap (λ (r : Rule). rule_clause m r l) (sym c.in-Positive.is) in
    subst (λ (y : Clause). CanTake c.args.builder.now (y ∷ [])) (sym given) c.requires.room

pub returns-in-Positive : goal.returns-in-Positive
returns-in-Positive c =
    let m = lists_of c.args.model.now in
    let l = c.args.l in
    let x : c.negated.result ≡ negated (variable_of m c.in-Positive.name) = c.negated.ensures ∙ ap (λ (k : ℕ). negated k) c.truth_variable.ensures in
    let given : clause (c.negated.result ∷ c.atom.result ∷ []) ≡ rule_clause m c.args.rule.now l =
    ap (λ (y : Atom). clause (y ∷ c.atom.result ∷ [])) x ∙ ap (λ (y : Atom). clause (negated (variable_of m c.in-Positive.name) ∷ y ∷ [])) c.atom.ensures
    ∙ ap (λ (r : Rule). rule_clause m r l) (sym c.in-Positive.is) in
    on_ok_weaker c.add_clause.result
    (λ h. h ∙ ap (λ (y : Clause). with_written c.args.builder.now (y ∷ [])) given)
    c.add_clause.ensures

pub truth_variable-requires-in-Negative : goal.truth_variable-requires-in-Negative
truth_variable-requires-in-Negative c =
    let m = lists_of c.args.model.now in
    All-head (IsKnownTruth m) c.in-Negative.name [] (subst (λ (r : Rule). All (IsKnownTruth m) (condition_names r)) c.in-Negative.is c.requires.condition)

pub add_clause-requires-in-Negative : goal.add_clause-requires-in-Negative
add_clause-requires-in-Negative c =
    let m = lists_of c.args.model.now in
    let l = c.args.l in
    let x : c.literal.result ≡ literal (variable_of m c.in-Negative.name) = c.literal.ensures ∙ ap (λ (k : ℕ). literal k) c.truth_variable-in-Negative.ensures in
    let given : clause (c.literal.result ∷ c.atom-in-Negative.result ∷ []) ≡ rule_clause m c.args.rule.now l =
    ap (λ (y : Atom). clause (y ∷ c.atom-in-Negative.result ∷ [])) x ∙ ap (λ (y : Atom). clause (literal (variable_of m c.in-Negative.name) ∷ y ∷ [])) c.atom-in-Negative.ensures
    ∙ ap (λ (r : Rule). rule_clause m r l) (sym c.in-Negative.is) in
    subst (λ (y : Clause). CanTake c.args.builder.now (y ∷ [])) (sym given) c.requires.room

pub returns-in-Negative : goal.returns-in-Negative
returns-in-Negative c =
    let m = lists_of c.args.model.now in
    let l = c.args.l in
    let x : c.literal.result ≡ literal (variable_of m c.in-Negative.name) = c.literal.ensures ∙ ap (λ (k : ℕ). literal k) c.truth_variable-in-Negative.ensures in
    let given : clause (c.literal.result ∷ c.atom-in-Negative.result ∷ []) ≡ rule_clause m c.args.rule.now l =
    ap (λ (y : Atom). clause (y ∷ c.atom-in-Negative.result ∷ [])) x ∙ ap (λ (y : Atom). clause (literal (variable_of m c.in-Negative.name) ∷ y ∷ [])) c.atom-in-Negative.ensures
    ∙ ap (λ (r : Rule). rule_clause m r l) (sym c.in-Negative.is) in
    on_ok_weaker c.add_clause-in-Negative.result
    (λ h. h ∙ ap (λ (y : Clause). with_written c.args.builder.now (y ∷ [])) given)
    c.add_clause-in-Negative.ensures
