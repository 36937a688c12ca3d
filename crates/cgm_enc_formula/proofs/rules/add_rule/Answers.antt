-- The rule's clause fits behind the definitions of its formula, and comes with them to the part of the rule.
use Rattle.std.proofs.Common.{◌≡◌, ℕ, ◌<◌, ◌≤◌, ◌∷◌, [], subst, sym, ap, ◌∙◌, arith}
use Rattle.std.specs.List.{All}
use Rattle.std.proofs.lemmas.List.Elements.{All-head}
use Rattle.std.proofs.lemmas.Result.{on_ok_weaker}
use Rattle.cgm_atom.specs.Adding.{CanTake, with_written}
use Rattle.cgm_atom.specs.Instance.{var_count}
use Rattle.cgm_atom.specs.Limits.{IsClauseOf}
use Rattle.cgm_atom.specs.Literals.{literal, negated}
use Rattle.cgm_formula.specs.declared.formula.Formula.{Formula}
use Rattle.cgm_model.specs.declared.lists.Lists.{Lists}
use Rattle.cgm_model.specs.declared.lists.Rule.{Rule}
use Rattle.cgm_model.specs.declared.lists.Rule.TheVariants as rules
use Rattle.cgm_model.specs.Formulas.{IsKnownTruth, condition_names, formula_of}
use Rattle.cgm_model.specs.Model.{lists_of}
use Rattle.cgm_model.specs.TruthVariables.{variable_of}
use Rattle.cgm_enc_formula.specs.declared.literals.Literal.{Literal}
use Rattle.cgm_enc_formula.specs.Building.{clause_part, definitions_part, with_part}
use Rattle.cgm_enc_formula.specs.Literals.{atom_of}
use Rattle.cgm_enc_formula.specs.Naming.{naming}
use Rattle.cgm_enc_formula.specs.Rules.{rule_clause}
use Rattle.cgm_enc_formula.specs.Terms.{IsEncodableFormula, model_variables}
use Rattle.cgm_enc_formula.proofs.Defining.{atom_known, literal_known, negated_known, of_one, of_two}
use Rattle.cgm_enc_formula.proofs.NamingKnown.{name_within}
use Rattle.cgm_enc_formula.proofs.NamingSteps.{Adds, Fits, count_after, literal_within}
use Rattle.cgm_enc_formula.proofs.RuleSteps.{clause_fits, rule_added}
use Rattle.cgm_enc_formula.proofs.Steps.{first_fits}
use Rattle.cgm_enc_formula.proofs.rules.add_rule.Goals as goal

condition_known : (m : Lists) (count : ℕ) (r : Rule) (l : Literal) → All (IsKnownTruth m) (condition_names r) → model_variables m ≤ count → l.variable < count → IsClauseOf count (rule_clause m r l)
condition_known m count (rules.Positive name f) l known few h =
    let within = name_within m name (All-head (IsKnownTruth m) name [] known) in
    of_two count (negated (variable_of m name)) (atom_of l) (negated_known count (variable_of m name) (omega arith)) (atom_known count l h)
condition_known m count (rules.Negative name f) l known few h =
    let within = name_within m name (All-head (IsKnownTruth m) name [] known) in
    of_two count (literal (variable_of m name)) (atom_of l) (literal_known count (variable_of m name) (omega arith)) (atom_known count l h)
condition_known m count (rules.Require f) l known few h = of_one count (atom_of l) (atom_known count l h)

pub name_formula-requires-clause-formula : goal.name_formula-requires-clause-formula
name_formula-requires-clause-formula c =
    subst (λ (f : Formula). IsEncodableFormula (lists_of c.args.model.now) c.args.builder.now.bounds f) (sym c.formula_of.ensures) c.requires.encodable.formula

pub name_formula-requires-clause-room : goal.name_formula-requires-clause-room
name_formula-requires-clause-room c =
    let m = lists_of c.args.model.now in
    let b = c.args.builder.now in
    let n = var_count b in
    let r = c.args.rule.now in
    let named = naming m (formula_of r) n in
    subst (λ (f : Formula). Fits b (naming m f n).definitions) (sym c.formula_of.ensures)
    (first_fits b (definitions_part n named.definitions) (clause_part (rule_clause m r named.literal)) c.requires.room)

pub add_condition-requires-clause-room : goal.add_condition-requires-clause-room
add_condition-requires-clause-room c =
    let m = lists_of c.args.model.now in
    let b = c.args.builder.now in
    let n = var_count b in
    let r = c.args.rule.now in
    let f = formula_of r in
    let p = c.name_formula.new.builder in
    let ds = (naming m f n).definitions in
    let l = (naming m f n).literal in
    let is : c.in_ok-l.l ≡ l = c.in_ok-l.ensures.literal ∙ ap (λ (x : Formula). (naming m x n).literal) c.formula_of.ensures in
    let added : Adds b ds p = c.in_ok-l.ensures.added ∙ ap (λ (x : Formula). with_part b (definitions_part n (naming m x n).definitions)) c.formula_of.ensures in
    let few = c.requires.variables in
    let count = count_after b p ds added in
    let known = condition_known m (var_count p) r l c.requires.encodable.condition (omega arith) (literal_within m f b p c.requires.encodable.formula few added) in
    subst (λ (x : Literal). CanTake p (rule_clause m r x ∷ [])) (sym is) (clause_fits ds (rule_clause m r l) b p added known c.requires.room)

pub returns : goal.returns
returns c =
    let m = lists_of c.args.model.now in
    let b = c.args.builder.now in
    let n = var_count b in
    let r = c.args.rule.now in
    let f = formula_of r in
    let p = c.name_formula.new.builder in
    let ds = (naming m f n).definitions in
    let l = (naming m f n).literal in
    let is : c.in_ok-l.l ≡ l = c.in_ok-l.ensures.literal ∙ ap (λ (x : Formula). (naming m x n).literal) c.formula_of.ensures in
    let added : Adds b ds p = c.in_ok-l.ensures.added ∙ ap (λ (x : Formula). with_part b (definitions_part n (naming m x n).definitions)) c.formula_of.ensures in
    on_ok_weaker c.add_condition.result
    (λ h. rule_added ds (rule_clause m r l) b p c.add_condition.new.builder added (h ∙ ap (λ (x : Literal). with_written p (rule_clause m r x ∷ [])) is))
    c.add_condition.ensures
