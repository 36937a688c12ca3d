-- The clauses and rows of rules are met exactly where the naming variables are defined and each rule holds.
use Rattle.std.proofs.Common.{◌≡◌, ℕ, ◌+◌, ◌↔◌, Bool, true, false, not, ◌||◌, ◌&&◌, IsTrue, List, [], ◌∷◌, length, refl, sym, ap, ◌∙◌, Decides}
use Rattle.std.specs.Prelude.{ℤ}
use Rattle.std.specs.List.{All, list_all}
use Rattle.std.proofs.lemmas.Bool.{and_parts, and_from}
use Rattle.std.proofs.lemmas.Bool.Decides.{Decides-at, Decides-not}
use Rattle.std.proofs.lemmas.List.Elements.{All-head, All-tail}
use Rattle.std.proofs.lemmas.List.Sums.{AllPass-from_list_all, list_all-from_AllPass}
use Rattle.cgm_atom.specs.declared.constraints.Row.{Row}
use Rattle.cgm_atom.specs.Atoms.{clause_true, row_true}
use Rattle.cgm_atom.specs.Literals.{truth_at}
use Rattle.cgm_atom.proofs.ClauseTruths.{Decides-implies, negated-true}
use Rattle.cgm_formula.specs.declared.assignment.Assignment.{Assignment}
use Rattle.cgm_formula.specs.declared.formula.Number.{Number}
use Rattle.cgm_formula.specs.declared.formula.Number.TheVariants as number
use Rattle.cgm_formula.specs.declared.formula.Truth.{Truth}
use Rattle.cgm_formula.specs.declared.formula.Truth.TheVariants as names
use Rattle.cgm_formula.specs.Reading.{name_in, number_in}
use Rattle.cgm_formula.specs.Truth.{truth}
use Rattle.cgm_model.specs.declared.lists.Lists.{Lists}
use Rattle.cgm_model.specs.declared.lists.Rule.{Rule}
use Rattle.cgm_model.specs.declared.lists.Rule.TheVariants as rules
use Rattle.cgm_model.specs.Formulas.{IsKnownNumber, IsKnownTruth, IsProperRule, formula_of}
use Rattle.cgm_base.specs.Place.{Each, EachFrom}
use Rattle.cgm_model.specs.Realization.{KeepsRule}
use Rattle.cgm_model.specs.TruthVariables.{StandFor, variable_of}
use Rattle.cgm_model.specs.WellFormed.{IsWellFormedModel}
use Rattle.cgm_enc_formula.specs.declared.literals.Literal.{Literal}
use Rattle.cgm_enc_formula.specs.Building.{rules_part}
use Rattle.cgm_enc_formula.specs.Definitions.{AreDefined}
use Rattle.cgm_enc_formula.specs.Laws.{MeetPart, StandForNumbers}
use Rattle.cgm_enc_formula.specs.Literals.{literal_true}
use Rattle.cgm_enc_formula.specs.Naming.{naming}
use Rattle.cgm_enc_formula.specs.Rules.{clauses_from, rows_from, rule_clause, rule_clauses, rule_definitions, rule_rows}
use Rattle.cgm_enc_formula.proofs.Agreement.{truth_agrees}
use Rattle.cgm_enc_formula.proofs.DefinitionLists.{rows_both}
use Rattle.cgm_enc_formula.proofs.DefinitionTruths.{definitions_mean, met, met-append}
use Rattle.cgm_enc_formula.proofs.LiteralTruths.{or_false}
use Rattle.cgm_enc_formula.proofs.NamingTruths.{both_defined, defined_both, literal_is_truth, names_at, numbers_at}
use Rattle.cgm_enc_formula.proofs.WellFormedRules.{each_rule}

grouped : (a b c : Bool) → ((a && b) && c) ≡ (a && (b && c))
grouped true b c = refl
grouped false b c = refl

by_itself : (t : Bool) → Decides t (IsTrue t)
by_itself t = (λ h. h, λ h. h)

not_not : (t : Bool) → t ≡ not (not t)
not_not true = refl
not_not false = refl

module _ (m : Lists) (values : List ℤ) where
  -- the rule, as the values read names and numbers
  abbrev pub RuleHolds : Rule → Type 0
  RuleHolds (rules.Positive name f) = IsTrue (names_at m values name) → IsTrue (truth (names_at m values) (numbers_at m values) f)
  RuleHolds (rules.Negative name f) = ¬ IsTrue (names_at m values name) → IsTrue (truth (names_at m values) (numbers_at m values) f)
  RuleHolds (rules.Require f) = IsTrue (truth (names_at m values) (numbers_at m values) f)

  rule_clause_means : (r : Rule) (l : Literal) → literal_true values l ≡ truth (names_at m values) (numbers_at m values) (formula_of r) → Decides (clause_true values (rule_clause m r l)) (RuleHolds r)
  rule_clause_means (rules.Positive name f) l e =
      let t = truth (names_at m values) (numbers_at m values) f in
      let n = names_at m values name in
      Decides-at (clause_true values (rule_clause m (rules.Positive name f) l)) (not n || t)
      (ap (λ (b : Bool). b || (literal_true values l || false)) (negated-true values (variable_of m name)) ∙ ap (λ (b : Bool). not n || b) (or_false (literal_true values l) ∙ e))
      (Decides-implies n t (IsTrue n) (IsTrue t) (by_itself n) (by_itself t))
  rule_clause_means (rules.Negative name f) l e =
      let t = truth (names_at m values) (numbers_at m values) f in
      let n = names_at m values name in
      Decides-at (clause_true values (rule_clause m (rules.Negative name f) l)) (not (not n) || t)
      (ap (λ (b : Bool). b || (literal_true values l || false)) (not_not n) ∙ ap (λ (b : Bool). not (not n) || b) (or_false (literal_true values l) ∙ e))
      (Decides-implies (not n) t (¬ IsTrue n) (IsTrue t) (Decides-not n (by_itself n)) (by_itself t))
  rule_clause_means (rules.Require f) l e =
      let t = truth (names_at m values) (numbers_at m values) f in
      Decides-at (clause_true values (rule_clause m (rules.Require f) l)) t (or_false (literal_true values l) ∙ e) (by_itself t)

  -- a rule with those after it
  split_rule : (n : ℕ) (r : Rule) (rs : List Rule) → met values (rule_clauses m n (r ∷ rs)) (rule_rows m n (r ∷ rs)) ≡ (met values (clauses_from n (naming m (formula_of r) n).definitions) (rows_from n (naming m (formula_of r) n).definitions) && (clause_true values (rule_clause m r (naming m (formula_of r) n).literal) && met values (rule_clauses m (n + length (naming m (formula_of r) n).definitions) rs) (rule_rows m (n + length (naming m (formula_of r) n).definitions) rs)))
  split_rule n r rs =
      let named = naming m (formula_of r) n in
      let next = n + length named.definitions in
      let own = rule_clause m r named.literal in
      ap (λ (rows : List Row). met values (rule_clauses m n (r ∷ rs)) rows) (rows_both n named.definitions (rule_definitions m next rs))
      ∙ met-append values (clauses_from n named.definitions) (own ∷ rule_clauses m next rs) (rows_from n named.definitions) (rule_rows m next rs)
      ∙ ap (λ (t : Bool). met values (clauses_from n named.definitions) (rows_from n named.definitions) && t)
      (grouped (clause_true values own) (list_all (clause_true values) (rule_clauses m next rs)) (list_all (row_true values) (rule_rows m next rs)))

  rules_hold : (n place : ℕ) (rs : List Rule) → met values (rule_clauses m n rs) (rule_rows m n rs) ≡ true → AreDefined values n (rule_definitions m n rs) × EachFrom place (λ _ r. RuleHolds r) rs
  rules_hold n place [] h = (tt, tt)
  rules_hold n place (r ∷ rs) h =
      let named = naming m (formula_of r) n in
      let next = n + length named.definitions in
      let own = clause_true values (rule_clause m r named.literal) in
      let before = met values (clauses_from n named.definitions) (rows_from n named.definitions) in
      let after = met values (rule_clauses m next rs) (rule_rows m next rs) in
      let parts = and_parts before (own && after) (sym (split_rule n r rs) ∙ h) in
      let more = and_parts own after parts.1 in
      let defined = (definitions_mean values n named.definitions).0 parts.0 in
      let rest = rules_hold next (place + 1) rs more.1 in (
        both_defined values n named.definitions (rule_definitions m next rs) defined rest.0,
        ((rule_clause_means r named.literal (literal_is_truth m values (formula_of r) n defined)).0 more.0, rest.1),
      )

  rules_are_met : (n place : ℕ) (rs : List Rule) → AreDefined values n (rule_definitions m n rs) → EachFrom place (λ _ r. RuleHolds r) rs → met values (rule_clauses m n rs) (rule_rows m n rs) ≡ true
  rules_are_met n place [] h k = refl
  rules_are_met n place (r ∷ rs) h k =
      let named = naming m (formula_of r) n in
      let next = n + length named.definitions in
      let own = clause_true values (rule_clause m r named.literal) in
      let before = met values (clauses_from n named.definitions) (rows_from n named.definitions) in
      let after = met values (rule_clauses m next rs) (rule_rows m next rs) in
      let defined = defined_both values n named.definitions (rule_definitions m next rs) h in
      split_rule n r rs
      ∙ and_from before (own && after) ((definitions_mean values n named.definitions).1 defined.0)
      (and_from own after ((rule_clause_means r named.literal (literal_is_truth m values (formula_of r) n defined.0)).1 k.0) (rules_are_met next (place + 1) rs defined.1 k.1))

-- ---- the assignment that the values stand for

module _ (m : Lists) (values : List ℤ) (a : Assignment) (sums : List ℤ) (stand : StandFor m (truth_at values) a) (numbers : StandForNumbers m values a sums) where
  same_name : (t : Truth) → IsKnownTruth m t → names_at m values t ≡ name_in a t
  same_name (names.Element k) known = sym (stand.elements k known)
  same_name (names.Refinement k) known = sym (stand.refinements k known)

  same_number : (x : Number) → IsKnownNumber m x → numbers_at m values x ≡ number_in a sums x
  same_number (number.Var k) known = sym (numbers.variables k known)
  same_number (number.Sum k) known = sym (numbers.totals k known)

  same_truth_of : (r : Rule) → IsProperRule m r → truth (names_at m values) (numbers_at m values) (formula_of r) ≡ truth (name_in a) (number_in a sums) (formula_of r)
  same_truth_of r proper =
      truth_agrees (names_at m values) (name_in a) (numbers_at m values) (number_in a sums) (formula_of r)
      (λ k d l. same_name _ (proper.formula.names k d l))
      (λ k d l i e j. same_number _ (proper.formula.numbers k d l i e j))

  same_rule : (place : ℕ) (r : Rule) → IsProperRule m r → RuleHolds m values r ↔ KeepsRule a sums place r
  same_rule place (rules.Positive name f) proper =
      let same = same_truth_of (rules.Positive name f) proper in
      let is = same_name name (All-head (IsKnownTruth m) name [] proper.condition) in
      (λ h t. sym same ∙ h (is ∙ t), λ h t. same ∙ h (sym is ∙ t))
  same_rule place (rules.Negative name f) proper =
      let same = same_truth_of (rules.Negative name f) proper in
      let is = same_name name (All-head (IsKnownTruth m) name [] proper.condition) in
      (λ h n. sym same ∙ h (λ t. n (sym is ∙ t)), λ h n. same ∙ h (λ t. n (is ∙ t)))
  same_rule place (rules.Require f) proper =
      let same = same_truth_of (rules.Require f) proper in
      (λ h. sym same ∙ h, λ h. same ∙ h)

  each_kept : (place : ℕ) (rs : List Rule) → All (IsProperRule m) rs → EachFrom place (λ _ r. RuleHolds m values r) rs → EachFrom place (KeepsRule a sums) rs
  each_kept place [] proper h = tt
  each_kept place (r ∷ rs) proper h =
      ((same_rule place r (All-head (IsProperRule m) r rs proper)).0 h.0, each_kept (place + 1) rs (All-tail (IsProperRule m) r rs proper) h.1)

  each_held : (place : ℕ) (rs : List Rule) → All (IsProperRule m) rs → EachFrom place (KeepsRule a sums) rs → EachFrom place (λ _ r. RuleHolds m values r) rs
  each_held place [] proper h = tt
  each_held place (r ∷ rs) proper h =
      ((same_rule place r (All-head (IsProperRule m) r rs proper)).1 h.0, each_held (place + 1) rs (All-tail (IsProperRule m) r rs proper) h.1)

proper_rules : (m : Lists) → ∥ IsWellFormedModel m ∥₁ → All (IsProperRule m) m.rules
proper_rules m well k d l = (each_rule m well k d l).proper

pub rules_part_means : (m : Lists) (values : List ℤ) (a : Assignment) (sums : List ℤ) (n : ℕ) → ∥ IsWellFormedModel m ∥₁ → StandFor m (truth_at values) a → StandForNumbers m values a sums → MeetPart values (rules_part m n m.rules) ↔ (AreDefined values n (rule_definitions m n m.rules) × Each (KeepsRule a sums) m.rules)
unfolding rules_part
rules_part_means m values a sums n well stand numbers =
    let proper = proper_rules m well in
    let clauses = rule_clauses m n m.rules in
    let rows = rule_rows m n m.rules in (
      λ h.
          let met_all = and_from (list_all (clause_true values) clauses) (list_all (row_true values) rows)
          (list_all-from_AllPass (clause_true values) clauses h.clauses) (list_all-from_AllPass (row_true values) rows h.rows) in
          let both = rules_hold m values n 0 m.rules met_all in
          (both.0, each_kept m values a sums stand numbers 0 m.rules proper both.1),
      λ h.
          let all = rules_are_met m values n 0 m.rules h.0 (each_held m values a sums stand numbers 0 m.rules proper h.1) in
          let parts = and_parts (list_all (clause_true values) clauses) (list_all (row_true values) rows) all in
          record {
            clauses = AllPass-from_list_all (clause_true values) clauses parts.0;
            rows = AllPass-from_list_all (row_true values) rows parts.1;
          },
    )
