-- The naming variables, clauses and rows of a list of rules, in order.
use Rattle.std.specs.Prelude.{ℕ, ◌+◌, List, [], ◌∷◌, ◌++◌, length, flat_map}
use Rattle.std.specs.List.{All, enumerate_from}
use Rattle.cgm_atom.specs.declared.constraints.Clause.{Clause}
use Rattle.cgm_atom.specs.declared.constraints.Row.{Row}
use Rattle.cgm_atom.specs.Bounds.{Bounds}
use Rattle.cgm_atom.specs.Literals.{clause, literal, negated}
use Rattle.cgm_model.specs.declared.lists.Lists.{Lists}
use Rattle.cgm_model.specs.declared.lists.Rule.{Rule}
use Rattle.cgm_model.specs.declared.lists.Rule.TheVariants as rules
use Rattle.cgm_model.specs.Formulas.{IsKnownTruth, condition_names, formula_of}
use Rattle.cgm_model.specs.TruthVariables.{variable_of}
use Rattle.cgm_enc_formula.specs.declared.literals.Literal.{Literal}
use Rattle.cgm_enc_formula.specs.Definitions.{Definition, definition_clauses, definition_rows}
use Rattle.cgm_enc_formula.specs.Literals.{atom_of}
use Rattle.cgm_enc_formula.specs.Naming.{naming}
use Rattle.cgm_enc_formula.specs.Terms.{IsEncodableFormula}

-- the clauses and the rows of definitions of which the first has variable n
abbrev pub clauses_from : ℕ → List Definition → List Clause
clauses_from n ds = flat_map (λ d. definition_clauses d.0 d.1) (enumerate_from n ds)

abbrev pub rows_from : ℕ → List Definition → List Row
rows_from n ds = flat_map (λ d. definition_rows d.0 d.1) (enumerate_from n ds)

-- where l is the literal of the rule's formula: `l` for `require`, `~N l` for `pre+`, `N l` for `pre-`
abbrev pub rule_clause : Lists → Rule → Literal → Clause
rule_clause m (rules.Positive name f) l = clause (negated (variable_of m name) ∷ atom_of l ∷ [])
rule_clause m (rules.Negative name f) l = clause (literal (variable_of m name) ∷ atom_of l ∷ [])
rule_clause m (rules.Require f) l = clause (atom_of l ∷ [])

-- the rule's name is there, and its formula can be encoded
pub record IsEncodableRule (m : Lists) (b : Bounds) (r : Rule) : Type 0 where
  pub condition : All (IsKnownTruth m) (condition_names r)
  pub formula : IsEncodableFormula m b (formula_of r)

-- the definitions of all rules, where the first naming variable is n
abbrev pub rule_definitions : Lists → ℕ → List Rule → List Definition
rule_definitions m n [] = []
rule_definitions m n (r ∷ rs) =
    let ds = (naming m (formula_of r) n).definitions in
    ds ++ rule_definitions m (n + length ds) rs

-- for each rule the clauses of its definitions, then its own
abbrev pub rule_clauses : Lists → ℕ → List Rule → List Clause
rule_clauses m n [] = []
rule_clauses m n (r ∷ rs) =
    let formula = naming m (formula_of r) n in
    clauses_from n formula.definitions
    ++ rule_clause m r formula.literal
    ∷ rule_clauses m (n + length formula.definitions) rs

abbrev pub rule_rows : Lists → ℕ → List Rule → List Row
rule_rows m n rs = rows_from n (rule_definitions m n rs)
