-- Variables of 0 or 1, clauses and rows that are added to a problem, and when there is room for them.
use Rattle.std.specs.Prelude.{ℕ, ◌+◌, ◌-◌, ◌^◌, ◌≤◌, List, [], ◌∷◌, ◌++◌, length, map, replicate, pos}
use Rattle.cgm_atom.specs.declared.constraints.Clause.{Clause}
use Rattle.cgm_atom.specs.declared.constraints.Row.{Row}
use Rattle.cgm_atom.specs.Building.{without_repeats}
use Rattle.cgm_atom.specs.Instance.{Instance, var_count}
use Rattle.cgm_model.specs.declared.lists.Lists.{Lists}
use Rattle.cgm_model.specs.declared.lists.Rule.{Rule}
use Rattle.cgm_model.specs.Formulas.{formula_of}
use Rattle.cgm_enc_formula.specs.Definitions.{Definition, definition_clauses, definition_rows}
use Rattle.cgm_enc_formula.specs.Naming.{naming}
use Rattle.cgm_enc_formula.specs.Rules.{clauses_from, rows_from, rule_clause, rule_clauses, rule_definitions, rule_rows}

-- a part of a problem: how many variables of 0 or 1, which clauses as they are written, which rows
pub record Part : Type 0 where
  pub names : ℕ
  pub clauses : List Clause
  pub rows : List Row

-- one part after another
abbrev pub both : Part → Part → Part
both a b = record { names = a.names + b.names; clauses = a.clauses ++ b.clauses; rows = a.rows ++ b.rows }

-- the problem with the part, a later equal atom of each clause dropped
abbrev pub with_part : Instance → Part → Instance
with_part p part = record p {
  bounds = record {
    lower = p.bounds.lower ++ replicate part.names (pos 0);
    upper = p.bounds.upper ++ replicate part.names (pos 1);
  };
  clauses = p.clauses ++ map without_repeats part.clauses;
  rows = p.rows ++ part.rows;
}

-- numbers of variables, clauses and rows stay within 32 bits
pub record HasRoomFor (p : Instance) (part : Part) : Type 0 where
  pub names : var_count p + part.names ≤ 2 ^ 32 - 1
  pub clauses : length p.clauses + length part.clauses ≤ 2 ^ 32 - 1
  pub rows : length p.rows + length part.rows ≤ 2 ^ 32 - 1

abbrev pub clause_part : Clause → Part
clause_part c = record { names = 0; clauses = c ∷ []; rows = [] }

-- the part that defines the variable n
abbrev pub definition_part : ℕ → Definition → Part
definition_part n d = record { names = 1; clauses = definition_clauses n d; rows = definition_rows n d }

-- the part that defines the variables from n on
abbrev pub definitions_part : ℕ → List Definition → Part
definitions_part n ds = record { names = length ds; clauses = clauses_from n ds; rows = rows_from n ds }

-- the part of a rule whose naming variables are those from n on
abbrev pub rule_part : Lists → ℕ → Rule → Part
rule_part m n r =
    both (definitions_part n (naming m (formula_of r) n).definitions) (clause_part (rule_clause m r (naming m (formula_of r) n).literal))

-- the part of a list of rules whose naming variables are those from n on
unfoldable pub rules_part : Lists → ℕ → List Rule → Part
rules_part m n rs =
    record { names = length (rule_definitions m n rs); clauses = rule_clauses m n rs; rows = rule_rows m n rs }
