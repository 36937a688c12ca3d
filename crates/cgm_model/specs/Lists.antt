-- A model as the lists of its statements by group, each in the order in which they were made.
use Rattle.std.specs.Prelude.{◌≡◌, ℕ, ◌+◌, List, [], ◌∷◌, ◌++◌, length, Result, is_ok, if◌then◌else◌}
use Rattle.cgm_model.specs.declared.lists.Element.{Element}
use Rattle.cgm_model.specs.declared.lists.Refinement.{Refinement}
use Rattle.cgm_model.specs.declared.lists.Variable.{Variable}
use Rattle.cgm_model.specs.declared.lists.Sum.{Sum}
use Rattle.cgm_model.specs.declared.lists.Edge.{Edge}
use Rattle.cgm_model.specs.declared.lists.Assertion.{Assertion}
use Rattle.cgm_model.specs.declared.lists.SumValue.{SumValue}
use Rattle.cgm_model.specs.declared.lists.Weighing.{Weighing}
use Rattle.cgm_model.specs.declared.lists.Preference.{Preference}
use Rattle.cgm_model.specs.declared.lists.Objective.{Objective}
use Rattle.cgm_model.specs.declared.lists.Rule.{Rule}
use Rattle.cgm_model.specs.declared.lists.Lists.{Lists}
use Rattle.cgm_model.specs.declared.lists.Statement.{Statement}
use Rattle.cgm_model.specs.declared.lists.Statement.TheVariants as statements

abbrev pub lists : List Element → List Refinement → List Variable → List Sum → List Edge → List Edge → List Edge → List Assertion → List SumValue → List Weighing → List Weighing → List Preference → List Rule → List ℕ → List Objective → Lists
lists elements refinements vars sums contribs conflicts binds asserts values rewards penalties prefers rules interests objectives = record {
  elements = elements;
  refinements = refinements;
  vars = vars;
  sums = sums;
  contribs = contribs;
  conflicts = conflicts;
  binds = binds;
  asserts = asserts;
  values = values;
  rewards = rewards;
  penalties = penalties;
  prefers = prefers;
  rules = rules;
  interests = interests;
  objectives = objectives;
}

-- the model without statements
abbrev pub no_lists : Lists
no_lists = lists [] [] [] [] [] [] [] [] [] [] [] [] [] [] []

-- the lists with one more statement
abbrev pub added : Lists → Statement → Lists
added m (statements.Element e) = record m { elements = m.elements ++ e ∷ [] }
added m (statements.Refine r) = record m { refinements = m.refinements ++ r ∷ [] }
added m (statements.Variable v) = record m { vars = m.vars ++ v ∷ [] }
added m (statements.Sum x) = record m { sums = m.sums ++ x ∷ [] }
added m (statements.Contrib e) = record m { contribs = m.contribs ++ e ∷ [] }
added m (statements.Conflict e) = record m { conflicts = m.conflicts ++ e ∷ [] }
added m (statements.Bind e) = record m { binds = m.binds ++ e ∷ [] }
added m (statements.Assert a) = record m { asserts = m.asserts ++ a ∷ [] }
added m (statements.Value v) = record m { values = m.values ++ v ∷ [] }
added m (statements.Reward w) = record m { rewards = m.rewards ++ w ∷ [] }
added m (statements.Penalty w) = record m { penalties = m.penalties ++ w ∷ [] }
added m (statements.Prefer p) = record m { prefers = m.prefers ++ p ∷ [] }
added m (statements.Rule r) = record m { rules = m.rules ++ r ∷ [] }
added m (statements.Interest k) = record m { interests = m.interests ++ k ∷ [] }
added m (statements.Objective o) = record m { objectives = m.objectives ++ o ∷ [] }

abbrev pub statement_count : Lists → ℕ
statement_count m =
    length m.elements + length m.refinements + length m.vars + length m.sums
    + length m.contribs + length m.conflicts + length m.binds + length m.asserts
    + length m.values + length m.rewards + length m.penalties + length m.prefers
    + length m.rules + length m.interests + length m.objectives

-- the statement is added whole, or nothing is
abbrev pub Pushes : {T E : Type 0} → Lists → Lists → Statement → Result T E → Type 0
Pushes old new statement result = new ≡ (if is_ok result then added old statement else old)
