-- The name that an allowed statement declares is new, and a rule's nodes still have room.
use Rattle.std.proofs.Common.{◌≡◌, ◌≤◌, ◌++◌, ◌∷◌, [], true}
use Rattle.std.proofs.lemmas.Bool.{and_parts, leb-true}
use Rattle.cgm_base.specs.declared.limit.Which.TheVariants as limits
use Rattle.cgm_base.specs.Words.{limit_number}
use Rattle.cgm_model.specs.declared.lists.Element.{Element}
use Rattle.cgm_model.specs.declared.lists.Lists.{Lists}
use Rattle.cgm_model.specs.declared.lists.Refinement.{Refinement}
use Rattle.cgm_model.specs.declared.lists.Rule.{Rule}
use Rattle.cgm_model.specs.declared.lists.Statement.TheVariants as statements
use Rattle.cgm_model.specs.declared.lists.Sum.{Sum}
use Rattle.cgm_model.specs.declared.lists.Variable.{Variable}
use Rattle.cgm_model.specs.Formulas.{node_total}
use Rattle.cgm_model.specs.Statement.{IsAllowed, is_new}
use Rattle.cgm_model.proofs.Refusals.{Passes-none}

pub fresh_element : (m : Lists) (e : Element) → IsAllowed m (statements.Element e) → is_new m e.name ≡ true
fresh_element m e allowed =
    (and_parts (is_new m e.name) true (Passes-none m (statements.Element e) true allowed.passes).new).0

pub fresh_refinement : (m : Lists) (r : Refinement) → IsAllowed m (statements.Refine r) → is_new m r.name ≡ true
fresh_refinement m r allowed =
    (and_parts (is_new m r.name) true (Passes-none m (statements.Refine r) true allowed.passes).new).0

pub fresh_variable : (m : Lists) (v : Variable) → IsAllowed m (statements.Variable v) → is_new m v.name ≡ true
fresh_variable m v allowed =
    (and_parts (is_new m v.name) true (Passes-none m (statements.Variable v) true allowed.passes).new).0

pub fresh_sum : (m : Lists) (x : Sum) → IsAllowed m (statements.Sum x) → is_new m x.name ≡ true
fresh_sum m x allowed =
    (and_parts (is_new m x.name) true (Passes-none m (statements.Sum x) true allowed.passes).new).0

pub nodes_within : (m : Lists) (r : Rule) → IsAllowed m (statements.Rule r) → node_total (m.rules ++ r ∷ []) ≤ limit_number limits.FormulaNodes
nodes_within m r allowed =
    leb-true (node_total (m.rules ++ r ∷ [])) (limit_number limits.FormulaNodes) (Passes-none m (statements.Rule r) true allowed.passes).nodes
