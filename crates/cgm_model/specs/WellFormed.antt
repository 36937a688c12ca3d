-- Which lists are a model: what each one of their statements kept when it was added, by kind of statement.
use Rattle.std.specs.Prelude.{◌≡◌, ◌≢◌, ℕ, ◌<◌, ◌≤◌, IsTrue, List, length, All, AllPairs, Some, slice_get, map, unsigned_abs, ◌≤ℤ◌}
use Rattle.cgm_base.specs.declared.limit.Which.TheVariants as limits
use Rattle.cgm_base.specs.Words.{limit_number}
use Rattle.cgm_model.specs.declared.lists.Assertion.{Assertion}
use Rattle.cgm_model.specs.declared.lists.Element.{Element}
use Rattle.cgm_model.specs.declared.lists.ElementKind.TheVariants as kinds
use Rattle.cgm_model.specs.declared.lists.Lists.{Lists}
use Rattle.cgm_model.specs.declared.lists.Refinement.{Refinement}
use Rattle.cgm_model.specs.declared.lists.Rule.{Rule}
use Rattle.cgm_model.specs.declared.lists.SumValue.{SumValue}
use Rattle.cgm_model.specs.declared.lists.Variable.{Variable}
use Rattle.cgm_model.specs.declared.lists.Weighing.{Weighing}
use Rattle.cgm_model.specs.Formulas.{IsKnownTruth, IsProperRule, formula_of, node_total, every_linear, has_small_terms, has_distinct_terms}
use Rattle.cgm_model.specs.Graph.{IsAcyclic}
use Rattle.cgm_model.specs.Lists.{statement_count}
use Rattle.cgm_model.specs.Name.{is_name}
use Rattle.cgm_model.specs.Named.{names}
use Rattle.cgm_model.specs.Statement.{IsEdgeOf, IsProperPreference, IsKnownQuantity, is_distinct}

pub record AreNames (ns : List (List ℕ)) : Type 0 where
  pub spelled : All (λ n. IsTrue (is_name n)) ns
  pub short : All (λ n. length n ≤ limit_number limits.NameBytes) ns
  pub distinct : AllPairs (λ one other. one ≢ other) ns

-- a goal alone has `must`
abbrev pub IsElement : Element → Type 0
IsElement e = IsTrue e.must → e.kind ≡ kinds.Goal

pub record IsRefinement (m : Lists) (r : Refinement) : Type 0 where
  pub target : slice_get (map (λ e. e.kind) m.elements) r.target ≡ Some kinds.Goal
  pub known : All (λ source. source < length m.elements) r.sources
  pub there : 0 < length r.sources
  pub few : length r.sources ≤ limit_number limits.Sources
  pub distinct : IsTrue (is_distinct r.sources)

pub record IsVariable (v : Variable) : Type 0 where
  pub low : unsigned_abs v.lo ≤ limit_number limits.VariableBound
  pub high : unsigned_abs v.hi ≤ limit_number limits.VariableBound
  pub ordered : v.lo ≤ℤ v.hi

abbrev pub IsAssertion : Lists → Assertion → Type 0
IsAssertion m a = a.element < length m.elements

pub record IsValue (m : Lists) (v : SumValue) : Type 0 where
  pub sum : v.sum < length m.sums
  pub of : IsKnownTruth m v.of
  pub small : unsigned_abs v.k ≤ limit_number limits.Coefficient

pub record IsProperWeighing (m : Lists) (w : Weighing) : Type 0 where
  pub element : w.element < length m.elements
  pub small : unsigned_abs w.k ≤ limit_number limits.Coefficient

pub record IsRule (m : Lists) (r : Rule) : Type 0 where
  pub proper : IsProperRule m r
  pub small : IsTrue (every_linear has_small_terms (formula_of r))
  pub distinct : IsTrue (every_linear has_distinct_terms (formula_of r))

pub record AreWithinLimits (m : Lists) : Type 0 where
  pub statements : statement_count m ≤ limit_number limits.Statements
  pub elements : length m.elements ≤ limit_number limits.Elements
  pub refinements : length m.refinements ≤ limit_number limits.Refinements
  pub formula_nodes : node_total m.rules ≤ limit_number limits.FormulaNodes
  pub objectives : length m.objectives ≤ limit_number limits.Objectives

pub record IsWellFormedModel (m : Lists) : Type 0 where
  pub names : AreNames (names m)
  pub elements : All IsElement m.elements
  pub refinements : All (IsRefinement m) m.refinements
  pub acyclic : IsAcyclic m.refinements
  pub vars : All IsVariable m.vars
  pub contribs : All (IsEdgeOf (length m.elements)) m.contribs
  pub conflicts : All (IsEdgeOf (length m.elements)) m.conflicts
  pub binds : All (IsEdgeOf (length m.refinements)) m.binds
  pub asserts : All (IsAssertion m) m.asserts
  pub values : All (IsValue m) m.values
  pub rewards : All (IsProperWeighing m) m.rewards
  pub penalties : All (IsProperWeighing m) m.penalties
  pub prefers : All (IsProperPreference m) m.prefers
  pub rules : All (IsRule m) m.rules
  pub interests : All (λ k. k < length m.elements) m.interests
  pub distinct_interests : IsTrue (is_distinct m.interests)
  pub objectives : All (λ o. IsKnownQuantity m o.of) m.objectives
  pub limits : AreWithinLimits m
