-- Which assignments are realizations, rule by rule, and the first rule that an assignment breaks.
use Rattle.std.specs.Prelude.{◌≡◌, ℕ, ◌↔◌, IsTrue, List, ℤ, All, Some, slice_get}
use Rattle.cgm_formula.specs.declared.assignment.Assignment.{Assignment}
use Rattle.cgm_formula.specs.declared.formula.Formula.{Formula}
use Rattle.cgm_formula.specs.declared.formula.Truth.{Truth}
use Rattle.cgm_formula.specs.Reading.{name_in, number_in}
use Rattle.cgm_formula.specs.Truth.{truth}
use Rattle.cgm_model.specs.declared.lists.Assertion.{Assertion}
use Rattle.cgm_model.specs.declared.lists.Edge.{Edge}
use Rattle.cgm_model.specs.declared.lists.Element.{Element}
use Rattle.cgm_model.specs.declared.lists.Lists.{Lists}
use Rattle.cgm_model.specs.declared.lists.Refinement.{Refinement}
use Rattle.cgm_model.specs.declared.lists.Rule.{Rule}
use Rattle.cgm_model.specs.declared.lists.Rule.TheVariants as rules
use Rattle.cgm_model.specs.declared.realization.Broken.{Broken}
use Rattle.cgm_model.specs.declared.realization.Broken.TheVariants as broken
use Rattle.cgm_base.specs.Place.{Each, FirstFails}
use Rattle.cgm_model.specs.Assignment.{ElementIsTrue, RefinementIsTrue}

-- a refinement is true exactly where all its sources are, and then its target is true
pub record KeepsRefinement (a : Assignment) (place : ℕ) (r : Refinement) : Type 0 where
  pub sources : RefinementIsTrue a place ↔ All (ElementIsTrue a) r.sources
  pub target : RefinementIsTrue a place → ElementIsTrue a r.target

-- the refinement at this place refines the element
abbrev pub Refines : Lists → ℕ → ℕ → Type 0
Refines m place element = (r : Refinement) × (slice_get m.refinements place ≡ Some r) × (r.target ≡ element)

-- a true element that has refinements has a true one
abbrev pub KeepsElement : Lists → Assignment → ℕ → Element → Type 0
KeepsElement m a element e =
    ElementIsTrue a element → (k : ℕ) → Refines m k element
    → (j : ℕ) × (Refines m j element × RefinementIsTrue a j)

abbrev pub KeepsContrib : Assignment → ℕ → Edge → Type 0
KeepsContrib a place e = ElementIsTrue a e.from → ElementIsTrue a e.to

abbrev pub KeepsConflict : Assignment → ℕ → Edge → Type 0
KeepsConflict a place e = ¬ (ElementIsTrue a e.from × ElementIsTrue a e.to)

-- the target of the refinement is true
abbrev pub TargetIsTrue : Lists → Assignment → ℕ → Type 0
TargetIsTrue m a refinement = (r : Refinement) × (slice_get m.refinements refinement ≡ Some r) × ElementIsTrue a r.target

-- where both targets are true, both refinements are true or neither is
abbrev pub KeepsBind : Lists → Assignment → ℕ → Edge → Type 0
KeepsBind m a place e =
    TargetIsTrue m a e.from → TargetIsTrue m a e.to → (RefinementIsTrue a e.from ↔ RefinementIsTrue a e.to)

-- a goal with `must` is true
abbrev pub KeepsMust : Assignment → ℕ → Element → Type 0
KeepsMust a element e = IsTrue e.must → ElementIsTrue a element

-- an asserted element has the truth that is asserted
abbrev pub KeepsAssertion : Assignment → ℕ → Assertion → Type 0
KeepsAssertion a place assertion = ElementIsTrue a assertion.element ↔ IsTrue assertion.truth

abbrev pub NameIsTrue : Assignment → Truth → Type 0
NameIsTrue a name = IsTrue (name_in a name)

abbrev pub FormulaHolds : Assignment → List ℤ → Formula → Type 0
FormulaHolds a sums f = IsTrue (truth (name_in a) (number_in a sums) f)

-- the formula holds, always or on the rule's condition
abbrev pub KeepsRule : Assignment → List ℤ → ℕ → Rule → Type 0
KeepsRule a sums place (rules.Positive name f) = NameIsTrue a name → FormulaHolds a sums f
KeepsRule a sums place (rules.Negative name f) = ¬ NameIsTrue a name → FormulaHolds a sums f
KeepsRule a sums place (rules.Require f) = FormulaHolds a sums f

pub record IsRealization (m : Lists) (a : Assignment) (sums : List ℤ) : Type 0 where
  pub refinements : Each (KeepsRefinement a) m.refinements
  pub elements : Each (KeepsElement m a) m.elements
  pub contribs : Each (KeepsContrib a) m.contribs
  pub conflicts : Each (KeepsConflict a) m.conflicts
  pub binds : Each (KeepsBind m a) m.binds
  pub musts : Each (KeepsMust a) m.elements
  pub asserts : Each (KeepsAssertion a) m.asserts
  pub rules : Each (KeepsRule a sums) m.rules

-- what is kept before each stage; the stages go in the order of the record
module _ (m : Lists) (a : Assignment) where
  abbrev pub BeforeElements : Type 0
  BeforeElements = Each (KeepsRefinement a) m.refinements

  abbrev pub BeforeContribs : Type 0
  BeforeContribs = BeforeElements × Each (KeepsElement m a) m.elements

  abbrev pub BeforeConflicts : Type 0
  BeforeConflicts = BeforeContribs × Each (KeepsContrib a) m.contribs

  abbrev pub BeforeBinds : Type 0
  BeforeBinds = BeforeConflicts × Each (KeepsConflict a) m.conflicts

  abbrev pub BeforeMusts : Type 0
  BeforeMusts = BeforeBinds × Each (KeepsBind m a) m.binds

  abbrev pub BeforeAsserts : Type 0
  BeforeAsserts = BeforeMusts × Each (KeepsMust a) m.elements

  abbrev pub BeforeRules : Type 0
  BeforeRules = BeforeAsserts × Each (KeepsAssertion a) m.asserts

-- the first rule that is broken, in this order and by place
abbrev pub IsFirstBroken : Lists → Assignment → List ℤ → Broken → Type 0
IsFirstBroken m a sums (broken.Refinement k) = FirstFails (KeepsRefinement a) m.refinements k
IsFirstBroken m a sums (broken.Element k) = BeforeElements m a × FirstFails (KeepsElement m a) m.elements k
IsFirstBroken m a sums (broken.Contrib k) = BeforeContribs m a × FirstFails (KeepsContrib a) m.contribs k
IsFirstBroken m a sums (broken.Conflict k) = BeforeConflicts m a × FirstFails (KeepsConflict a) m.conflicts k
IsFirstBroken m a sums (broken.Bind k) = BeforeBinds m a × FirstFails (KeepsBind m a) m.binds k
IsFirstBroken m a sums (broken.Must k) = BeforeMusts m a × FirstFails (KeepsMust a) m.elements k
IsFirstBroken m a sums (broken.Assert k) = BeforeAsserts m a × FirstFails (KeepsAssertion a) m.asserts k
IsFirstBroken m a sums (broken.Rule k) = BeforeRules m a × FirstFails (KeepsRule a sums) m.rules k
