-- The rules of a goal graph.
use Rattle.cgm_formula.specs.declared.assignment.Assignment.{Assignment}
use Rattle.cgm_model.specs.declared.lists.Lists.{Lists}
use Rattle.cgm_base.specs.Place.{Each}
use Rattle.cgm_model.specs.Realization.{KeepsAssertion, KeepsBind, KeepsConflict, KeepsContrib, KeepsElement, KeepsMust, KeepsRefinement}

-- each rule of a realization but those that the model states as formulas
pub record KeepsGraph (m : Lists) (a : Assignment) : Type 0 where
  pub refinements : Each (KeepsRefinement a) m.refinements
  pub elements : Each (KeepsElement m a) m.elements
  pub contribs : Each (KeepsContrib a) m.contribs
  pub conflicts : Each (KeepsConflict a) m.conflicts
  pub binds : Each (KeepsBind m a) m.binds
  pub musts : Each (KeepsMust a) m.elements
  pub asserts : Each (KeepsAssertion a) m.asserts
