-- What a well-formed model says of the names in its graph, and of how many statements it has.
use Rattle.std.proofs.Common.{◌≤◌, length, get_or, map, All, arith}
use Rattle.std.proofs.Math.Logic.{∥∥₁_elim}
use Rattle.std.proofs.Props.{props}
use Rattle.std.proofs.lemmas.List.{length-map}
use Rattle.std.proofs.lemmas.Option.{slice_get_within}
use Rattle.cgm_base.specs.declared.limit.Which.TheVariants as limits
use Rattle.cgm_base.specs.Words.{limit_number}
use Rattle.cgm_model.specs.declared.lists.Element.{Element}
use Rattle.cgm_model.specs.declared.lists.ElementKind.TheVariants as kinds
use Rattle.cgm_model.specs.declared.lists.Lists.{Lists}
use Rattle.cgm_model.specs.declared.lists.Refinement.{Refinement}
use Rattle.cgm_model.specs.Graph.{HasKnownElements}
use Rattle.cgm_model.specs.Lists.{statement_count}
use Rattle.cgm_model.specs.Statement.{IsEdgeOf}
use Rattle.cgm_model.specs.WellFormed.{IsAssertion, IsRefinement, IsWellFormedModel}

-- each name in the graph is there, and the limits hold
pub record HasKnownNames (m : Lists) : Type 0 where
  pub refinements : All (HasKnownElements (length m.elements)) m.refinements
  pub few_sources : All (λ r. length r.sources ≤ limit_number limits.Sources) m.refinements
  pub contribs : All (IsEdgeOf (length m.elements)) m.contribs
  pub conflicts : All (IsEdgeOf (length m.elements)) m.conflicts
  pub binds : All (IsEdgeOf (length m.refinements)) m.binds
  pub asserts : All (IsAssertion m) m.asserts
  pub statements : statement_count m ≤ limit_number limits.Statements
  pub few_elements : length m.elements ≤ limit_number limits.Elements
  pub few_refinements : length m.refinements ≤ limit_number limits.Refinements

refinement_known : (m : Lists) (r : Refinement) → IsRefinement m r → HasKnownElements (length m.elements) r
refinement_known m r h =
    let within = slice_get_within (map (λ (e : Element). e.kind) m.elements) r.target kinds.Goal h.target in
    let same = length-map m.elements (λ (e : Element). e.kind) in
    record { target = omega arith; sources = h.known }

names_known : (m : Lists) → IsWellFormedModel m → HasKnownNames m
names_known m w = record {
  refinements = λ k d l. refinement_known m (get_or m.refinements k d) (w.refinements k d l);
  few_sources = λ k d l. (w.refinements k d l).few;
  contribs = w.contribs;
  conflicts = w.conflicts;
  binds = w.binds;
  asserts = w.asserts;
  statements = w.limits.statements;
  few_elements = w.limits.elements;
  few_refinements = w.limits.refinements;
}

pub known_names : (m : Lists) → ∥ IsWellFormedModel m ∥₁ → HasKnownNames m
known_names m w = ∥∥₁_elim w (hlevel props) (names_known m)
