-- What the builder keeps beside its lists: a table of the names, the graph, the room that is left for formula nodes, and a mark for each element of interest.
use Rattle.std.specs.Prelude.{◌≡◌, ◌==◌, ℕ, ◌+◌, ◌≤◌, false, List, Some, length, slice_index_or}
use Rattle.std.specs.List.{list_any}
use Rattle.cgm_base.specs.declared.limit.Which.TheVariants as limits
use Rattle.cgm_base.specs.Words.{limit_number}
use Rattle.cgm_model.specs.declared.aids.Aids.{Aids}
use Rattle.cgm_model.specs.declared.lists.Lists.{Lists}
use Rattle.cgm_model.specs.declared.lists.Thing.{Thing}
use Rattle.cgm_model.specs.Formulas.{node_total}
use Rattle.cgm_model.specs.Named.{IsNamedThing}
use Rattle.cgm_model.specs.NameTable.{thing_found}
use Rattle.cgm_model.specs.TargetIndex.{IsTargetIndexOf, HasTargetRoomFor}

-- there is room to take this many elements into the graph and to mark them
pub record HasGraphRoom (count : ℕ) (aids : Aids) : Type 0 where
  pub graph : HasTargetRoomFor count aids.graph
  pub interests : count ≤ length aids.interests.items

pub record AreFor (m : Lists) (aids : Aids) : Type 0 where
  pub names : (name : List ℕ) (thing : Thing) → IsNamedThing m name thing → thing_found aids.names name ≡ Some thing
  pub graph : IsTargetIndexOf m.refinements aids.graph
  pub room : HasGraphRoom (length m.elements) aids
  pub nodes : aids.node_room + node_total m.rules ≡ limit_number limits.FormulaNodes
  pub interests : (k : ℕ) → slice_index_or aids.interests.items k false ≡ list_any (λ j. j == k) m.interests
