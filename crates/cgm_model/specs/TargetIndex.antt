-- What the builder's graph keeps: it has each refinement at its target, knows the sources, and has room for the search.
use Rattle.std.specs.Prelude.{ℕ, ◌≤◌, List, length, All}
use Rattle.cgm_model.specs.declared.graph.Graph.{Graph}
use Rattle.cgm_model.specs.declared.lists.Refinement.{Refinement}
use Rattle.cgm_model.specs.Search.{IsMarked, IsCovered}

pub record IsTargetIndexOf (refinements : List Refinement) (g : Graph) : Type 0 where
  pub covered : IsCovered g.by_target.items refinements
  pub flagged : All (λ r. All (IsMarked g.is_source.items) r.sources) refinements
  pub targets : length g.marks.items ≤ length g.by_target.items
  pub flags : length g.marks.items ≤ length g.is_source.items
  pub queue : length g.marks.items ≤ length g.queue.items

abbrev pub HasTargetRoomFor : ℕ → Graph → Type 0
HasTargetRoomFor count g = count ≤ length g.marks.items
