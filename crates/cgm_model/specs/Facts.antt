-- What a model keeps of its goal graph: each refinement at its target, and marks of targets and of sources.
use Rattle.std.specs.Prelude.{◌≡◌, ◌==◌, ℕ, Bool, false, List, slice_index_or}
use Rattle.std.specs.List.{list_any}
use Rattle.cgm_model.specs.declared.facts.Facts.{Facts}
use Rattle.cgm_model.specs.declared.lists.Refinement.{Refinement}
use Rattle.cgm_model.specs.Search.{IsCovered}

-- an element has a mark exactly where it is the target of a refinement
abbrev pub AreTargets : List Bool → List Refinement → Type 0
AreTargets marks refinements =
    (k : ℕ) → slice_index_or marks k false ≡ list_any (λ r. r.target == k) refinements

-- an element has a mark exactly where it is a source of a refinement
abbrev pub AreSources : List Bool → List Refinement → Type 0
AreSources marks refinements =
    (k : ℕ) → slice_index_or marks k false ≡ list_any (λ r. list_any (λ source. source == k) r.sources) refinements

pub record AreFacts (refinements : List Refinement) (facts : Facts) : Type 0 where
  pub covered : IsCovered facts.by_target.items refinements
  pub targets : AreTargets facts.targets.items refinements
  pub sources : AreSources facts.sources.items refinements
