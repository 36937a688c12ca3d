-- The graph from targets to sources, and that it has no cycle: its elements can be numbered.
use Rattle.std.specs.Prelude.{ℕ, ◌<◌, List, All}
use Rattle.cgm_model.specs.declared.lists.Refinement.{Refinement}

-- each source has a lesser number than its target
abbrev pub IsNumbering : (ℕ → ℕ) → List Refinement → Type 0
IsNumbering f refinements = All (λ r. All (λ source. f source < f r.target) r.sources) refinements

abbrev pub IsAcyclic : List Refinement → Type 0
IsAcyclic refinements = (f : ℕ → ℕ) × IsNumbering f refinements

-- the refinement names only elements among so many
pub record HasKnownElements (count : ℕ) (r : Refinement) : Type 0 where
  pub target : r.target < count
  pub sources : All (λ source. source < count) r.sources
