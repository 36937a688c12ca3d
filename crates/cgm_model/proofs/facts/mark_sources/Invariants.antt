use Rattle.std.proofs.Common.{◌≡◌, ◌==◌, ◌||◌, ℕ, false, drop, get_or}
use Rattle.std.specs.List.{list_any}
use Rattle.cgm_model.specs.declared.lists.Refinement.{Refinement}
use Rattle.cgm_model.proofs.facts.mark_sources.Given as goal

abbrev pub invariant-loop-r : goal.invariant-loop-r
invariant-loop-r l =
    (k : ℕ) → (get_or l.marks k false || list_any (λ (r : Refinement). list_any (λ source. source == k) r.sources) (drop l.r-index l.refinements))
    ≡ list_any (λ (r : Refinement). list_any (λ source. source == k) r.sources) l.refinements
