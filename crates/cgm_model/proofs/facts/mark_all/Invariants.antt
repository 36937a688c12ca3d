use Rattle.std.proofs.Common.{◌≡◌, ◌==◌, ◌||◌, ℕ, false, drop, get_or}
use Rattle.std.specs.List.{list_any}
use Rattle.cgm_model.proofs.facts.mark_all.Given as goal

abbrev pub invariant-loop-element : goal.invariant-loop-element
invariant-loop-element l =
    (k : ℕ) → (get_or l.marks k false || list_any (λ element. element == k) (drop l.element-index l.elements))
    ≡ (get_or l.initial.marks k false || list_any (λ element. element == k) l.elements)
