use Rattle.std.proofs.Common.{sym, ◌∙◌}
use Rattle.cgm_model.proofs.realization.keeps_element.Goals as goal

pub returns-then-is_refined : goal.returns-then-is_refined
returns-then-is_refined c = (
  λ t _ _ _. c.has_true_refinement.ensures.0 t,
  λ keeps.
      let refined = c.is_refined.ensures.0 c.if-is_refined.true in
      let is_true = sym c.element_is_true.ensures ∙ c.if-element_is_true.true in
      c.has_true_refinement.ensures.1 (keeps is_true refined.0 refined.1),
)
