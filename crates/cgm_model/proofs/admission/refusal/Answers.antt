use Rattle.std.proofs.Common.{refl, ◌∙◌}
use Rattle.cgm_model.specs.Statement.{refusal}
use Rattle.cgm_model.proofs.admission.refusal.Goals as goal

pub returns : goal.returns
unfolding refusal
returns c =
    c.first_failing.ensures
    ∙ (rw (c.has_short_name.ensures, c.has_spelled_name.ensures, c.has_new_name.ensures, c.has_small_coefficients.ensures, c.has_small_bounds.ensures, c.has_ordered_bounds.ensures, c.has_distinct_sources.ensures, c.has_distinct_terms.ensures, c.has_new_interest.ensures c.args.lists.now c.requires.aids, c.refines_task.ensures, c.refines_assumption.ensures, c.statement_count.ensures, c.element_count.ensures, c.refinement_count.ensures, c.source_count.ensures, c.has_room_for_nodes.ensures c.args.lists.now c.requires.aids, c.objective_count.ensures) refl)
