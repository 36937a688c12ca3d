use Rattle.std.proofs.Common.{◌≤◌, List, ℕ, length, sym, subst, ◌∙◌}
use Rattle.cgm_base.specs.Words.{most_bytes}
use Rattle.cgm_gen.proofs.Short.{generated_is_short, text_of_drawn}
use Rattle.cgm_gen.proofs.generator.text_of_goals.Goals as goal

pub returns-in-Ok-clause-text : goal.returns-in-Ok-clause-text
returns-in-Ok-clause-text c =
    c.in-Ok.ensures ∙ text_of_drawn c.args.goals c.as_slice.result.now (c.as_slice.ensures.value ∙ c.in_ok-costs.ensures.costs)

pub returns-in-Ok-clause-short : goal.returns-in-Ok-clause-short
returns-in-Ok-clause-short c =
    let is = c.in-Ok.ensures ∙ text_of_drawn c.args.goals c.as_slice.result.now (c.as_slice.ensures.value ∙ c.in_ok-costs.ensures.costs) in
    subst (λ (bs : List ℕ). length bs ≤ most_bytes) (sym is) (generated_is_short c.args.goals c.requires)
