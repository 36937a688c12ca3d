use Rattle.std.proofs.Common.{◌++◌, ◌∷◌, [], ◌∙◌, ap, sym}
use Rattle.cgm_learn.proofs.Negating.{lower_when}
use Rattle.cgm_learn.proofs.negations.add_lower.Goals as goal

pub returns-in_ok-push : goal.returns-in_ok-push
returns-in_ok-push c =
    c.in_ok-push.ensures.items
    ∙ ap (λ xs. c.args.atoms.now.items ++ xs)
    (ap (λ a. a ∷ []) c.below.ensures ∙ lower_when c.args.problem.now.bounds c.args.rest.now c.args.variable (sym c.is_raised.ensures ∙ c.if-is_raised.true))
