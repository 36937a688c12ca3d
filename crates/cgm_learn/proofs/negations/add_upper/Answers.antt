use Rattle.std.proofs.Common.{◌++◌, ◌∷◌, [], ◌∙◌, ap, sym}
use Rattle.cgm_learn.proofs.Negating.{upper_when}
use Rattle.cgm_learn.proofs.negations.add_upper.Goals as goal

pub returns-in_ok-push : goal.returns-in_ok-push
returns-in_ok-push c =
    c.in_ok-push.ensures.items
    ∙ ap (λ xs. c.args.atoms.now.items ++ xs)
    (ap (λ a. a ∷ []) c.above.ensures ∙ upper_when c.args.problem.now.bounds c.args.rest.now c.args.variable (sym c.is_reduced.ensures ∙ c.if-is_reduced.true))
