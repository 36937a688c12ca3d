use Rattle.std.proofs.Common.{◌≡◌, false, get_or, refl, sym, ap, ◌∙◌}
use Rattle.cgm_model.proofs.Cycles.{IsAcyclic-on_top}
use Rattle.cgm_model.proofs.graph.stays_acyclic.Goals as goal

pub returns-then-is_on_top-clause-answer : goal.returns-then-is_on_top-clause-answer
returns-then-is_on_top-clause-answer c =
    let r = c.args.refinement.now in
    let flags = c.args.graph.now.is_source.items in
    let unflagged : get_or flags r.target false ≡ false = ap (λ xs. get_or xs r.target false) (sym c.as_slice.ensures.value) ∙ c.is_on_top.ensures.old c.if-is_on_top.true in (
      λ _. IsAcyclic-on_top c.args.refinements.now r flags c.requires.acyclic c.requires.index.flagged unflagged (c.is_on_top.ensures.new c.if-is_on_top.true),
      λ _. refl,
    )
