use Rattle.std.proofs.Common.{not, ap, ◌∙◌}
use Rattle.std.proofs.Math.Logic.{∥∥₁_elim}
use Rattle.std.proofs.Props.{props}
use Rattle.cgm_model.proofs.model.Model.is_leaf.Goals as goal

pub returns : goal.returns
returns c =
    ∥∥₁_elim c.args.self.now.known (hlevel props)
    (λ facts. ap not (c.is_target.ensures ∙ facts.targets c.args.element))
