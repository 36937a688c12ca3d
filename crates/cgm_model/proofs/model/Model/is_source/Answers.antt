use Rattle.std.proofs.Common.{◌∙◌}
use Rattle.std.proofs.Math.Logic.{∥∥₁_elim}
use Rattle.std.proofs.Props.{props}
use Rattle.cgm_model.proofs.model.Model.is_source.Goals as goal

pub returns : goal.returns
returns c =
    ∥∥₁_elim c.args.self.now.known (hlevel props)
    (λ facts. c.is_source.ensures ∙ facts.sources c.args.element)
