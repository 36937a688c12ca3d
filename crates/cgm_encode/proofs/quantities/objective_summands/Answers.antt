use Rattle.std.proofs.Common.{◌<◌, ◌^◌, List, subst, sym}
use Rattle.std.specs.Prelude.{unsigned_abs}
use Rattle.std.specs.List.{All}
use Rattle.cgm_model.specs.Model.{lists_of}
use Rattle.cgm_encode.specs.Quantities.{quantity_total}
use Rattle.cgm_encode.specs.Totals.{Share}
use Rattle.cgm_encode.proofs.SignedShares.{signed_shares}
use Rattle.cgm_encode.proofs.quantities.objective_summands.Goals as goal

pub opposite-requires-clause-shares : goal.opposite-requires-clause-shares
opposite-requires-clause-shares c =
    let o = c.args.objective in
    let quantity = quantity_total (lists_of c.args.model.now) c.args.earlier.now.pairs o.of in
    subst (λ (shares : List Share). All (λ s. unsigned_abs s.0 < 2 ^ 63) shares) (sym c.in_ok-summands.ensures.0)
    (signed_shares o.max quantity c.if-objective.true c.requires.fitting.numbers)
