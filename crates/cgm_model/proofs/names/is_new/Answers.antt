use Rattle.std.proofs.Common.{not, ap, ◌∙◌}
use Rattle.std.specs.Option.{is_some}
use Rattle.cgm_model.proofs.Lookups.{not_some-thing_named, not_swap}
use Rattle.cgm_model.proofs.names.is_new.Goals as goal

pub returns : goal.returns
returns c =
    not_swap (is_some c.find.result) c.is_none.result c.is_none.ensures
    ∙ (ap (λ x. not (is_some x)) c.find.ensures ∙ not_some-thing_named c.args.lists.now c.args.name.now)
