use Rattle.std.proofs.Common.{ap, ◌∙◌}
use Rattle.std.specs.declared.option.Option.TheVariants.{Some}
use Rattle.cgm_atom.specs.LogState.{LogState, last_best}
use Rattle.cgm_solve.proofs.Bests.{best_of_log}
use Rattle.cgm_solve.proofs.answering.decoded_last_best.Goals as goal

pub decoded-requires : goal.decoded-requires
decoded-requires c =
    best_of_log c.args.encoded.now.problem c.args.log.now (Some c.in-Some.values.now) c.indexed.ensures.valid c.requires
    (c.in-Some.ensures ∙ ap (λ (s : LogState). last_best s) c.indexed.ensures.state)
