use Rattle.std.proofs.Common.{[], sym, subst, ◌∙◌}
use Rattle.std.proofs.lemmas.Bool.{false≢true}
use Rattle.cgm_encode.specs.Encoding.{IsEncodable}
use Rattle.cgm_solve.specs.Answers.{ShowsRealized}
use Rattle.cgm_gen.proofs.Least.{generated_has_least, generated_is_realized}
use Rattle.cgm_cli.proofs.Encodable.{generated_is_encodable}
use Rattle.cgm_cli.proofs.Trialling.{cost_is}
use Rattle.cgm_cli.proofs.trial.verdict.Goals as goal

pub shows_least-requires : goal.shows_least-requires
shows_least-requires g c = subst IsEncodable (sym c.requires.model) (generated_is_encodable c.args.goals c.requires.within)

pub print_summary-requires : goal.print_summary-requires
print_summary-requires g c =
    cost_is generated_is_realized generated_has_least c.args.goals c.requires.within c.args.entries.now c.args.found.now c.requires.shown

pub unreachable-requires : goal.unreachable-requires
unreachable-requires g c =
    false≢true (sym c.in-Ok-false.field-0-test ∙ c.in-Ok-false.ensures.1 (c.args.found.now, subst (λ m. ShowsRealized m [] c.args.entries.now c.args.found.now) (sym c.requires.model) c.requires.shown))
