use Rattle.std.proofs.Common.{subst, sym}
use Rattle.cgm_lex.specs.declared.stops.LineFault.TheVariants as line_faults
use Rattle.cgm_model.specs.Model.{lists_of}
use Rattle.cgm_text.specs.Text.{IsNotRead, IsTextOf}
use Rattle.cgm_text.proofs.Outcomes as models
use Rattle.cgm_gen.specs.GeneratedModel.{generated_model}
use Rattle.cgm_gen.proofs.Reading.{generated_is_read}
use Rattle.cgm_cli.proofs.Trialling.{reading_of_generated}
use Rattle.cgm_cli.proofs.trial.generated_reading.Goals as goal

pub returns-in-Ok : goal.returns-in-Ok
returns-in-Ok c =
    reading_of_generated generated_is_read c.args.goals c.args.text.now (lists_of c.in-Ok.reading.model) c.in-Ok.reading.rule_lines.items c.requires.within c.requires.text c.in-Ok.ensures.read

pub unreachable-requires : goal.unreachable-requires
unreachable-requires c =
    models.never_both c.args.text.now (generated_model c.args.goals) c.in-Err-Bad.line (line_faults.Bad c.in-Err-Bad.kind)
    (subst (λ bytes. IsTextOf bytes (generated_model c.args.goals)) (sym c.requires.text) (generated_is_read c.args.goals c.requires.within))
    (subst (IsNotRead c.args.text.now) c.in-Err-Bad.field-0-is c.in-Err-Bad.ensures.stop)

pub unreachable-requires-in-Err-Limit : goal.unreachable-requires-in-Err-Limit
unreachable-requires-in-Err-Limit c =
    models.never_both c.args.text.now (generated_model c.args.goals) c.in-Err-Limit.limit.line (line_faults.Limit c.in-Err-Limit.limit.which)
    (subst (λ bytes. IsTextOf bytes (generated_model c.args.goals)) (sym c.requires.text) (generated_is_read c.args.goals c.requires.within))
    (subst (IsNotRead c.args.text.now) c.in-Err-Limit.field-0-is c.in-Err-Limit.ensures.stop).0
