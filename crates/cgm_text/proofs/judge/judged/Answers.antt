use Rattle.cgm_text.specs.Parsed.{statement_in}
use Rattle.cgm_text.proofs.Judging.{made, name_stop}
use Rattle.cgm_text.proofs.judge.judged.Goals as goal

pub returns-in-Some-clause-stop : goal.returns-in-Some-clause-stop
returns-in-Some-clause-stop c = λ tokens has.
    rw c.bad.ensures (name_stop c.args.builder.now tokens (statement_in c.args.line.now c.args.parsed.now) c.in-Some.kind has c.in-Some.ensures)

pub returns-in-Ok-clause-made : goal.returns-in-Ok-clause-made
returns-in-Ok-clause-made c = λ tokens has.
    made c.args.builder.now tokens (statement_in c.args.line.now c.args.parsed.now) c.in-Ok.statement has c.in-None.ensures c.in-Ok.ensures
