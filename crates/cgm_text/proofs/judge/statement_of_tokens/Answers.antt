use Rattle.cgm_text.specs.Line.{AreJudged}
use Rattle.cgm_text.specs.Parsed.{statement_in}
use Rattle.cgm_text.specs.Trees.{seen_all}
use Rattle.cgm_text.proofs.Judging.{declared_is_text, made_of, stop_exit, stop_of}
use Rattle.cgm_text.proofs.judge.statement_of_tokens.Goals as goal

pub returns-in_err-parsed-clause-stop : goal.returns-in_err-parsed-clause-stop
returns-in_err-parsed-clause-stop c =
    let m = c.args.builder.now in
    let tokens = seen_all c.args.line.now c.args.tokens.now in
    stop_exit (AreJudged m tokens) c.from_residual.result c.in_err-parsed.field-0.0 c.from_residual.ensures.1 (c.in_err-parsed.ensures.stop m)

pub judged-answer-requires : goal.judged-answer-requires
judged-answer-requires c =
    let line = c.args.line.now in
    record { texts = declared_is_text (seen_all line c.args.tokens.now) (statement_in line c.in_ok-parsed.parsed) c.in_ok-parsed.ensures.found c.requires.plain }

pub returns-clause-made : goal.returns-clause-made
returns-clause-made c =
    let line = c.args.line.now in
    made_of c.args.builder.now (seen_all line c.args.tokens.now) (statement_in line c.in_ok-parsed.parsed) c.judged-answer.result c.in_ok-parsed.ensures.found c.judged-answer.ensures.made

pub returns-clause-stop : goal.returns-clause-stop
returns-clause-stop c =
    let line = c.args.line.now in
    stop_of c.args.builder.now (seen_all line c.args.tokens.now) (statement_in line c.in_ok-parsed.parsed) c.judged-answer.result c.in_ok-parsed.ensures.found c.judged-answer.ensures.stop
