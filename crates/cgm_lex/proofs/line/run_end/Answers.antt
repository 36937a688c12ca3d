use Rattle.std.proofs.Common.{◌+◌, ◌∙◌, arith, sym}
use Rattle.cgm_lex.proofs.Cutting.{run_step}
use Rattle.cgm_lex.proofs.Spanning.{run_goes_on}
use Rattle.cgm_lex.proofs.line.run_end.Goals as goal

pub loop-at-preserved : goal.loop-at-preserved
loop-at-preserved c =
    let words = c.args.words.now in
    let run = sym c.is_run_byte.ensures ∙ c.if-not-is_run_byte.false in
    record {
      same = c.loop-at.invariant.same ∙ run_step words c.args.from c.loop-at.at (omega arith) (omega arith) run;
      spans = λ start. c.loop-at.invariant.spans start ∙ run_goes_on words start (start + c.args.from) c.loop-at.at (omega arith) run;
    }
