use Rattle.std.proofs.Common.{◌∙◌}
use Rattle.cgm_transcripts.proofs.ContentLines.{content_at_flaw, content_at_line, on_form}
use Rattle.cgm_transcripts.specs.declared.directive.Line.{Line}
use Rattle.cgm_transcripts.proofs.content.content_of.Goals as goal

pub loop-at-preserved : goal.loop-at-preserved
loop-at-preserved c =
    c.loop-at.invariant
    ∙ content_at_line (λ (line : Line). line.bytes.now) c.args.lines.now c.loop-at.at _ c.loop-at.bytes.items _ c.loop-at-test.true c.in-Ok.ensures.bytes

pub returns-in-Err-clause-flaw : goal.returns-in-Err-clause-flaw
returns-in-Err-clause-flaw c =
    on_form (λ none. c.loop-at.invariant
    ∙ content_at_flaw (λ (line : Line). line.bytes.now) c.args.lines.now c.loop-at.at _ c.loop-at.bytes.items c.loop-at-test.true none)
    c.in-Err.flaw c.in-Err.ensures.flaw
