use Rattle.std.proofs.Common.{◌∙◌, ap, sym}
use Rattle.std.specs.Prelude.{Some}
use Rattle.cgm_transcripts.specs.Content.{bytes_followed, unescaped}
use Rattle.cgm_transcripts.proofs.Following.{followed-after_byte, followed-end, followed-nothing}
use Rattle.cgm_transcripts.proofs.escapes.unescape.Goals as goal

pub loop-left-init : goal.loop-left-init
loop-left-init c =
    let rest = unescaped c.args.line.now in
    sym (followed-nothing rest) ∙ ap (λ bytes. bytes_followed (Some bytes) rest) (sym c.new-bytes.ensures.items)

pub loop-left-smaller : goal.loop-left-smaller
loop-left-smaller c = c.in-Some.ensures.1

pub loop-left-preserved : goal.loop-left-preserved
loop-left-preserved c =
    c.loop-left.invariant
    ∙ ap (λ more. bytes_followed (Some c.loop-left.bytes.items) more) c.in-Some.ensures.0
    ∙ followed-after_byte c.loop-left.bytes.items c.in-Some.byte (unescaped c.in-Some.after.now)
    ∙ ap (λ bytes. bytes_followed (Some bytes) (unescaped c.in-Some.after.now)) (sym c.in_ok-push-in-Some.ensures.items)

pub returns-in-None : goal.returns-in-None
returns-in-None c = sym (c.loop-left.invariant ∙ ap (λ more. bytes_followed (Some c.loop-left.bytes.items) more) c.in-None.ensures)

pub returns : goal.returns
returns c =
    followed-end (unescaped c.args.line.now) c.loop-left.bytes.items c.loop-left.left.now c.loop-left.invariant c.loop-left-test.ensures
