use Rattle.cgm_cert.specs.Spelling.{hint_word}
use Rattle.cgm_cert.proofs.Steps.{word_added}
use Rattle.cgm_cert.proofs.printer.push_hints.Goals as goal

pub loop-hint-preserved : goal.loop-hint-preserved
loop-hint-preserved c =
    word_added hint_word c.args.hints.now c.loop-hint.hint-index _ c.args.out.now.items c.loop-hint.out.items c.push.new.self.items c.push_hint.new.out.items
    c.loop-hint-test.true c.loop-hint.invariant c.in_ok-push.ensures.items c.in_ok-push_hint.ensures
