use Rattle.cgm_encode.proofs.AddedVariables.{bits_more}
use Rattle.cgm_encode.proofs.variables.add_bits.Goals as goal

pub loop-preserved : goal.loop-preserved
loop-preserved c =
    bits_more c.args.builder.now c.loop.builder c.add_variable.new.builder c.args.count c.loop.counter c.in_ok-add_variable.field-0 c.loop.variables.items c.push.new.self.items
    c.loop-test.true c.loop.invariant c.in_ok-add_variable.ensures.added c.in_ok-add_variable.ensures.variable c.in_ok-push.ensures.items
