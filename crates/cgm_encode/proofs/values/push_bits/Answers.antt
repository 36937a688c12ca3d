use Rattle.std.proofs.Common.{◌++◌, false, map, refl}
use Rattle.cgm_atom.specs.Literals.{bit}
use Rattle.cgm_enc_formula.proofs.Mapped.{rest_by, rest_all}
use Rattle.cgm_encode.proofs.values.push_bits.Goals as goal

pub loop-truth-preserved : goal.loop-truth-preserved
loop-truth-preserved c =
    rest_by bit c.args.truths.now c.loop-truth.truth-index false _ c.loop-truth.out.items c.push_bit.new.out.items (c.args.out.now.items ++ map bit c.args.truths.now)
    c.loop-truth-test.true c.loop-truth.invariant refl c.in_ok-push_bit.ensures.added

pub returns : goal.returns
returns c =
    rest_all bit c.args.truths.now c.loop-truth.truth-index c.loop-truth.out.items (c.args.out.now.items ++ map bit c.args.truths.now) c.loop-truth-test.false c.loop-truth.invariant
