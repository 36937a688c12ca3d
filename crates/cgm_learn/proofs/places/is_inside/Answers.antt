use Rattle.std.proofs.Common.{◌∙◌, sym, arith}
use Rattle.cgm_learn.proofs.Boxes.{inside_from}
use Rattle.cgm_learn.proofs.places.is_inside.Goals as goal

pub returns : goal.returns
returns c =
    λ _. inside_from c.args.inner.now c.args.outer.now c.args.vars (c.requires.inner ∙ sym c.requires.outer) (c.requires.inner_upper ∙ sym c.requires.outer_upper) c.requires.inner c.requires.inner_upper
    (λ y h. c.loop-v.invariant y (omega (arith, h, c.loop-v-test.false)))
