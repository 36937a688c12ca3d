use Rattle.std.proofs.Common.{false}
use Rattle.cgm_enc_formula.specs.declared.literals.Literal.{Literal}
use Rattle.cgm_enc_formula.specs.Literals.{opposite}
use Rattle.cgm_enc_formula.proofs.Mapped.{mapped_all, mapped_by}
use Rattle.cgm_enc_formula.proofs.definitions.opposites.Goals as goal

pub loop-l-preserved : goal.loop-l-preserved
loop-l-preserved c =
    let d : Literal = record { variable = 0; is_positive = false } in
    mapped_by opposite c.args.literals.now c.loop-l.l-index d c.opposite.result c.loop-l.opposites.items c.push.new.self.items
    c.loop-l-test.true c.loop-l.invariant c.opposite.ensures c.in_ok-push.ensures.items

pub returns : goal.returns
returns c = mapped_all opposite c.args.literals.now c.loop-l.l-index c.loop-l.opposites.items c.loop-l-test.false c.loop-l.invariant
