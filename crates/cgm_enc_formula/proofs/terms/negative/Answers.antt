use Rattle.std.specs.Prelude.{ℤ, pos, neg_ℤ}
use Rattle.cgm_atom.specs.declared.constraints.Var.{Var}
use Rattle.cgm_enc_formula.proofs.Mapped.{mapped_all, mapped_by}
use Rattle.cgm_enc_formula.proofs.terms.negative.Goals as goal

pub loop-term-preserved : goal.loop-term-preserved
loop-term-preserved c =
    mapped_by (λ (t : ℤ × Var). (neg_ℤ t.0, t.1)) c.args.terms.now c.loop-term.term-index (pos 0, record { 0 = 0 }) c.negated_term.result c.loop-term.negated.items c.push.new.self.items
    c.loop-term-test.true c.loop-term.invariant c.negated_term.ensures c.in_ok-push.ensures.items

pub negated_term-requires : goal.negated_term-requires
negated_term-requires c = c.requires c.loop-term.term-index (pos 0, record { 0 = 0 }) c.loop-term-test.true

pub returns : goal.returns
returns c =
    mapped_all (λ (t : ℤ × Var). (neg_ℤ t.0, t.1)) c.args.terms.now c.loop-term.term-index c.loop-term.negated.items c.loop-term-test.false c.loop-term.invariant
