use Rattle.std.proofs.Common.{ℤ, pos, sym}
use Rattle.cgm_formula.specs.declared.formula.Number.{Number}
use Rattle.cgm_formula.specs.declared.formula.Number.TheVariants as number
use Rattle.cgm_model.specs.declared.formulas.Met.{Met}
use Rattle.cgm_model.proofs.Meeting.{Tracks-begun, Tracks-more, stands_twice}
use Rattle.cgm_model.proofs.formulas.are_distinct_by_set.Goals as goal

abbrev none : ℤ × Number
none = (pos 0, number.Var 0)

pub loop-term-init : goal.loop-term-init
loop-term-init c =
    let met : Met = record { vars = c.new.result; sums = c.new-2.result } in
    Tracks-begun met c.new.ensures.empty c.new-2.ensures.empty

pub loop-term-preserved : goal.loop-term-preserved
loop-term-preserved c =
    Tracks-more c.args.terms.now c.loop-term.term-index none c.loop-term.met c.meet.new.met c.in-Some.is_new c.loop-term-test.true c.loop-term.invariant c.in-Some.ensures c.if-not-is_new.false

pub returns-then-not-is_new : goal.returns-then-not-is_new
returns-then-not-is_new c =
    sym (stands_twice c.args.terms.now c.loop-term.term-index none c.loop-term.met c.meet.new.met c.in-Some.is_new c.loop-term-test.true c.loop-term.invariant c.in-Some.ensures c.if-not-is_new.true)
