use Rattle.std.proofs.Common.{◌∙◌, sym}
use Rattle.cgm_learn.proofs.RowNeeds.{term_moved, term_passed}
use Rattle.cgm_learn.proofs.rows.explain_unless.Goals as goal

pub returns-then-is_left_out-clause-sum : goal.returns-then-is_left_out-clause-sum
returns-then-is_left_out-clause-sum c = λ b smaller met.
    term_passed c.args.work.now c.args.own c.args.term.now c.args.slack (sym c.is_left_out.ensures ∙ c.if-is_left_out.true) c.requires.needed.proper c.requires.undecided b met

pub returns-clause-sum : goal.returns-clause-sum
returns-clause-sum c =
    term_moved c.args.work.now c.explain_term.new.need c.args.own c.args.term.now c.args.slack c.explain_term.result (sym c.is_left_out.ensures ∙ c.if-is_left_out.false) c.explain_term.ensures.sum
