use Rattle.std.proofs.Common.{◌+◌, ℤ, drop, get_or, length, pos}
use Rattle.cgm_atom.specs.declared.constraints.Var.{Var}
use Rattle.cgm_atom.proofs.RowSums.{rest_at}
use Rattle.cgm_learn.proofs.RowNeeds.{IsRowSoFar, row_ends, row_steps, sizes_so_far, term_at}
use Rattle.cgm_learn.proofs.rows.explain_terms.Goals as goal

abbrev filler : ℤ × Var
filler = (pos 0, record { 0 = 0 })

pub explain_unless-left-requires-clause-known : goal.explain_unless-left-requires-clause-known
explain_unless-left-requires-clause-known c = (term_at (length c.args.work.now.lower) c.args.terms.now c.loop-term.term-index filler c.loop-term-test.true c.requires.known).0

pub explain_unless-left-requires-clause-coefficient : goal.explain_unless-left-requires-clause-coefficient
explain_unless-left-requires-clause-coefficient c = (term_at (length c.args.work.now.lower) c.args.terms.now c.loop-term.term-index filler c.loop-term-test.true c.requires.known).1

pub explain_unless-left-requires-clause-needed : goal.explain_unless-left-requires-clause-needed
explain_unless-left-requires-clause-needed c =
    let needed = c.requires.needed in
    record {
      proper = needed.proper;
      inside = c.loop-term.invariant.inside;
      work_sizes = needed.work_sizes;
      need_sizes =
          sizes_so_far c.args.work.now c.args.need.now c.loop-term.need c.args.own c.args.terms.now (drop c.loop-term.term-index c.args.terms.now) c.args.slack c.loop-term.left needed.proper needed.need_sizes needed.inside c.loop-term.invariant;
    }

pub loop-term-preserved : goal.loop-term-preserved
loop-term-preserved c =
    let terms = c.args.terms.now in
    let i = c.loop-term.term-index in
    row_steps c.args.work.now c.args.need.now c.loop-term.need c.explain_unless-left.new.need c.args.own terms (drop (i + 1) terms) (get_or terms i filler) c.args.slack c.loop-term.left c.explain_unless-left.result c.requires.needed.proper
    (rest_at (λ rest. IsRowSoFar c.args.work.now c.args.need.now c.loop-term.need c.args.own terms rest c.args.slack c.loop-term.left) terms i filler c.loop-term-test.true c.loop-term.invariant)
    c.explain_unless-left.ensures.sum c.explain_unless-left.ensures.explained

pub returns-clause-sum : goal.returns-clause-sum
returns-clause-sum c =
    row_ends c.args.work.now c.args.need.now c.loop-term.need c.args.own c.args.terms.now c.args.slack c.loop-term.left c.loop-term.term-index c.loop-term-test.false c.loop-term.invariant
