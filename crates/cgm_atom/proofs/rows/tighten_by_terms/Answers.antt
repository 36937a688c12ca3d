use Rattle.std.proofs.Common.{◌+◌, get_or, drop, pos}
use Rattle.cgm_atom.proofs.RowSums.{rest_at}
use Rattle.cgm_atom.proofs.RowTightening.{IsTightenedSoFar, tightening_begins, tightening_steps}
use Rattle.cgm_atom.proofs.rows.tighten_by_terms.Goals as goal

pub loop-term-init : goal.loop-term-init
loop-term-init c = tightening_begins c.args.bounds.now c.args.room c.args.terms.now c.requires.known c.requires.sizes

pub loop-term-preserved : goal.loop-term-preserved
loop-term-preserved c =
    let old = c.args.bounds.now in
    let terms = c.args.terms.now in
    let i = c.loop-term.term-index in
    let now = c.loop-term.bounds in
    rw c.then-outcome.ensures
    (tightening_steps old c.args.room terms (drop (i + 1) terms) (get_or terms i (pos 0, record { 0 = 0 })) now c.make_true.new.bounds c.kept_by_term-kept.result c.loop-term.outcome c.make_true.result
    (rest_at (λ rest. IsTightenedSoFar old c.args.room terms rest now c.loop-term.outcome) terms i (pos 0, record { 0 = 0 }) c.loop-term-test.true c.loop-term.invariant)
    c.kept_by_term-kept.ensures.kept c.kept_by_term-kept.ensures.proper c.make_true.ensures.after c.make_true.ensures.answer c.make_true.ensures.within)
