use Rattle.std.proofs.Common.{◌∙◌, ◌-◌, ◌*◌, ap, arith, pos, subst, sym}
use Rattle.std.specs.Prelude.{◌+ℤ◌, ◌≤ℤ◌, unsigned_abs}
use Rattle.cgm_atom.specs.Bounds.{Bounds}
use Rattle.cgm_atom.specs.Narrowing.{greatest_term, is_true_in, made_true}
use Rattle.cgm_learn.proofs.RowNeeds.{far_holds, spend, term_sum}
use Rattle.cgm_learn.proofs.rows.explain_term.Goals as goal

pub need_atom-requires-clause-met : goal.need_atom-requires-clause-met
need_atom-requires-clause-met c = ap (is_true_in c.args.work.now) c.far_moved.ensures ∙ far_holds c.args.work.now c.args.term.now c.affordable-by.result

pub returns-clause-sum : goal.returns-clause-sum
returns-clause-sum c =
    let work = c.args.work.now in
    let need = c.args.need.now in
    let t = c.args.term.now in
    let by = c.affordable-by.result in
    let left = c.args.slack - by * c.size_of-size.result in
    subst (λ (b : Bounds). (greatest_term b t.0 t.1.0 +ℤ pos left) ≤ℤ (greatest_term work t.0 t.1.0 +ℤ pos c.args.slack))
    (sym (c.need_atom.ensures.after ∙ ap (made_true need) c.far_moved.ensures))
    (term_sum work need t.0 t.1 by left c.args.slack (omega (arith, c.requires.known, c.requires.needed.inside.lower_count)) (omega (arith, c.requires.needed.inside.lower_count, c.requires.needed.inside.upper_count, c.requires.needed.proper.same_count))
    (spend by c.size_of-size.result (unsigned_abs t.0) c.args.slack c.size_of-size.ensures.size c.affordable-by.ensures.cost))
