use Rattle.std.proofs.Common.{refl}
use Rattle.cgm_atom.specs.Narrowing.{greatest_activity}
use Rattle.cgm_learn.proofs.RowNeeds.{between}
use Rattle.cgm_learn.proofs.RowGives.{below_by_slack, row_claimed, row_guard_still}
use Rattle.cgm_learn.proofs.rows.explain_row_atom.Goals as goal

pub explain_claimed-requires-clause-claimed : goal.explain_claimed-requires-clause-claimed
explain_claimed-requires-clause-claimed c = row_claimed c.args.work.now c.args.row.now c.args.atom c.in-None.ensures c.requires.undecided.not_true c.requires.given

pub returns-in-Some-clause-led : goal.returns-in-Some-clause-led
returns-in-Some-clause-led c =
    let work = c.args.work.now in
    let new = c.explain_terms.new.need in
    let r = c.args.row.now in
    let most = greatest_activity work r.terms in
    row_guard_still work new r c.args.atom most c.in-Some.slack c.requires.needed.proper (between work c.args.need.now new c.requires.needed.proper c.requires.needed.inside c.explain_terms.ensures.explained).inside c.requires.row.guard c.requires.undecided.not_true refl
    (below_by_slack most r.least c.in-Some.slack c.in-Some.ensures) c.in-Some.ensures c.requires.given (rw c.as_slice.ensures at c.explain_terms.ensures.sum)
