use Rattle.std.proofs.Common.{refl}
use Rattle.cgm_atom.specs.Narrowing.{greatest_activity}
use Rattle.cgm_learn.proofs.Needs.{explained_then}
use Rattle.cgm_learn.proofs.RowNeeds.{between, need_between}
use Rattle.cgm_learn.proofs.RowGives.{not_both_orders, row_refused, row_refused_still}
use Rattle.cgm_learn.proofs.rows.explain_row_conflict.Goals as goal

pub explain_guard-requires-clause-claimed : goal.explain_guard-requires-clause-claimed
explain_guard-requires-clause-claimed c = (row_refused c.args.work.now c.args.row.now c.requires.conflict).claimed

pub explain_terms-requires-clause-needed : goal.explain_terms-requires-clause-needed
explain_terms-requires-clause-needed c =
    need_between c.args.work.now c.args.need.now c.explain_guard.new.need c.requires.needed c.explain_guard.ensures.explained

pub returns-in-None-clause-conflict : goal.returns-in-None-clause-conflict
returns-in-None-clause-conflict c =
    absurd (not_both_orders (greatest_activity c.args.work.now c.args.row.now.terms) c.args.row.now.least c.in-None.ensures (row_refused c.args.work.now c.args.row.now c.requires.conflict).unmet)

pub returns-in-Some-clause-conflict : goal.returns-in-Some-clause-conflict
returns-in-Some-clause-conflict c =
    let work = c.args.work.now in
    let mid = c.explain_guard.new.need in
    let r = c.args.row.now in
    let inside = (between work c.args.need.now mid c.requires.needed.proper c.requires.needed.inside c.explain_guard.ensures.explained).inside in
    row_refused_still work mid c.explain_terms.new.need r (greatest_activity work r.terms) c.in-Some.slack refl c.in-Some.ensures c.explain_guard.ensures.claimed
    (between work mid c.explain_terms.new.need c.requires.needed.proper inside c.explain_terms.ensures.explained).more
    (rw c.as_slice.ensures at c.explain_terms.ensures.sum)

pub returns-in-Some-clause-explained : goal.returns-in-Some-clause-explained
returns-in-Some-clause-explained c = λ limits box.
    let first = c.explain_guard.ensures.explained limits box in
    explained_then limits c.args.work.now c.args.need.now c.explain_guard.new.need c.explain_terms.new.need first (c.explain_terms.ensures.explained limits first.within)
