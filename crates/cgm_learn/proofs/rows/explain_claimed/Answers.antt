use Rattle.std.proofs.Common.{refl, subst, sym}
use Rattle.cgm_atom.specs.declared.constraints.Atom.{Atom}
use Rattle.cgm_atom.specs.Narrowing.{greatest_activity, made_true}
use Rattle.cgm_trail.specs.TrailState.{IsOpenIn}
use Rattle.cgm_learn.proofs.Boxes.{negation_open}
use Rattle.cgm_learn.proofs.Needs.{explained_then}
use Rattle.cgm_learn.proofs.RowNeeds.{between, need_between}
use Rattle.cgm_learn.proofs.RowGives.{row_atom_still}
use Rattle.cgm_learn.proofs.rows.explain_claimed.Goals as goal

pub slack_with-requires-clause-undecided : goal.slack_with-requires-clause-undecided
slack_with-requires-clause-undecided c =
    subst (λ (x : Atom). IsOpenIn c.args.work.now x) (sym c.opposite-negated.ensures.negation) (negation_open c.args.work.now c.args.atom c.requires.undecided)

pub explain_terms-requires-clause-needed : goal.explain_terms-requires-clause-needed
explain_terms-requires-clause-needed c =
    need_between c.args.work.now c.args.need.now c.explain_guard.new.need c.requires.needed c.explain_guard.ensures.explained

pub explain_terms-requires-clause-undecided : goal.explain_terms-requires-clause-undecided
explain_terms-requires-clause-undecided c =
    subst (λ (x : Atom). IsOpenIn c.args.work.now x) (sym c.opposite-negated.ensures.negation) (negation_open c.args.work.now c.args.atom c.requires.undecided)

pub returns-in-Some-clause-led : goal.returns-in-Some-clause-led
returns-in-Some-clause-led c =
    let work = c.args.work.now in
    let mid = c.explain_guard.new.need in
    let new = c.explain_terms.new.need in
    let r = c.args.row.now in
    let o = c.opposite-negated.result in
    let inside = (between work c.args.need.now mid c.requires.needed.proper c.requires.needed.inside c.explain_guard.ensures.explained).inside in
    let both = between work mid new c.requires.needed.proper inside c.explain_terms.ensures.explained in
    row_atom_still work mid new r c.args.atom o (greatest_activity (made_true work o) r.terms) c.in-Some.slack c.requires.needed.proper both.inside c.requires.row.terms c.requires.undecided.known c.opposite-negated.ensures.negation refl
    (rw c.in-Some.is at c.in_ok-slack_with.ensures) c.explain_guard.ensures.claimed both.more (rw c.as_slice.ensures at c.explain_terms.ensures.sum)

pub returns-in-Some-clause-explained : goal.returns-in-Some-clause-explained
returns-in-Some-clause-explained c = λ limits whole box.
    let first = c.explain_guard.ensures.explained limits box in
    explained_then limits c.args.work.now c.args.need.now c.explain_guard.new.need c.explain_terms.new.need first (c.explain_terms.ensures.explained limits first.within)
