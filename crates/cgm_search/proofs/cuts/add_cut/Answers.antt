use Rattle.std.proofs.Common.{◌≤◌, ◌++◌, ◌∙◌, ap, arith}
use Rattle.cgm_atom.specs.Cut.{cut}
use Rattle.cgm_atom.specs.Instance.{vector}
use Rattle.cgm_clauses.specs.StoreState.{StoreState}
use Rattle.cgm_search.specs.Cutting.{parts_of}
use Rattle.cgm_search.specs.Storing.{cut_named}
use Rattle.cgm_search.proofs.CutNames.{added_next, all_added, store_with_added}
use Rattle.cgm_search.proofs.cuts.add_cut.Goals as goal

pub loop-part-preserved : goal.loop-part-preserved
loop-part-preserved c = record {
  added =
      added_next c.args.ordinal c.loop-part.part (cut c.args.problem.now.objectives (vector c.args.problem.now c.args.values.now)) c.in_ok-clause.clause
      c.args.store.now.added c.loop-part.store.added c.add.new.self.added c.in_ok-clause.ensures.part c.loop-part.invariant.added
      (ap (λ (s : StoreState). s.added) c.in_ok-add.ensures.ok);
  vars = ap (λ (s : StoreState). s.vars) c.in_ok-add.ensures.ok ∙ c.loop-part.invariant.vars;
  clauses = ap (λ (s : StoreState). s.clauses) c.in_ok-add.ensures.ok ∙ c.loop-part.invariant.clauses;
}

pub returns : goal.returns
returns c =
    let p = c.args.problem.now in
    let past : parts_of p ≤ c.loop-part.part = omega (arith, c.loop-part-test.false, c.requires.parts) in
    store_with_added c.args.store.now c.loop-part.store
    (c.args.store.now.added ++ cut_named c.args.ordinal 0 (cut p.objectives (vector p c.args.values.now)))
    c.loop-part.invariant.vars c.loop-part.invariant.clauses
    (all_added p c.args.values.now c.args.ordinal c.loop-part.part c.args.store.now.added c.loop-part.store.added past c.loop-part.invariant.added)
