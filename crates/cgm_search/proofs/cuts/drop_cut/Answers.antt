use Rattle.std.proofs.Common.{◌<◌, ◌≤◌, ◌∙◌, arith}
use Rattle.cgm_search.specs.Storing.{without_cut}
use Rattle.cgm_search.proofs.CutNames.{all_dropped, dropped_next, store_with_added}
use Rattle.cgm_search.proofs.cuts.drop_cut.Goals as goal

pub loop-part-preserved : goal.loop-part-preserved
loop-part-preserved c =
    let short : c.loop-part.part < c.args.parts = omega (arith, c.loop-part-test.true) in
    let gone = dropped_next c.args.ordinal c.loop-part.part c.args.parts c.loop-part.store.added c.forget.new.self.added short c.loop-part.invariant.names c.forget.ensures.added in
    record {
      names = gone.0;
      others = gone.1 ∙ c.loop-part.invariant.others;
      vars = c.forget.ensures.vars ∙ c.loop-part.invariant.vars;
      clauses = c.forget.ensures.clauses ∙ c.loop-part.invariant.clauses;
    }

pub returns : goal.returns
returns c =
    let past : c.args.parts ≤ c.loop-part.part = omega (arith, c.loop-part-test.false) in
    store_with_added c.args.store.now c.loop-part.store (without_cut c.args.store.now.added) c.loop-part.invariant.vars c.loop-part.invariant.clauses
    (all_dropped c.args.ordinal c.loop-part.part c.args.parts c.args.store.now.added c.loop-part.store.added past c.loop-part.invariant.names c.loop-part.invariant.others)
