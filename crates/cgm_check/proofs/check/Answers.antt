-- From one entry to the next, and the verdict at the end.
use Rattle.std.proofs.Common.{arith}
use Rattle.cgm_check.proofs.Ends.{accepted_next, counted_within, own_next, refused_at, verdict_of_all}
use Rattle.cgm_atom.proofs.StateLemmas.{IsAccepted-nil}
use Rattle.cgm_check.proofs.check.Goals as goal

pub loop-i-init : goal.loop-i-init
loop-i-init c = record {
  accepted = IsAccepted-nil c.args.problem.now;
  own = c.new-index.ensures.own;
  own_box = c.in_ok-work.ensures.bounds;
}

pub add-requires : goal.add-requires
add-requires c =
    omega (arith, counted_within c.loop-i.index c.args.entries.now c.loop-i.i c.loop-i.invariant.own)

pub returns-in-Err : goal.returns-in-Err
returns-in-Err c =
    refused_at c.args.problem.now c.args.entries.now c.loop-i.i c.index-entries-i.result c.in-Err.why (omega arith) c.index-entries-i.is c.loop-i.invariant.accepted (rw c.of-so_far.ensures at c.in-Err.ensures.exact)

pub loop-i-preserved : goal.loop-i-preserved
loop-i-preserved c = record {
  accepted = accepted_next c.args.problem.now c.args.entries.now c.loop-i.i c.index-entries-i.result (omega arith) c.index-entries-i.is c.loop-i.invariant.accepted (rw c.of-so_far.ensures at c.in-Ok.ensures.exact);
  own = own_next c.add.new.self c.args.entries.now c.loop-i.i c.index-entries-i.result (omega arith) c.index-entries-i.is (c.in_ok-add-in-Ok.ensures.own _ c.loop-i.invariant.own);
  own_box = c.accepts_next.ensures.own_box;
}

pub returns : goal.returns
returns c =
    verdict_of_all c.args.problem.now c.args.entries.now c.loop-i.i c.conclude.result c.recall_well_formed.ensures.proper (omega arith) c.loop-i.invariant.accepted (rw c.of-2.ensures at c.conclude.ensures)
