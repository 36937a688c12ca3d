use Rattle.std.proofs.Common.{◌≡◌, length, ap, ◌∙◌, subst, sym, arith, List, ◌++◌, ◌∷◌, [], drop, ◌+◌, ◌↔◌}
use Rattle.std.proofs.lemmas.List.{length_push}
use Rattle.cgm_atom.specs.declared.entries.Entry.{Entry}
use Rattle.cgm_atom.specs.Acceptance.{IsAccepted, IsAcceptedAfter}
use Rattle.cgm_atom.specs.LogState.{state_of}
use Rattle.cgm_atom.proofs.StateLemmas.{IsAccepted-push}
use Rattle.cgm_step.specs.Indexing.{IsLogIndexOf}
use Rattle.cgm_core.proofs.Rests.{counted_index, rest_step}
use Rattle.cgm_core.proofs.batches.accepts_all.Goals as goal

pub take_in-requires-clause-count : goal.take_in-requires-clause-count
take_in-requires-clause-count c =
    omega (arith, counted_index c.loop-entry.index c.loop-entry.all.items c.loop-entry.invariant.own, c.loop-entry.invariant.count)

pub loop-entry-preserved : goal.loop-entry-preserved
loop-entry-preserved c =
    let p = c.args.problem.now in
    let all = c.loop-entry.all.items in
    let e = c.entry-item.result in
    let items : c.take_in.new.all.items ≡ all ++ e ∷ [] = c.in_ok-take_in.ensures.items in
    let passes = rw (c.of-in-loop-entry.ensures ∙ ap state_of c.as_slice.ensures.value) at c.in-Ok.ensures.exact in
    record {
      count = omega (arith, ap length items, length_push all e, c.loop-entry.invariant.count);
      accepted = subst (λ (xs : List Entry). IsAccepted p xs) (sym items) (IsAccepted-push p all e c.loop-entry.invariant.accepted passes);
      own = subst (λ (xs : List Entry). IsLogIndexOf c.take_in.new.index xs) (sym items) c.in_ok-take_in.ensures.own;
      own_box = c.accepts_next.ensures.own_box;
      rest =
          subst (λ (xs : List Entry). IsAcceptedAfter p (state_of c.args.seen.now) c.args.more.now ↔ IsAcceptedAfter p (state_of xs) (drop (c.loop-entry.entry-index + 1) c.args.more.now)) (sym items)
          (rest_step (IsAcceptedAfter p (state_of c.args.seen.now) c.args.more.now) p all c.args.more.now c.loop-entry.entry-index e (omega arith) c.entry-item.is passes c.loop-entry.invariant.rest);
    }
