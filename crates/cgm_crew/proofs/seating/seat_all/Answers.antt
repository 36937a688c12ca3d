use Rattle.std.proofs.Common.{◌≡◌, ◌+◌, ℕ, vec_len, sym, ap, subst, ◌∙◌, List, arith}
use Rattle.std.specs.List.{All}
use Rattle.std.proofs.lemmas.List.Elements.{All-push}
use Rattle.cgm_search.specs.Working.{WorkerState}
use Rattle.cgm_crew.specs.Workers.{IsOther, first_after}
use Rattle.cgm_turn.specs.Passes.{PassState}
use Rattle.cgm_crew.proofs.seating.seat_all.Goals as goal

pub loop-preserved : goal.loop-preserved
loop-preserved g c =
    let turn = c.args.turn.now in
    let n : c.loop.first.splits ≡ vec_len c.loop.others = ap (λ (x : PassState). x.splits) c.loop.invariant.first in
    record {
      first = c.seat_next.ensures.first ∙ ap (first_after turn) (ap (λ (k : ℕ). k + 1) n ∙ sym c.push_reserved.ensures.len);
      others = subst (λ (ws : List (WorkerState PassState)). All (IsOther turn c.args.crew) ws) (sym c.push_reserved.ensures.items)
          (All-push (IsOther turn c.args.crew) c.loop.others.items c.in_ok-seat_next.field-0 c.loop.invariant.others c.in_ok-seat_next.ensures.other);
      number = omega (arith, c.loop.invariant.number, c.push_reserved.ensures.len);
      room = omega (arith, c.loop.invariant.room, c.push_reserved.ensures.capacity);
    }
