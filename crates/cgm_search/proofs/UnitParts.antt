-- What a unit comes to: a decision, a conflict after propagation, and a lemma with a jump back by it.
use Rattle.std.proofs.Common.{◌≡◌, ◌+◌, ◌≤◌, ap, arith, refl, sym, ◌∙◌}
use Rattle.std.specs.Prelude.{Option, Some, None, Result, Ok, Err, IfOk}
use Rattle.cgm_log.specs.Seats.{Seat}
use Rattle.cgm_search.specs.declared.plans.Stopped.{Stopped}
use Rattle.cgm_search.specs.declared.plans.Stopped.TheVariants as stopped
use Rattle.cgm_search.specs.declared.searches.Search.{Search}
use Rattle.cgm_search.specs.Knowing.{seen}
use Rattle.cgm_search.specs.Searching.{IsReady, IsTradedIn, IsUnit, Sits, before_trade, need}
use Rattle.cgm_search.specs.Stepping.{IsOneMoveMore}
use Rattle.cgm_search.proofs.Readiness.{need_moved, unit_before}
use Rattle.cgm_trail.specs.TrailState.{level_of}

sits_known : (old new : Search) (seat : Seat) → Sits old seat → new.known ≡ old.known → new.worker ≡ old.worker → Sits new seat
sits_known old new seat sits known worker = record {
  same_problem = sits.same_problem ∙ ap (λ k. k.problem) (sym known);
  same_entries = sits.same_entries ∙ ap seen (sym known);
  own_number = rw worker sits.own_number;
}

need_traded : (old new : Search) → IsTradedIn old new → need new ≡ need old
need_traded old new traded = rw (traded.plan, traded.trail) refl

pub unit_decided : {E : Type 0} (r : Result (Option Stopped) E) (old new : Search) (seat : Seat) → IsReady new → new.known ≡ old.known → new.worker ≡ old.worker → Sits old seat → IfOk r (IsOneMoveMore old new) → IfOk r (IsUnit old new seat seat)
unit_decided (Ok None) old new seat ready known worker sits h =
    (ready, sits_known old new seat sits known worker, h.0, (let fewer = h.1 in omega (arith, fewer)))
unit_decided (Ok (Some stopped.Final)) old new seat ready known worker sits h = absurd h
unit_decided (Ok (Some stopped.Spent)) old new seat ready known worker sits h = (ready, sits_known old new seat sits known worker, h)
unit_decided (Ok (Some stopped.Memory)) old new seat ready known worker sits h = absurd h
unit_decided (Err e) old new seat ready known worker sits h = tt

-- a unit that begins with propagation
pub unit_propagated : {E : Type 0} (r : Result (Option Stopped) E) (old mid new : Search) (before after : Seat) → mid.plan ≡ old.plan → old.trail.moves ≤ mid.trail.moves → level_of mid.trail.changes ≡ level_of old.trail.changes → IfOk r (IsUnit mid new (before_trade before) after) → IfOk r (IsUnit old new before after)
unit_propagated (Ok answer) old mid new before after plan moves level h =
    unit_before old mid new before (before_trade before) after answer moves (need_moved old mid plan moves level) (omega arith) h
unit_propagated (Err e) old mid new before after plan moves level h = tt

-- a unit that begins with a trade, and then with propagation
pub unit_offered : {E : Type 0} (r : Result (Option Stopped) E) (old traded mid new : Search) (before between after : Seat) → IsTradedIn old traded → between.trades + 1 ≡ before.trades → mid.plan ≡ traded.plan → traded.trail.moves ≤ mid.trail.moves → level_of mid.trail.changes ≡ level_of traded.trail.changes → IfOk r (IsUnit mid new (before_trade between) after) → IfOk r (IsUnit old new before after)
unit_offered (Ok answer) old traded mid new before between after trade once plan moves level h =
    let from : traded.trail.moves ≡ old.trail.moves = ap (λ t. t.moves) trade.trail in
    let fewer : need mid ≤ need old = rw (need_traded old traded trade) at (need_moved traded mid plan moves level) in
    unit_before old mid new before (before_trade between) after answer (omega (arith, from, moves)) fewer (omega (arith, once)) h
unit_offered (Err e) old traded mid new before between after trade once plan moves level h = tt

pub unit_jumped : (old mid new : Search) (before after : Seat) → IsTradedIn old mid → Sits mid after → IsReady new → new.known ≡ mid.known → new.worker ≡ mid.worker → new.trail.moves ≡ mid.trail.moves + 1 → need new + 2 ≤ need mid → after.trades + 1 ≡ before.trades → IsUnit old new (before_trade before) after None
unit_jumped old mid new before after traded sits ready known worker moves fewer once =
    let from : mid.trail.moves ≡ old.trail.moves = ap (λ t. t.moves) traded.trail in
    let bound : need new + 2 ≤ need old = rw (need_traded old mid traded) at fewer in (
      ready,
      sits_known mid new after sits known worker,
      omega (arith, moves, from),
      omega (arith, bound, once),
    )
