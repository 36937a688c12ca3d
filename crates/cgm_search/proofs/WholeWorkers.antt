-- What the fields of a worker keep, and what holds of the worker that they are.
use Rattle.std.proofs.Common.{◌≡◌, ◌+◌, ◌*◌, ◌^◌, ◌<◌, ◌≤◌, [], refl, sym, ap, subst, ◌∙◌, arith}
use Rattle.std.specs.Prelude.{◌≢◌, ◌↔◌, IfSome}
use Rattle.std.specs.declared.option.Option.{Option}
use Rattle.std.specs.declared.option.Option.TheVariants.{Some, None}
use Rattle.cgm_atom.specs.Acceptance.{IsClosed}
use Rattle.cgm_atom.specs.Instance.{Instance}
use Rattle.cgm_log.specs.Seats.{Seat}
use Rattle.cgm_log.proofs.Makers.{made_none}
use Rattle.cgm_search.specs.declared.plans.Plan.{Plan}
use Rattle.cgm_search.specs.declared.plans.Stopped.{Stopped}
use Rattle.cgm_search.specs.declared.plans.Stopped.TheVariants as stopped
use Rattle.cgm_search.specs.declared.searches.Search.{Search}
use Rattle.cgm_search.specs.Knowing.{seen}
use Rattle.cgm_search.specs.Searching.{IsKeptSearch, IsReady, IsTrailOf, Sits}
use Rattle.cgm_search.specs.Spending.{IsSpentTrail}
use Rattle.cgm_search.specs.WorkerParts.{IsEndedAs, IsWhole, IsWholeWorker, worker_state}
use Rattle.cgm_search.specs.Working.{IsAt, IsSearching, IsWorker, WorkerState}
use Rattle.cgm_search.proofs.UsedBounds.{all_low}
use Rattle.cgm_trail.specs.Rank.{IsTrail, slack}
use Rattle.cgm_trail.specs.TrailState.{trail_started}
use Rattle.cgm_trail.proofs.Ranking.{moves_are_few}

-- ---- the worker

pub searching : {H : Type 0} (s : Search) (seat : Seat) (home : H) (ended : Option Stopped) → IsReady s → Sits s seat → IsSearching (worker_state seat home s ended)
searching s seat home ended h sits =
    rw (sits.same_problem, sits.same_entries)
    (record {
      accepted = h.known.accepted;
      still_open = h.still_open;
      reasons = h.reasons;
      store = h.known.store;
      bounds = all_low s.known.problem s.known.entries.items s.known.store.added h.known.accepted h.known.store.names;
      ordered = record { first = h.own_order.first; later = h.own_order.later };
      own_number = sits.own_number;
    })

at_end : {H : Type 0} (s : Search) (seat : Seat) (home : H) (ended : Option Stopped) → IsEndedAs s seat ended → IsAt (worker_state seat home s ended) ended
at_end s seat home None h =
    record {
      searching = searching s seat home None h.ready h.sits;
      nothing = h.nothing;
      trail = h.trail;
      trades = h.enough;
    }
at_end s seat home (Some stopped.Final) h = h
at_end s seat home (Some stopped.Spent) h = (searching s seat home (Some stopped.Spent) h.0 h.1, h.2)
at_end s seat home (Some stopped.Memory) h = tt

pub worker_of : {H : Type 0} (s : Search) (seat : Seat) (home : H) (ended : Option Stopped) → IsWholeWorker s seat ended → IsWorker (worker_state seat home s ended)
worker_of s seat home ended h = record {
  plan = h.whole.plan;
  trail = h.whole.trail;
  own = h.own;
  at = at_end s seat home ended h.whole.ended_as;
}

-- a new worker, whose trader was told nothing and landed nothing
pub whole_new : (s : Search) (seat : Seat) (p : Instance) → IsReady s → s.known.problem ≡ p → seat.problem ≡ p → seat.told ≡ [] → seen s.known ≡ [] → seat.own ≡ [] → s.trail ≡ trail_started p → s.plan.budget + 2 ≤ seat.trades → IfSome seat.number (λ n. s.worker ≡ n) → IsWholeWorker s seat None
whole_new s seat p h known same told nothing none trail enough number =
    let here : seat.problem ≡ s.known.problem = same ∙ sym known in
    record {
      whole = record {
        plan = h.plan;
        trail = rw here h.trail;
        ended_as = record {
          ready = h;
          sits = record { same_problem = here; same_entries = told ∙ sym nothing; own_number = number };
          nothing = told;
          trail = trail ∙ ap (λ (x : Instance). trail_started x) (sym same);
          enough = enough;
        };
      };
      own = made_none s.worker seat.own none;
    }

-- ---- its end

-- where the budget is large, it isn't spent
spent_few : {H : Type 0} (w : WorkerState H) → IsWorker w → w.ended ≡ Some stopped.Spent → IsTrail w.trail → (w.plan.restarts + 1) * 2 ^ (slack w.seat.problem.bounds + 1) ≤ w.plan.budget → ⊥
spent_few w h e valid large =
    let at : IsAt w (Some stopped.Spent) = subst (λ (o : Option Stopped). IsAt w o) e h.at in
    let all : w.trail.moves ≡ w.plan.budget = at.1 in
    let few : w.trail.moves < (w.plan.restarts + 1) * 2 ^ (slack w.seat.problem.bounds + 1) =
    subst (λ (p : Instance). w.trail.moves < (w.plan.restarts + 1) * 2 ^ (slack p.bounds + 1)) h.trail.problem
    (moves_are_few w.trail w.plan.restarts valid h.trail.restarts) in
    omega arith

pub never_spent : {H : Type 0} (w : WorkerState H) (answer : Stopped) (plan : Plan) (problem : Instance) → IsWorker w → w.ended ≡ Some answer → IsTrail w.trail → w.plan ≡ plan → w.seat.problem ≡ problem → (plan.restarts + 1) * 2 ^ (slack problem.bounds + 1) ≤ plan.budget → answer ≢ stopped.Spent
never_spent w answer plan problem h e valid f g large = λ spent.
    let own : (w.plan.restarts + 1) * 2 ^ (slack w.seat.problem.bounds + 1) ≤ w.plan.budget = rw (f, g) large in
    spent_few w h (e ∙ ap Some spent) valid own

at_answer : {H : Type 0} (w : WorkerState H) (answer : Stopped) → IsWorker w → w.ended ≡ Some answer → IsAt w (Some answer)
at_answer w answer h e = subst (λ (o : Option Stopped). IsAt w o) e h.at

pub moves_when_spent : {H : Type 0} (w : WorkerState H) (answer : Stopped) (plan : Plan) → IsWorker w → w.ended ≡ Some answer → w.plan ≡ plan → answer ≡ stopped.Spent → w.trail.moves ≡ plan.budget
moves_when_spent w answer plan h e f spent =
    let at : IsAt w (Some stopped.Spent) = at_answer w stopped.Spent h (e ∙ ap Some spent) in
    at.1 ∙ ap (λ (p : Plan). p.budget) f

final_by : {H : Type 0} (w : WorkerState H) (answer : Stopped) → IsAt w (Some answer) → answer ≢ stopped.Memory → answer ≡ stopped.Final ↔ IsClosed w.seat.told
final_by w stopped.Final at h = (λ _. at, λ _. refl)
final_by w stopped.Spent at h = (
  λ e. absurd (cc),
  λ closed. let still_open = at.0.still_open in absurd (let wrong = sym still_open ∙ closed in cc),
)
final_by w stopped.Memory at h = absurd (h refl)

pub final_exactly : {H : Type 0} (w : WorkerState H) (answer : Stopped) → IsWorker w → w.ended ≡ Some answer → answer ≢ stopped.Memory → answer ≡ stopped.Final ↔ IsClosed w.seat.told
final_exactly w answer h e = final_by w answer (at_answer w answer h e)

-- a trail on which the budget was spent
pub spent_trail : {H : Type 0} (w : WorkerState H) → IsWorker w → IsTrail w.trail → w.ended ≡ Some stopped.Spent → IsSpentTrail w.seat.problem w.plan w.seat.told w.trail
spent_trail w h valid e =
    let at : IsAt w (Some stopped.Spent) = subst (λ (o : Option Stopped). IsAt w o) e h.at in
    let all : w.trail.moves ≡ w.plan.budget = at.1 in
    let few : w.trail.moves < (w.plan.restarts + 1) * 2 ^ (slack w.seat.problem.bounds + 1) =
    subst (λ (p : Instance). w.trail.moves < (w.plan.restarts + 1) * 2 ^ (slack p.bounds + 1)) h.trail.problem
    (moves_are_few w.trail w.plan.restarts valid h.trail.restarts) in
    record {
      problem = h.trail.problem;
      moves = all;
      restarts = h.trail.restarts;
      reasons = at.0.reasons;
      few = omega arith;
    }

-- ---- what stays

pub kept_itself : (s : Search) → IsReady s → IsKeptSearch s s
kept_itself s h = record { problem = refl; plan = refl; worker = refl; trail = h.trail }

pub kept_twice : (old mid new : Search) → IsKeptSearch old mid → IsKeptSearch mid new → IsKeptSearch old new
kept_twice old mid new h k =
    record {
      problem = k.problem ∙ h.problem;
      plan = k.plan ∙ h.plan;
      worker = k.worker ∙ h.worker;
      trail = subst (λ (plan : Plan). IsTrailOf old.known.problem plan new.trail) h.plan (subst (λ (p : Instance). IsTrailOf p mid.plan new.trail) h.problem k.trail);
    }

pub whole_kept : (seat seat' : Seat) (old new : Search) (answer : Stopped) → IsReady old → seat.problem ≡ old.known.problem → seat'.problem ≡ seat.problem → IsKeptSearch old new → IsEndedAs new seat' (Some answer) → IsWhole new seat' (Some answer)
whole_kept seat seat' old new answer h e f kept ended =
    record {
      plan = rw kept.plan h.plan;
      trail = rw (f, e, kept.plan) kept.trail;
      ended_as = ended;
    }

-- ---- from the fields to the value

pub worker_here : {H : Type 0} (x y : WorkerState H) → x ≡ y → IsWorker x → IsWorker y
worker_here {H} x y e h = subst (λ (w : WorkerState H). IsWorker w) e h

pub trail_here : {H : Type 0} (x y : WorkerState H) → x ≡ y → IsTrail x.trail → IsTrail y.trail
trail_here {H} x y e h = subst (λ (w : WorkerState H). IsTrail w.trail) e h
