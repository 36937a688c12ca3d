use Rattle.std.proofs.Common.{◌≡◌, ℕ, ◌+◌, ◌∙◌, refl, sym, ap, subst, List, [], ◌∷◌}
use Rattle.cgm_log.specs.declared.events.Event.{Event}
use Rattle.cgm_log.specs.Events.{AreAllowedEvents, CoreState, IsAllowedEvent, IsFirstIllegal, after_event, after_events, begin}
use Rattle.cgm_core.proofs.EventLists.{illegal_next}
use Rattle.cgm_core.proofs.cores.replay.Goals as goal

pub loop-i-preserved : goal.loop-i-preserved
loop-i-preserved c =
    let s : CoreState = c.loop-i.core in
    let next : CoreState = c.step.new.self in
    let e : Event = c.in-Some.event in
    let rest : List Event = c.next.new.self.iter.rest.items in
    let steps = c.in-Some.ensures.steps in
    let is : c.loop-i.i-iterator.iter.rest.items ≡ e ∷ rest = steps.0.0 in
    let ok : IsAllowedEvent s e × (next ≡ after_event s e) = c.in-Ok-step.ensures.ok in
    let first : (k : ℕ) → IsFirstIllegal s (e ∷ rest) k → IsFirstIllegal (begin c.args.problem) c.args.events.items (c.loop-i.i-iterator.count + k) =
    subst (λ (es : List Event). (k : ℕ) → IsFirstIllegal s es k → IsFirstIllegal (begin c.args.problem) c.args.events.items (c.loop-i.i-iterator.count + k)) is c.loop-i.invariant.first in
    record {
      allowed = λ h. c.loop-i.invariant.allowed (subst (λ (es : List Event). AreAllowedEvents s es) (sym is) (ok.0, subst (λ (x : CoreState). AreAllowedEvents x rest) ok.1 h));
      same = ap (λ (x : CoreState). after_events x rest) ok.1 ∙ ap (after_events s) (sym is) ∙ c.loop-i.invariant.same;
      first = λ k h.
          subst (λ (n : ℕ). IsFirstIllegal (begin c.args.problem) c.args.events.items (n + k)) (sym steps.2)
          (illegal_next (λ n. IsFirstIllegal (begin c.args.problem) c.args.events.items n) s e rest c.loop-i.i-iterator.count ok.0 first k (subst (λ (x : CoreState). IsFirstIllegal x rest k) ok.1 h));
    }

pub returns-in-Err-Illegal-clause-err : goal.returns-in-Err-Illegal-clause-err
returns-in-Err-Illegal-clause-err c =
    let s : CoreState = c.loop-i.core in
    let e : Event = c.in-Some.event in
    let steps = c.in-Some.ensures.steps in
    let stop : ¬ IsAllowedEvent s e = (rw c.in-Err-Illegal.field-0-is at c.in-Err-Illegal.ensures.err).1 in
    subst (λ (n : ℕ). IsFirstIllegal (begin c.args.problem) c.args.events.items (n + 1)) (sym steps.1)
    (c.loop-i.invariant.first 1 (record {
      before = [];
      event = e;
      others = c.next.new.self.iter.rest.items;
      parts = steps.0.0;
      place_is = refl;
      allowed = tt;
      refused = stop;
    }))
