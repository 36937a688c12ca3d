use Rattle.std.proofs.Common.{◌≡◌, ◌∷◌, ◌∙◌, rules}
use Rattle.cgm_search.specs.Knowing.{seen, seen_state}
use Rattle.cgm_search.proofs.Absorbing.{accepted_first, accepted_on, entries_next, room_here, room_next}
use Rattle.cgm_search.proofs.knowledge.Known.absorb_all.Goals as goal

pub absorb-requires-clause-accepted : goal.absorb-requires-clause-accepted
absorb-requires-clause-accepted c =
    let next : c.loop-entry.entry-iterator.rest.items ≡ c.in-Some.entry ∷ c.next.new.self.rest.items = search rules in
    (accepted_first c.loop-entry.self.problem (seen_state c.loop-entry.self) c.in-Some.entry _ _ next c.loop-entry.invariant.accepted).0

pub absorb-requires-clause-room : goal.absorb-requires-clause-room
absorb-requires-clause-room c =
    let next : c.loop-entry.entry-iterator.rest.items ≡ c.in-Some.entry ∷ c.next.new.self.rest.items = search rules in
    room_here (seen c.loop-entry.self) c.in-Some.entry _ _ next c.loop-entry.invariant.room

pub loop-entry-preserved : goal.loop-entry-preserved
loop-entry-preserved c =
    let next : c.loop-entry.entry-iterator.rest.items ≡ c.in-Some.entry ∷ c.next.new.self.rest.items = search rules in
    let old = c.loop-entry.self in
    let new = c.absorb.new.self in
    let e = c.in-Some.entry in
    let rest = c.next.new.self.rest.items in
    let all = c.loop-entry.entry-iterator.rest.items in
    let added = c.in_ok-absorb.ensures.entries in
    record {
      known = c.in_ok-absorb.ensures.known;
      accepted =
          accepted_on old.problem new.problem (seen old) (seen new) e rest c.absorb.ensures.problem added
          (accepted_first old.problem (seen_state old) e rest all next c.loop-entry.invariant.accepted).1;
      entries = entries_next (seen c.args.self.now) c.args.more.items (seen old) (seen new) e rest all next added c.loop-entry.invariant.entries;
      room = room_next (seen old) (seen new) e rest all next added c.loop-entry.invariant.room;
      problem = c.absorb.ensures.problem ∙ c.loop-entry.invariant.problem;
    }
