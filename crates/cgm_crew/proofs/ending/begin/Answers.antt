use Rattle.std.proofs.Common.{◌≡◌, List, length, vec_len, sym, ap, subst, ◌∙◌, arith}
use Rattle.cgm_crew.specs.Crews.{plan_of}
use Rattle.cgm_crew.specs.Ends.{AreBelow}
use Rattle.cgm_crew.proofs.Endings.{ends_begun}
use Rattle.cgm_search.specs.declared.plans.Stopped.{Stopped}
use Rattle.cgm_trail.specs.TrailState.{TrailState}
use Rattle.cgm_turn.specs.declared.views.Joined.{Joined}
use Rattle.cgm_turn.specs.Passes.{PassState}
use Rattle.cgm_crew.proofs.ending.begin.Goals as goal

pub returns-clause-joining : goal.returns-clause-joining
returns-clause-joining g c =
    let workers = c.args.crew.workers in
    let left = c.parts-first.result in
    let places = c.args.places in
    let home = c.parts-first.ensures.home ∙ c.requires.lead.home in
    let room = c.requires.places in
    let out = ap (λ (z : PassState). z.out) home in
    let none : vec_len places.stopped ≡ 0 = places.stopped.ok.0 ∙ ap (λ (xs : List Stopped). length xs) room.no_stopped in
    let nothing : vec_len places.trails ≡ 0 = places.trails.ok.0 ∙ ap (λ (xs : List TrailState). length xs) room.no_trails in
    record {
      problem = c.parts-first.ensures.problem;
      table_is = ap (λ (z : PassState). z.table) home;
      number = ap (λ (z : PassState). z.number) home;
      below = subst (λ (joined : List Joined). AreBelow workers joined) (sym (ap (λ (z : PassState). z.joined) home)) tt;
      ends = ends_begun c.args.turn.now.problem (plan_of c.args.crew) left.pass places.stopped.items c.push_reserved.new.self.items places.trails.items c.push_reserved-2.new.self.items left.stopped left.trail room.no_stopped room.no_trails c.push_reserved.ensures.items c.push_reserved-2.ensures.items c.parts-first.ensures.own;
      stopped_count = omega (arith, c.push_reserved.ensures.len, none, out, c.requires.crew.some);
      trails_count = omega (arith, c.push_reserved-2.ensures.len, nothing, out, c.requires.crew.some);
      stopped_room = omega (arith, room.stopped_room, c.push_reserved.ensures.capacity);
      trails_room = omega (arith, room.trails_room, c.push_reserved-2.ensures.capacity);
    }
