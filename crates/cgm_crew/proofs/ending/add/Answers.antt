use Rattle.std.proofs.Common.{ℕ, ◌<◌, sym, ap, subst, ◌∙◌, arith}
use Rattle.std.specs.Prelude.{IsSomeAnd, Option}
use Rattle.cgm_crew.specs.Crews.{plan_of}
use Rattle.cgm_crew.specs.Ends.{AreBelow}
use Rattle.cgm_crew.proofs.Endings.{ends_added}
use Rattle.cgm_turn.specs.Passes.{PassState}
use Rattle.cgm_crew.proofs.ending.add.Goals as goal

pub returns-clause-joining : goal.returns-clause-joining
returns-clause-joining g c =
    let workers = c.args.crew.workers in
    let x = c.args.ended.now.first in
    let places = c.args.ended.now.places in
    let left = c.parts-pass.result in
    let y = c.join.new.first in
    let h = c.requires.joining in
    let number : left.pass.number < workers =
    subst (λ (o : Option ℕ). IsSomeAnd o (λ n. n < workers)) (sym c.parts-pass.ensures.number) c.requires.worker.other.number in
    record {
      problem = ap (λ (z : PassState). z.problem) c.join.ensures ∙ h.problem;
      table_is = ap (λ (z : PassState). z.table) c.join.ensures ∙ h.table_is;
      number = ap (λ (z : PassState). z.number) c.join.ensures ∙ h.number;
      below = subst (λ (z : PassState). AreBelow workers z.joined) (sym c.join.ensures) (number, h.below);
      ends = ends_added c.args.turn.now.problem (plan_of c.args.crew) x left.pass y places.stopped.items c.push_reserved.new.self.items places.trails.items c.push_reserved-2.new.self.items left.stopped left.trail c.join.ensures c.push_reserved.ensures.items c.push_reserved-2.ensures.items h.ends c.parts-pass.ensures.own;
      stopped_count = omega (arith, c.push_reserved.ensures.len, h.stopped_count, c.requires.out, ap (λ (z : PassState). z.out) c.join.ensures);
      trails_count = omega (arith, c.push_reserved-2.ensures.len, h.trails_count, c.requires.out, ap (λ (z : PassState). z.out) c.join.ensures);
      stopped_room = omega (arith, h.stopped_room, c.push_reserved.ensures.capacity);
      trails_room = omega (arith, h.trails_room, c.push_reserved-2.ensures.capacity);
    }
