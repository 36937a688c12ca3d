use Rattle.std.proofs.Common.{◌≤◌, length, sym, ap, ◌∙◌, arith}
use Rattle.cgm_trail.specs.TrailState.{decision_places}
use Rattle.cgm_trail.proofs.Cuts.{cut_all}
use Rattle.cgm_trail.proofs.Leading.{IsFrom, from_is, led_cut}
use Rattle.cgm_trail.proofs.paths.Path.cut.Goals as goal

pub returns-then-level-len : goal.returns-then-level-len
returns-then-level-len c =
    let count : length c.self.inside.starts.items ≤ c.args.level = omega arith in
    let places : length (decision_places 0 c.self.inside.changes.items) ≤ c.args.level = rw (← c.self.invariant.led.opened) count in
    rw (← c.self.view_is)
    (ap (λ cs. record { problem = c.self.inside.problem; changes = cs }) (sym (cut_all 0 c.args.level c.self.inside.changes.items places)))

pub take_back-requires-clause-known : goal.take_back-requires-clause-known
take_back-requires-clause-known c =
    let from : IsFrom c.self.inside.changes.items c.args.level c.index-from.result.now = from_is _ _ _ _ _ _ _ c.self.invariant.led (omega arith) c.index-from.ensures in
    let short = from.short in
    rw c.as_slice.ensures.value (omega arith)

pub invariant_of-self : goal.invariant_of-self
invariant_of-self c =
    let from : IsFrom c.self.inside.changes.items c.args.level c.index-from.result.now = from_is _ _ _ _ _ _ _ c.self.invariant.led (omega arith) c.index-from.ensures in
    record {
      problem = c.self.invariant.problem;
      led = led_cut _ _ _ _ _ _ _ _ _ c.self.invariant.led from (rw c.as_slice.ensures.value at c.take_back.ensures) c.truncate.ensures.items c.truncate-2.ensures.items;
    }

pub returns : goal.returns
returns c =
    let from : IsFrom c.self.inside.changes.items c.args.level c.index-from.result.now = from_is _ _ _ _ _ _ _ c.self.invariant.led (omega arith) c.index-from.ensures in
    rw (← c.self.view_is)
    (ap (λ cs. record { problem = c.self.inside.problem; changes = cs }) (c.truncate.ensures.items ∙ from.kept))
