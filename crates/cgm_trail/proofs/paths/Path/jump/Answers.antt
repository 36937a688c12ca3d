use Rattle.std.proofs.Common.{◌<◌, length, refl, ap, arith}
use Rattle.cgm_trail.specs.declared.changes.Reason.TheVariants.{By}
use Rattle.cgm_trail.specs.TrailState.{IsOpenIn, box_after, cut_to}
use Rattle.cgm_trail.proofs.Cuts.{length-places}
use Rattle.cgm_trail.proofs.Leading.{IsFrom, IsJump, from_is, jump_is, led_jumped}
use Rattle.cgm_trail.proofs.paths.Path.jump.Goals as goal

pub index-from-requires : goal.index-from-requires
index-from-requires c =
    let earlier = rw (← c.self.view_is) at c.requires.earlier in
    let count = ap length c.self.invariant.led.opened in
    omega (arith, earlier, count, length-places 0 c.self.inside.changes.items)

pub take_back-requires-clause-known : goal.take_back-requires-clause-known
take_back-requires-clause-known c =
    let earlier = rw (← c.self.view_is) at c.requires.earlier in
    let count = ap length c.self.invariant.led.opened in
    let known : c.args.level < length c.self.inside.starts.items = omega (arith, earlier, count, length-places 0 c.self.inside.changes.items) in
    let from : IsFrom c.self.inside.changes.items c.args.level c.index-from.result.now = from_is _ _ _ _ _ _ _ c.self.invariant.led known c.index-from.ensures in
    let short = from.short in
    rw c.as_slice.ensures.value (omega arith)

pub change_from-change-requires : goal.change_from-change-requires
change_from-change-requires c =
    let earlier = rw (← c.self.view_is) at c.requires.earlier in
    let count = ap length c.self.invariant.led.opened in
    let known : c.args.level < length c.self.inside.starts.items = omega (arith, earlier, count, length-places 0 c.self.inside.changes.items) in
    let from : IsFrom c.self.inside.changes.items c.args.level c.index-from.result.now = from_is _ _ _ _ _ _ _ c.self.invariant.led known c.index-from.ensures in
    rw (c.take_back.ensures, c.as_slice.ensures.value, from.kept) (rw (← c.self.view_is) at c.requires.undecided.known)

pub replace_rest-requires : goal.replace_rest-requires
replace_rest-requires c =
    let earlier = rw (← c.self.view_is) at c.requires.earlier in
    let count = ap length c.self.invariant.led.opened in
    let known : c.args.level < length c.self.inside.starts.items = omega (arith, earlier, count, length-places 0 c.self.inside.changes.items) in
    let from : IsFrom c.self.inside.changes.items c.args.level c.index-from.result.now = from_is _ _ _ _ _ _ _ c.self.invariant.led known c.index-from.ensures in
    from.short

pub assume-requires : goal.assume-requires
assume-requires c =
    let earlier = rw (← c.self.view_is) at c.requires.earlier in
    let count = ap length c.self.invariant.led.opened in
    let known : c.args.level < length c.self.inside.starts.items = omega (arith, earlier, count, length-places 0 c.self.inside.changes.items) in
    let from : IsFrom c.self.inside.changes.items c.args.level c.index-from.result.now = from_is _ _ _ _ _ _ _ c.self.invariant.led known c.index-from.ensures in
    rw (c.take_back.ensures, c.as_slice.ensures.value, from.kept) (rw (← c.self.view_is) at c.requires.undecided.known)

jump_of : (c : goal.After-assume) → IsJump c.self.inside.problem.bounds c.self.inside.changes.items c.args.level c.args.atom (By c.args.by) c.take_back.new.state c.replace_rest.new.changes.items
jump_of c =
    let earlier = rw (← c.self.view_is) at c.requires.earlier in
    let count = ap length c.self.invariant.led.opened in
    let known : c.args.level < length c.self.inside.starts.items = omega (arith, earlier, count, length-places 0 c.self.inside.changes.items) in
    let from : IsFrom c.self.inside.changes.items c.args.level c.index-from.result.now = from_is _ _ _ _ _ _ _ c.self.invariant.led known c.index-from.ensures in
    jump_is _ _ _ _ _ _ _ _ _ from (rw c.as_slice.ensures.value at c.take_back.ensures) c.change_from-change.ensures c.replace_rest.ensures

pub invariant_of-self : goal.invariant_of-self
invariant_of-self c =
    let undecided : IsOpenIn (box_after c.self.inside.problem.bounds (cut_to c.args.level c.self.inside.changes.items)) c.args.atom = rw (← c.self.view_is) at c.requires.undecided in
    record {
      problem = c.self.invariant.problem;
      led = led_jumped _ _ _ _ _ _ _ _ _ _ _ _ refl c.self.invariant.led (jump_of c) undecided c.truncate.ensures.items c.assume.ensures.answer c.assume.ensures.after;
    }

pub returns : goal.returns
returns c =
    let j = jump_of c in
    rw (← c.self.view_is) (ap (λ cs. record { problem = c.self.inside.problem; changes = cs }) j.changes_are)
