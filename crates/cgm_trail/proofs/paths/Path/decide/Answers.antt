use Rattle.std.proofs.Common.{◌≡◌, length, refl, ap, ◌∙◌, ◌++◌, ◌∷◌, [], arith}
use Rattle.cgm_trail.specs.TrailState.{IsOpenIn, box_after}
use Rattle.cgm_trail.proofs.Leading.{led_decided, made_when_open}
use Rattle.cgm_trail.proofs.paths.Path.decide.Goals as goal

pub invariant_of-self-2 : goal.invariant_of-self-2
invariant_of-self-2 c =
    let i = c.self.invariant in
    let undecided : IsOpenIn (box_after c.self.inside.problem.bounds c.self.inside.changes.items) c.args.atom = rw (← c.self.view_is) at c.requires in
    let here : IsOpenIn c.self.inside.state c.args.atom = rw i.led.leads undecided in
    let count : c.len.result ≡ length c.self.inside.changes.items = omega arith in
    record {
      problem = i.problem;
      led =
          led_decided _ _ _ _ _ _ _ c.args.atom _ refl i.led undecided
          (c.in_default.ensures.items ∙ ap (λ x. c.self.inside.changes.items ++ x ∷ []) c.change_from-change.ensures)
          (made_when_open _ _ _ _ here c.assume.ensures.answer c.assume.ensures.after)
          (rw count at c.in_ok-push.ensures.items);
    }
