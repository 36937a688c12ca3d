use Rattle.std.proofs.Common.{◌≡◌, ◌-◌, ◌<◌, ◌≤◌, length, get_or, refl, sym, ap, ◌∙◌, arith}
use Rattle.std.proofs.lemmas.Bool.{eqb-false, eqb-true}
use Rattle.cgm_trail.specs.TrailState.{decision_places, level_of, level_start}
use Rattle.cgm_trail.proofs.Cuts.{length-places, start_empty, start_first, start_later, start_none}
use Rattle.cgm_trail.proofs.trails.Trail.level_start.Goals as goal

pub place_at-requires : goal.place_at-requires
place_at-requires c =
    let known : c.args.level ≤ level_of c.self.inside.path.changes = rw (← c.self.view_is) at c.requires in
    rw c.starts-starts.ensures (omega (arith, known, length-places 0 c.self.inside.path.changes))

pub returns-then-level-gt0-clause-start : goal.returns-then-level-gt0-clause-start
returns-then-level-gt0-clause-start c =
    let known : c.args.level ≤ level_of c.self.inside.path.changes = rw (← c.self.view_is) at c.requires in
    let later : get_or (decision_places 0 c.self.inside.path.changes) (c.args.level - 1) 0 ≡ level_start c.args.level c.self.inside.path.changes = start_later c.args.level (c.args.level - 1) c.self.inside.path.changes (omega arith) known in
    rw (← c.self.view_is) (c.place_at.ensures ∙ ap (λ ns. get_or ns (c.args.level - 1) 0) c.starts-starts.ensures ∙ later)

pub returns-then-is_empty-clause-start : goal.returns-then-is_empty-clause-start
returns-then-is_empty-clause-start c =
    let none : length c.starts-starts.result.now ≡ 0 = eqb-true _ _ (sym c.is_empty.ensures ∙ c.if-is_empty.true) in
    let places : length (decision_places 0 c.self.inside.path.changes) ≡ 0 = rw c.starts-starts.ensures at none in
    rw (← c.self.view_is) (start_none c.args.level c.self.inside.path.changes (omega arith) places)

pub returns-then-starts-gt0-clause-start : goal.returns-then-starts-gt0-clause-start
returns-then-starts-gt0-clause-start c =
    let some : 0 < length c.starts-starts.result.now = omega (arith, eqb-false _ _ (sym c.is_empty.ensures ∙ c.if-is_empty.false)) in
    let places : 0 < length (decision_places 0 c.self.inside.path.changes) = rw c.starts-starts.ensures at some in
    let first : 0 < get_or (decision_places 0 c.self.inside.path.changes) 0 0 = rw c.starts-starts.ensures at c.if-starts-gt0.true in
    rw (← c.self.view_is) (start_first c.args.level _ c.self.inside.path.changes (omega arith) places refl first)

pub returns-clause-start : goal.returns-clause-start
returns-clause-start c =
    let some : 0 < length c.starts-starts.result.now = omega (arith, eqb-false _ _ (sym c.is_empty.ensures ∙ c.if-is_empty.false)) in
    let places : 0 < length (decision_places 0 c.self.inside.path.changes) = rw c.starts-starts.ensures at some in
    let first : get_or (decision_places 0 c.self.inside.path.changes) 0 0 ≤ 0 = rw c.starts-starts.ensures at c.if-starts-gt0.false in
    let none : get_or (decision_places 0 c.self.inside.path.changes) 0 0 ≡ 0 = omega arith in
    rw (c.changes.ensures.count, ← c.self.view_is) (start_empty c.args.level _ c.self.inside.path.changes (omega arith) places refl none)
