use Rattle.std.proofs.Common.{◌+◌, ◌≡◌, ◌∙◌, ap, arith, drop, get_or}
use Rattle.std.specs.Prelude.{pos}
use Rattle.cgm_atom.specs.Instance.{Instance, var_count}
use Rattle.cgm_atom.proofs.RowSums.{rest_at}
use Rattle.cgm_encode.specs.Totals.{Range}
use Rattle.cgm_encode.proofs.AddedVariables.{AreRangesLeft, answered_more, count_more, ranges_all, ranges_end, ranges_more, ranges_room}
use Rattle.std.proofs.lemmas.List.{drop_all}
use Rattle.std.proofs.Common.{subst, List}
use Rattle.cgm_encode.proofs.variables.add_variables.Goals as goal

pub loop-range-init : goal.loop-range-init
loop-range-init c =
    (ranges_all c.args.builder.now c.args.ranges.now c.requires.ordered c.requires.room, c.new-variables.ensures.items, omega arith)

pub add_variable-requires-clause-room : goal.add_variable-requires-clause-room
add_variable-requires-clause-room c =
    let ranges = c.args.ranges.now in
    let i = c.loop-range.range-index in
    let r : Range = get_or ranges i (pos 0, pos 0) in
    let p = c.loop-range.builder in
    ranges_room c.args.builder.now p ranges r (drop (i + 1) ranges)
    (rest_at (λ rest. AreRangesLeft c.args.builder.now ranges p rest) ranges i (pos 0, pos 0) c.loop-range-test.true c.loop-range.invariant.0)

pub loop-range-preserved : goal.loop-range-preserved
loop-range-preserved c =
    let ranges = c.args.ranges.now in
    let i = c.loop-range.range-index in
    let r : Range = get_or ranges i (pos 0, pos 0) in
    let p = c.loop-range.builder in
    let q = c.add_variable.new.builder in
    let x = c.in_ok-add_variable.field-0 in
    let far = c.loop-range.invariant in
    let count : var_count q ≡ var_count p + 1 = ap (λ (n : Instance). var_count n) c.in_ok-add_variable.ensures.added ∙ count_more p r.0 r.1 in
    let at : x ≡ var_count c.args.builder.now + i = c.in_ok-add_variable.ensures.variable ∙ far.2 in (
      ranges_more c.args.builder.now p q ranges r (drop (i + 1) ranges)
          (rest_at (λ rest. AreRangesLeft c.args.builder.now ranges p rest) ranges i (pos 0, pos 0) c.loop-range-test.true far.0)
          c.in_ok-add_variable.ensures.added,
      answered_more (var_count c.args.builder.now) i x c.loop-range.variables.items c.push.new.self.items far.1 at c.in_ok-push.ensures.items,
      omega (arith, count, far.2),
    )

pub returns-clause-added : goal.returns-clause-added
returns-clause-added c =
    let ranges = c.args.ranges.now in
    let i = c.loop-range.range-index in
    let p = c.loop-range.builder in
    ranges_end c.args.builder.now p ranges
    (subst (λ (rest : List Range). AreRangesLeft c.args.builder.now ranges p rest) (drop_all i ranges c.loop-range-test.false) c.loop-range.invariant.0)
