use Rattle.std.proofs.Common.{◌≡◌, ◌+◌, ◌<◌, ◌∙◌, ℕ, List, ap, arith, length, map, subst, sym}
use Rattle.std.specs.Prelude.{◌≤ℤ◌, flat_map}
use Rattle.std.specs.List.{All, range_with_len, zip}
use Rattle.std.proofs.lemmas.List.{length-map}
use Rattle.std.proofs.lemmas.List.FromFn.{length-range_with_len}
use Rattle.cgm_atom.specs.declared.constraints.Row.{Row}
use Rattle.cgm_atom.specs.Instance.{Instance, var_count}
use Rattle.cgm_encode.specs.Building.{AreBounds, HasBoundSize, defining_rows, expression_range, with_ranges, with_rows}
use Rattle.cgm_encode.specs.Totals.{Range}
use Rattle.cgm_encode.proofs.DefiningSizes.{ranges_bound, sizes_longer}
use Rattle.cgm_encode.proofs.Measured.{all_defining, ranges_ordered, rows_numbered, variables_within}
use Rattle.cgm_encode.proofs.AddedVariables.{ranges_count}
use Rattle.cgm_encode.proofs.encoding.define.Goals as goal

pub add_variables-requires-clause-ordered : goal.add_variables-requires-clause-ordered
add_variables-requires-clause-ordered c =
    let b = c.args.builder.now in
    let es = c.args.expressions.now in
    subst (λ (rs : List Range). All (λ r. r.0 ≤ℤ r.1) rs) (sym (c.as_slice.ensures.value ∙ c.in_ok-ranges.ensures.ranges)) (ranges_ordered b es c.requires.measured)

pub add_variables-requires-clause-room : goal.add_variables-requires-clause-room
add_variables-requires-clause-room c =
    let es = c.args.expressions.now in
    let long : length c.as_slice.result.now ≡ length es =
    ap (λ (rs : List Range). length rs) (c.as_slice.ensures.value ∙ c.in_ok-ranges.ensures.ranges) ∙ length-map es (expression_range c.args.builder.now.bounds) in
    omega (arith, long, c.requires.room)

pub add_defining_rows-requires-clause-count : goal.add_defining_rows-requires-clause-count
add_defining_rows-requires-clause-count c =
    let es = c.args.expressions.now in
    let first = var_count c.args.builder.now in
    ap (λ (vs : List ℕ). length vs) (c.as_slice-2.ensures.value ∙ c.in_ok-variables.ensures.variables)
    ∙ length-range_with_len first (length c.as_slice.result.now)
    ∙ ap (λ (rs : List Range). length rs) (c.as_slice.ensures.value ∙ c.in_ok-ranges.ensures.ranges)
    ∙ length-map es (expression_range c.args.builder.now.bounds)

pub add_defining_rows-requires-clause-known : goal.add_defining_rows-requires-clause-known
add_defining_rows-requires-clause-known c =
    let b = c.args.builder.now in
    let count : var_count c.add_variables.new.builder ≡ var_count b + length c.as_slice.result.now =
    ap (λ (p : Instance). var_count p) c.in_ok-variables.ensures.added ∙ ranges_count b c.as_slice.result.now in
    subst (λ (n : ℕ). All (λ v. v < n) c.as_slice-2.result.now) (sym count)
    (variables_within (var_count b) (length c.as_slice.result.now) c.as_slice-2.result.now (c.as_slice-2.ensures.value ∙ c.in_ok-variables.ensures.variables))

pub add_defining_rows-requires-clause-expressions : goal.add_defining_rows-requires-clause-expressions
add_defining_rows-requires-clause-expressions c =
    let b = c.args.builder.now in
    let es = c.args.expressions.now in
    let long : length c.as_slice.result.now ≡ length es =
    ap (λ (rs : List Range). length rs) (c.as_slice.ensures.value ∙ c.in_ok-ranges.ensures.ranges) ∙ length-map es (expression_range b.bounds) in
    all_defining b es c.as_slice-2.result.now c.requires.measured
    (c.as_slice-2.ensures.value ∙ c.in_ok-variables.ensures.variables ∙ ap (λ (k : ℕ). range_with_len (var_count b) k) long)

pub add_defining_rows-requires-clause-room : goal.add_defining_rows-requires-clause-room
add_defining_rows-requires-clause-room c =
    let same : length c.add_variables.new.builder.rows ≡ length c.args.builder.now.rows = ap (λ (p : Instance). length p.rows) c.in_ok-variables.ensures.added in
    omega (arith, same, c.requires.row_room)

pub returns-clause-added : goal.returns-clause-added
returns-clause-added c =
    let b = c.args.builder.now in
    let es = c.args.expressions.now in
    let ranges_are = c.as_slice.ensures.value ∙ c.in_ok-ranges.ensures.ranges in
    let long : length c.as_slice.result.now ≡ length es = ap (λ (rs : List Range). length rs) ranges_are ∙ length-map es (expression_range b.bounds) in
    let variables_are = c.as_slice-2.ensures.value ∙ c.in_ok-variables.ensures.variables ∙ ap (λ (k : ℕ). range_with_len (var_count b) k) long in
    c.in_ok-add_defining_rows.ensures
    ∙ ap (λ (p : Instance). with_rows p (flat_map defining_rows (zip c.as_slice-2.result.now es))) (c.in_ok-variables.ensures.added ∙ ap (λ (rs : List Range). with_ranges b rs) ranges_are)
    ∙ ap (λ (rows : List Row). with_rows (with_ranges b (map (expression_range b.bounds) es)) rows) (rows_numbered b es c.as_slice-2.result.now variables_are)

pub returns-clause-variables : goal.returns-clause-variables
returns-clause-variables c =
    let b = c.args.builder.now in
    let es = c.args.expressions.now in
    let long : length c.as_slice.result.now ≡ length es =
    ap (λ (rs : List Range). length rs) (c.as_slice.ensures.value ∙ c.in_ok-ranges.ensures.ranges) ∙ length-map es (expression_range b.bounds) in
    c.in_ok-variables.ensures.variables ∙ ap (λ (k : ℕ). range_with_len (var_count b) k) long

pub add_variables-requires-clause-bounds : goal.add_variables-requires-clause-bounds
add_variables-requires-clause-bounds c =
    subst (λ (rs : List Range). All AreBounds rs) (sym (c.as_slice.ensures.value ∙ c.in_ok-ranges.ensures.ranges)) (ranges_bound c.args.builder.now c.args.expressions.now c.requires.measured)

pub add_defining_rows-requires-clause-sizes : goal.add_defining_rows-requires-clause-sizes
add_defining_rows-requires-clause-sizes c =
    let b = c.args.builder.now in
    let es = c.args.expressions.now in
    subst (λ (p : Instance). All (HasBoundSize p.bounds) es) (sym c.in_ok-variables.ensures.added)
    (sizes_longer b c.as_slice.result.now es c.recall_well_formed.ensures.proper.same_count c.requires.measured)
