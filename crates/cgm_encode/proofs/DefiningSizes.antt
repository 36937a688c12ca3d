-- Expressions whose size is within the limit of a bound: so are their ranges, and the rows that define a variable by one are within their limits.
use Rattle.std.proofs.Common.{◌≡◌, ℕ, ◌^◌, ◌<◌, ◌≤◌, List, ◌∷◌, get_or, length, map, of_z, to_z, w64, arith}
use Rattle.std.specs.Prelude.{ℤ, pos, negsuc, neg_ℤ, ◌-ℤ◌, unsigned_abs}
use Rattle.std.specs.List.{All}
use Rattle.std.proofs.lemmas.Int.{fits_signed_from_abs, ints, to_z-of_z}
use Rattle.std.proofs.lemmas.List.Elements.{All-map}
use Rattle.cgm_atom.specs.Bounds.{Bounds, lower_of, upper_of}
use Rattle.cgm_atom.specs.Building.{IsRowSize}
use Rattle.cgm_atom.specs.Instance.{Instance}
use Rattle.cgm_atom.specs.Limits.{IsBound, greatest_size, max_bound}
use Rattle.cgm_atom.specs.Narrowing.{greatest_activity}
use Rattle.cgm_atom.proofs.Growing.{measure-longer}
use Rattle.cgm_model.specs.declared.lists.Lists.{Lists}
use Rattle.cgm_model.specs.WellFormed.{IsWellFormedModel}
use Rattle.cgm_enc_formula.specs.Definitions.{negative}
use Rattle.cgm_enc_formula.proofs.TermMeasures.{negative-measure, opposite_size, size_sum}
use Rattle.cgm_encode.specs.declared.expressions.Expression.{Expression}
use Rattle.cgm_encode.specs.Building.{AreBounds, HasBoundSize, IsMeasured, expression_range, with_ranges}
use Rattle.cgm_encode.specs.Problem.{own_range}
use Rattle.cgm_encode.specs.Totals.{Range, least_activity, row_of}
use Rattle.cgm_encode.proofs.CombinedSizes.{greatest_activity_size, least_size}
use Rattle.cgm_encode.proofs.KnownSizes.{known_sizes}

-- ---- ranges

range_bound : (b : Bounds) (e : Expression) → HasBoundSize b e → AreBounds (expression_range b e)
range_bound b e size =
    let low = least_size b e.terms in
    let high = greatest_activity_size b e.terms in
    let first = size_sum (least_activity b e.terms) e.constant in
    let second = size_sum (greatest_activity b e.terms) e.constant in
    (omega arith, omega arith)

pub ranges_bound : (p : Instance) (es : List Expression) → All (IsMeasured p) es → All AreBounds (map (expression_range p.bounds) es)
ranges_bound p es measured =
    All-map AreBounds (expression_range p.bounds) es (λ k d l. range_bound p.bounds (get_or es k d) (measured k d l).size)

pub own_bounds : (m : Lists) → ∥ IsWellFormedModel m ∥₁ → All (λ v. AreBounds (own_range v)) m.vars
own_bounds m well =
    let sizes = known_sizes m well in
    λ k d l. (let low = sizes.low k d l in omega arith, let high = sizes.high k d l in omega arith)

-- ---- behind more variables

size_longer : (p : Instance) (ranges : List Range) (e : Expression) → length p.bounds.upper ≡ length p.bounds.lower → IsMeasured p e → HasBoundSize (with_ranges p ranges).bounds e
size_longer p ranges e same measured =
    let size = measured.size in
    let still = measure-longer p.bounds (map (λ (r : Range). r.0) ranges) (map (λ (r : Range). r.1) ranges) e.terms same measured.terms in
    omega arith

pub sizes_longer : (p : Instance) (ranges : List Range) (es : List Expression) → length p.bounds.upper ≡ length p.bounds.lower → All (IsMeasured p) es → All (HasBoundSize (with_ranges p ranges).bounds) es
sizes_longer p ranges es same measured = λ k d l. size_longer p ranges (get_or es k d) same (measured k d l)

-- ---- numbers that are passed as words of 64 bits

pub passed : (k : ℤ) → unsigned_abs k < 2 ^ 63 → to_z w64 (of_z w64 k) ≡ k
passed k small = to_z-of_z w64 k (fits_signed_from_abs w64 k small)

pub passed_opposite : (k : ℤ) → unsigned_abs k < 2 ^ 63 → to_z w64 (of_z w64 (pos 0 -ℤ to_z w64 (of_z w64 k))) ≡ neg_ℤ k
passed_opposite k small =
    let inner : pos 0 -ℤ to_z w64 (of_z w64 k) ≡ neg_ℤ k = rw (passed k small) (omega (arith, ints)) in
    let same = opposite_size k in
    rw inner (passed (neg_ℤ k) (omega arith))

-- ---- rows

variable_size : (b : Bounds) (v : ℕ) → IsBound (lower_of b v) × IsBound (upper_of b v) → greatest_size b v ≤ max_bound
variable_size b v bounds =
    let low = bounds.0 in
    let high = bounds.1 in
    omega arith

pub first_row_size : (b : Bounds) (v : ℕ) (e : Expression) → IsBound (lower_of b v) × IsBound (upper_of b v) → HasBoundSize b e → IsRowSize b (row_of ((pos 1, record { 0 = v }) ∷ negative e.terms) e.constant)
first_row_size b v e bounds size =
    let own = variable_size b v bounds in
    let turned = negative-measure b e.terms in
    (omega arith, omega arith)

pub second_row_size : (b : Bounds) (v : ℕ) (e : Expression) → IsBound (lower_of b v) × IsBound (upper_of b v) → HasBoundSize b e → IsRowSize b (row_of ((negsuc 0, record { 0 = v }) ∷ e.terms) (neg_ℤ e.constant))
second_row_size b v e bounds size =
    let own = variable_size b v bounds in
    let turned = opposite_size e.constant in
    (omega arith, omega arith)
