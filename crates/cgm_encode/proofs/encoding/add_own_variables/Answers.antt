use Rattle.std.proofs.Common.{◌∙◌, ℕ, List, ap, arith, length, map, subst, sym}
use Rattle.std.specs.Prelude.{◌≤ℤ◌}
use Rattle.std.specs.List.{All}
use Rattle.cgm_atom.specs.Building.{empty_instance}
use Rattle.cgm_atom.specs.Instance.{Instance, var_count}
use Rattle.cgm_model.specs.declared.lists.Variable.{Variable}
use Rattle.cgm_model.specs.Model.{lists_of}
use Rattle.cgm_encode.specs.Building.{AreBounds, with_ranges}
use Rattle.cgm_encode.specs.Problem.{bits, own_range}
use Rattle.cgm_encode.proofs.AddedVariables.{ranges_count}
use Rattle.cgm_encode.proofs.DefiningSizes.{own_bounds}
use Rattle.cgm_encode.proofs.Growing.{own_grown}
use Rattle.cgm_encode.proofs.KnownSizes.{known_sizes}
use Rattle.cgm_encode.proofs.Measured.{few_parts}
use Rattle.cgm_encode.proofs.RangeCounts.{bits_long}
use Rattle.cgm_encode.proofs.encoding.add_own_variables.Goals as goal

pub add_bits-requires : goal.add_bits-requires
add_bits-requires c =
    let m = lists_of c.args.model.now in
    let few = (few_parts m c.args.model.now.well_formed).variables in
    let none = ap (λ (p : Instance). var_count p) c.requires in
    omega (arith, none, c.truth_count.ensures, few)

pub add_own-requires-clause-ordered : goal.add_own-requires-clause-ordered
add_own-requires-clause-ordered c =
    subst (λ (vs : List Variable). All (λ v. v.lo ≤ℤ v.hi) vs) (sym c.as_slice.ensures) (known_sizes (lists_of c.args.model.now) c.args.model.now.well_formed).ordered

pub add_own-requires-clause-room : goal.add_own-requires-clause-room
add_own-requires-clause-room c =
    let m = lists_of c.args.model.now in
    let few = (few_parts m c.args.model.now.well_formed).variables in
    let none = ap (λ (p : Instance). var_count p) c.requires in
    let k = c.truth_count.result in
    let count = ap (λ (p : Instance). var_count p) c.in_ok-add_bits.ensures.added ∙ ranges_count c.args.builder.now (bits k) in
    let long = bits_long k in
    let vars = ap (λ (vs : List Variable). length vs) c.as_slice.ensures in
    omega (arith, none, c.truth_count.ensures, count, long, vars, few)

pub returns : goal.returns
returns c =
    let m = lists_of c.args.model.now in
    c.in_ok-add_own.ensures
    ∙ ap (λ (vs : List Variable). with_ranges c.add_bits.new.builder (map own_range vs)) c.as_slice.ensures
    ∙ ap (λ (p : Instance). with_ranges p (map own_range m.vars))
    (c.in_ok-add_bits.ensures.added
    ∙ ap (λ (p : Instance). with_ranges p (bits c.truth_count.result)) c.requires
    ∙ ap (λ (k : ℕ). with_ranges empty_instance (bits k)) c.truth_count.ensures)
    ∙ own_grown m

pub add_own-requires-clause-bounds : goal.add_own-requires-clause-bounds
add_own-requires-clause-bounds c =
    subst (λ (vs : List Variable). All (λ v. AreBounds (own_range v)) vs) (sym c.as_slice.ensures) (own_bounds (lists_of c.args.model.now) c.args.model.now.well_formed)
