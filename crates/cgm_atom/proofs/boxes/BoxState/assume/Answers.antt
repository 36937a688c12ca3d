use Rattle.std.proofs.Common.{◌≡◌, ◌≤ℤ◌, w64, to_z, of_z, rules}
use Rattle.std.specs.Int.{int_max, int_min}
use Rattle.cgm_atom.specs.Bounds.{lower_of, upper_of}
use Rattle.cgm_atom.specs.Fields.{box_bounds}
use Rattle.cgm_atom.proofs.Assuming.{IsProper-raised, IsProper-reduced, box_raised, box_reduced, read_max, read_min, read_not_above, read_not_below}
use Rattle.cgm_atom.proofs.boxes.BoxState.assume.Goals as goal

-- the least value that is written, and that it is no greater than the greatest
raised_value : (c : goal.After-self-1) → to_z w64 (of_z w64 c.max.result) ≡ int_max (lower_of (box_bounds c.self.inside) c.args.atom.var.0) c.args.atom.k
raised_value c =
    let b = box_bounds c.self.inside in
    let x = c.args.atom.var.0 in
    let low : c.lo-lo.result ≡ lower_of b x = rw (← c.self.view_is) at c.lo-lo.ensures.value in
    read_max c.max.result c.lo-lo.result c.args.atom.k (lower_of b x) (search rules) (search rules) (search rules) c.max.ensures.value low

raised_within : (c : goal.After-self-1) → c.args.atom.k ≤ℤ upper_of (box_bounds c.self.inside) c.args.atom.var.0
raised_within c =
    let high : c.hi-hi.result ≡ upper_of (box_bounds c.self.inside) c.args.atom.var.0 = rw (← c.self.view_is) at c.hi-hi.ensures.value in
    read_not_above c.args.atom.at_least c.args.atom.k c.hi-hi.result (upper_of (box_bounds c.self.inside) c.args.atom.var.0) _ (search rules) high c.if-atom.true c.if-is_false_between.ensures

-- the greatest value that is written, and that it is no less than the least
reduced_value : (c : goal.After-self-else-atom-1) → to_z w64 (of_z w64 c.min.result) ≡ int_min (upper_of (box_bounds c.self.inside) c.args.atom.var.0) c.args.atom.k
reduced_value c =
    let b = box_bounds c.self.inside in
    let x = c.args.atom.var.0 in
    let high : c.hi-hi.result ≡ upper_of b x = rw (← c.self.view_is) at c.hi-hi.ensures.value in
    read_min c.min.result c.hi-hi.result c.args.atom.k (upper_of b x) (search rules) (search rules) (search rules) c.min.ensures.value high

reduced_within : (c : goal.After-self-else-atom-1) → lower_of (box_bounds c.self.inside) c.args.atom.var.0 ≤ℤ c.args.atom.k
reduced_within c =
    let low : c.lo-lo.result ≡ lower_of (box_bounds c.self.inside) c.args.atom.var.0 = rw (← c.self.view_is) at c.lo-lo.ensures.value in
    read_not_below c.args.atom.at_least c.args.atom.k c.lo-lo.result (lower_of (box_bounds c.self.inside) c.args.atom.var.0) _ (search rules) low c.if-atom.false c.if-is_false_between.ensures

pub invariant_of-self : goal.invariant_of-self
invariant_of-self c =
    rw (raised_value c) (IsProper-raised (box_bounds c.self.inside) c.args.atom.var.0 c.args.atom.k (raised_within c) c.self.invariant)

pub invariant_of-self-else-atom : goal.invariant_of-self-else-atom
invariant_of-self-else-atom c =
    rw (reduced_value c) (IsProper-reduced (box_bounds c.self.inside) c.args.atom.var.0 c.args.atom.k (reduced_within c) c.self.invariant)

pub returns-then-atom-clause-within : goal.returns-then-atom-clause-within
returns-then-atom-clause-within c = λ limits h.
    rw (raised_value c) (box_raised limits (box_bounds c.self.inside) c.args.atom.var.0 c.args.atom.k (raised_within c) (rw (← c.self.view_is) at h))

pub returns-else-atom-clause-within : goal.returns-else-atom-clause-within
returns-else-atom-clause-within c = λ limits h.
    rw (reduced_value c) (box_reduced limits (box_bounds c.self.inside) c.args.atom.var.0 c.args.atom.k (reduced_within c) (rw (← c.self.view_is) at h))
