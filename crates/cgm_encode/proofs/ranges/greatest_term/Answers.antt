use Rattle.std.proofs.Common.{◌≡◌, ◌≤◌, Bool, true, false, cond, of_z, to_z, w64, ap, ◌∙◌, sym, arith, rules}
use Rattle.std.specs.Prelude.{ℤ, pos, ◌*ℤ◌, int_lt, unsigned_abs}
use Rattle.cgm_atom.specs.Bounds.{lower_of, upper_of}
use Rattle.cgm_atom.specs.Limits.{greatest_size, max_measure}
use Rattle.cgm_encode.proofs.TermBounds.{product_limit, product_size, product_value}
use Rattle.cgm_encode.proofs.ranges.greatest_term.Goals as goal

-- the sign that was tested is that of the coefficient
sign : (k passed : ℤ) (t : Bool) → int_lt passed (pos 0) ≡ t → passed ≡ k → int_lt k (pos 0) ≡ t
sign k passed t h same = ap (λ (z : ℤ). int_lt z (pos 0)) (sym same) ∙ h

pub product-requires : goal.product-requires
product-requires c =
    let b = c.args.builder.now.bounds in
    let x = c.args.term.now.1.0 in
    let k = c.args.term.now.0 in
    let v = lower_of b x in
    let same_k : to_z w64 (of_z w64 k) ≡ k = search rules in
    let bound = c.bounds-lo.result.0 in
    let kept : to_z w64 (of_z w64 bound) ≡ bound = search rules in
    let same_v : to_z w64 (of_z w64 bound) ≡ v = kept ∙ ap (λ (r : ℤ × ℤ). r.0) c.bounds-lo.ensures in
    let small : unsigned_abs v ≤ greatest_size b x = omega arith in
    product_limit k v (to_z w64 (of_z w64 k)) (to_z w64 (of_z w64 bound)) same_k same_v (greatest_size b x) max_measure small c.requires.limit

pub returns-then-term-lt0-clause-value : goal.returns-then-term-lt0-clause-value
returns-then-term-lt0-clause-value c =
    let b = c.args.builder.now.bounds in
    let x = c.args.term.now.1.0 in
    let k = c.args.term.now.0 in
    let v = lower_of b x in
    let same_k : to_z w64 (of_z w64 k) ≡ k = search rules in
    let bound = c.bounds-lo.result.0 in
    let kept : to_z w64 (of_z w64 bound) ≡ bound = search rules in
    let same_v : to_z w64 (of_z w64 bound) ≡ v = kept ∙ ap (λ (r : ℤ × ℤ). r.0) c.bounds-lo.ensures in
    let small : unsigned_abs v ≤ greatest_size b x = omega arith in
    let is : to_z w64 (of_z w64 c.product.result) ≡ c.product.result = search rules in
    let test = ap (λ (t : Bool). cond t (k *ℤ lower_of b x) (k *ℤ upper_of b x)) (sign k (to_z w64 (of_z w64 k)) true c.if-term-lt0.true same_k) in
    product_value k v (to_z w64 (of_z w64 k)) (to_z w64 (of_z w64 bound)) same_k same_v c.product.result (to_z w64 (of_z w64 c.product.result)) c.product.ensures.value is ∙ sym test

pub returns-then-term-lt0-clause-size : goal.returns-then-term-lt0-clause-size
returns-then-term-lt0-clause-size c =
    let b = c.args.builder.now.bounds in
    let x = c.args.term.now.1.0 in
    let k = c.args.term.now.0 in
    let v = lower_of b x in
    let same_k : to_z w64 (of_z w64 k) ≡ k = search rules in
    let bound = c.bounds-lo.result.0 in
    let kept : to_z w64 (of_z w64 bound) ≡ bound = search rules in
    let same_v : to_z w64 (of_z w64 bound) ≡ v = kept ∙ ap (λ (r : ℤ × ℤ). r.0) c.bounds-lo.ensures in
    let small : unsigned_abs v ≤ greatest_size b x = omega arith in
    let is : to_z w64 (of_z w64 c.product.result) ≡ c.product.result = search rules in
    product_size k v (to_z w64 (of_z w64 k)) (to_z w64 (of_z w64 bound)) same_k same_v c.product.result (to_z w64 (of_z w64 c.product.result)) (greatest_size b x) c.product.ensures.size is small

pub product-requires-else-term-lt0 : goal.product-requires-else-term-lt0
product-requires-else-term-lt0 c =
    let b = c.args.builder.now.bounds in
    let x = c.args.term.now.1.0 in
    let k = c.args.term.now.0 in
    let v = upper_of b x in
    let same_k : to_z w64 (of_z w64 k) ≡ k = search rules in
    let bound = c.bounds-lo.result.1 in
    let kept : to_z w64 (of_z w64 bound) ≡ bound = search rules in
    let same_v : to_z w64 (of_z w64 bound) ≡ v = kept ∙ ap (λ (r : ℤ × ℤ). r.1) c.bounds-lo.ensures in
    let small : unsigned_abs v ≤ greatest_size b x = omega arith in
    product_limit k v (to_z w64 (of_z w64 k)) (to_z w64 (of_z w64 bound)) same_k same_v (greatest_size b x) max_measure small c.requires.limit

pub returns-else-term-lt0-clause-value : goal.returns-else-term-lt0-clause-value
returns-else-term-lt0-clause-value c =
    let b = c.args.builder.now.bounds in
    let x = c.args.term.now.1.0 in
    let k = c.args.term.now.0 in
    let v = upper_of b x in
    let same_k : to_z w64 (of_z w64 k) ≡ k = search rules in
    let bound = c.bounds-lo.result.1 in
    let kept : to_z w64 (of_z w64 bound) ≡ bound = search rules in
    let same_v : to_z w64 (of_z w64 bound) ≡ v = kept ∙ ap (λ (r : ℤ × ℤ). r.1) c.bounds-lo.ensures in
    let small : unsigned_abs v ≤ greatest_size b x = omega arith in
    let is : to_z w64 (of_z w64 c.product-else-term-lt0.result) ≡ c.product-else-term-lt0.result = search rules in
    let test = ap (λ (t : Bool). cond t (k *ℤ lower_of b x) (k *ℤ upper_of b x)) (sign k (to_z w64 (of_z w64 k)) false c.if-term-lt0.false same_k) in
    product_value k v (to_z w64 (of_z w64 k)) (to_z w64 (of_z w64 bound)) same_k same_v c.product-else-term-lt0.result (to_z w64 (of_z w64 c.product-else-term-lt0.result)) c.product-else-term-lt0.ensures.value is ∙ sym test

pub returns-else-term-lt0-clause-size : goal.returns-else-term-lt0-clause-size
returns-else-term-lt0-clause-size c =
    let b = c.args.builder.now.bounds in
    let x = c.args.term.now.1.0 in
    let k = c.args.term.now.0 in
    let v = upper_of b x in
    let same_k : to_z w64 (of_z w64 k) ≡ k = search rules in
    let bound = c.bounds-lo.result.1 in
    let kept : to_z w64 (of_z w64 bound) ≡ bound = search rules in
    let same_v : to_z w64 (of_z w64 bound) ≡ v = kept ∙ ap (λ (r : ℤ × ℤ). r.1) c.bounds-lo.ensures in
    let small : unsigned_abs v ≤ greatest_size b x = omega arith in
    let is : to_z w64 (of_z w64 c.product-else-term-lt0.result) ≡ c.product-else-term-lt0.result = search rules in
    product_size k v (to_z w64 (of_z w64 k)) (to_z w64 (of_z w64 bound)) same_k same_v c.product-else-term-lt0.result (to_z w64 (of_z w64 c.product-else-term-lt0.result)) (greatest_size b x) c.product-else-term-lt0.ensures.size is small
