-- A row of a problem is within its limits in each box of the problem.
use Rattle.std.proofs.Common.{ℕ, ◌≤◌, ◌<◌, List, [], ◌∷◌, subst, sym, arith}
use Rattle.std.proofs.Math.Nat.{mul-le-mul_left}
use Rattle.std.specs.Prelude.{ℤ, unsigned_abs, IfSome}
use Rattle.cgm_atom.specs.declared.constraints.Atom.{Atom}
use Rattle.cgm_atom.specs.declared.constraints.Row.{Row}
use Rattle.cgm_atom.specs.declared.constraints.Var.{Var}
use Rattle.cgm_atom.specs.Bounds.{Bounds, IsBoxOf, lower_of, upper_of}
use Rattle.cgm_atom.specs.Limits.{AreTermsOf, IsRowOf, greatest_size, measure}
use Rattle.cgm_atom.proofs.SignedSteps.{≤ℤ_trans}
use Rattle.cgm_atom.proofs.Tightening.{between}

size_inside : (limits b : Bounds) (x : ℕ) → IsBoxOf limits b → greatest_size b x ≤ greatest_size limits x
size_inside limits b x box =
    let l = lower_of limits x in
    let u = upper_of limits x in
    let n : ℕ = greatest_size limits x in
    let ends = box.inside x in
    let ordered = box.ordered x in
    let low : unsigned_abs (lower_of b x) ≤ n = between l (lower_of b x) u n ends.0 (≤ℤ_trans (lower_of b x) (upper_of b x) u ordered ends.1) (omega arith) (omega arith) in
    let high : unsigned_abs (upper_of b x) ≤ n = between l (upper_of b x) u n (≤ℤ_trans l (lower_of b x) (upper_of b x) ends.0 ordered) ends.1 (omega arith) (omega arith) in
    omega arith

measure_inside : (limits b : Bounds) (terms : List (ℤ × Var)) → IsBoxOf limits b → measure b terms ≤ measure limits terms
measure_inside limits b [] box = omega arith
measure_inside limits b (t ∷ terms) box =
    omega (arith, mul-le-mul_left (unsigned_abs t.0) (size_inside limits b t.1.0 box), measure_inside limits b terms box)

pub IsRowOf-inside : (limits b : Bounds) (r : Row) → IsBoxOf limits b → IsRowOf limits r → IsRowOf b r
IsRowOf-inside limits b r box row = record {
  guard = subst (λ (n : ℕ). IfSome r.guard (λ (g : Atom). g.var.0 < n)) (sym box.lower_count) row.guard;
  terms = subst (λ (n : ℕ). AreTermsOf n r.terms) (sym box.lower_count) row.terms;
  measure_limit = let h = row.measure_limit in omega (arith, measure_inside limits b r.terms box);
  least_limit = row.least_limit;
}
