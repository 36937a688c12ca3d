-- The terms of a row that defines a variable are those of a row.
use Rattle.std.proofs.Common.{◌≢◌, ℕ, ◌<◌, ◌≤◌, List, [], ◌∷◌, arith}
use Rattle.std.specs.Prelude.{ℤ, pos, negsuc, neg_ℤ}
use Rattle.std.proofs.lemmas.Int.{ints}
use Rattle.cgm_atom.specs.declared.constraints.Var.{Var}
use Rattle.cgm_atom.specs.Limits.{AreTermsOf, IsAbsent}
use Rattle.cgm_enc_formula.specs.Definitions.{negative}
use Rattle.cgm_enc_formula.proofs.TermOrders.{terms_wider}

absent_behind : (n v : ℕ) (terms : List (ℤ × Var)) → AreTermsOf n terms → n ≤ v → IsAbsent v terms
absent_behind n v [] known l = tt
absent_behind n v (t ∷ terms) known l =
    let within = known.0 in
    ((λ same. omega arith), absent_behind n v terms known.3 l)

negative_absent : (v : ℕ) (terms : List (ℤ × Var)) → IsAbsent v terms → IsAbsent v (negative terms)
negative_absent v [] h = tt
negative_absent v (t ∷ terms) h = (h.0, negative_absent v terms h.1)

still_nonzero : (c : ℤ) → c ≢ pos 0 → neg_ℤ c ≢ pos 0
still_nonzero c h e = h (omega (arith, ints))

pub negative_terms : (n : ℕ) (terms : List (ℤ × Var)) → AreTermsOf n terms → AreTermsOf n (negative terms)
negative_terms n [] known = tt
negative_terms n (t ∷ terms) known =
    (known.0, still_nonzero t.0 known.1, negative_absent t.1.0 terms known.2, negative_terms n terms known.3)

-- a term of v before terms of the variables below it
pub first_terms : (count v : ℕ) (c : ℤ) (terms : List (ℤ × Var)) → v < count → c ≢ pos 0 → AreTermsOf v terms → AreTermsOf count ((c, record { 0 = v }) ∷ terms)
first_terms count v c terms within nonzero known =
    (within, nonzero, absent_behind v v terms known (omega arith), terms_wider v count (omega arith) terms known)

pub one_nonzero : pos 1 ≢ pos 0
one_nonzero e = omega (arith, ints)

pub minus_one_nonzero : negsuc 0 ≢ pos 0
minus_one_nonzero e = omega (arith, ints)
