-- The tests for the same number are symmetric.
use Rattle.std.proofs.Common.{◌≡◌, ℕ, ◌==◌, Bool, true, false, sym, ℤ}
use Rattle.std.proofs.lemmas.Bool.{eqb-true, eq-eqb, ne_eqb, eqb-false}
use Rattle.cgm_formula.specs.declared.formula.Number.{Number}
use Rattle.cgm_formula.specs.declared.formula.Number.TheVariants as number
use Rattle.cgm_model.specs.Formulas.{is_same_number}

pub eqb_swap : (x y : ℕ) (b : Bool) → (x == y) ≡ b → (y == x) ≡ b
eqb_swap x y true e = eq-eqb y x (sym (eqb-true x y e))
eqb_swap x y false e = ne_eqb y x (λ same. eqb-false x y e (sym same))

pub number_swap : (x y : Number) (b : Bool) → is_same_number x y ≡ b → is_same_number y x ≡ b
number_swap (number.Var j) (number.Var k) b e = eqb_swap j k b e
number_swap (number.Sum j) (number.Sum k) b e = eqb_swap j k b e
number_swap (number.Var j) (number.Sum k) b e = e
number_swap (number.Sum j) (number.Var k) b e = e

pub term_swap : (t u : ℤ × Number) (b : Bool) → is_same_number t.1 u.1 ≡ b → is_same_number u.1 t.1 ≡ b
term_swap t u b e = number_swap t.1 u.1 b e
