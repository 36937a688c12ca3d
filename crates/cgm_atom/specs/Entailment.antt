-- Entailment under a bound: what holds of every solution that is less than a best of the log.
use Rattle.std.specs.Prelude.{ℕ, zero, suc, ℤ, List, [], ◌∷◌, slice_get, IsSomeAnd, IsTrue}
use Rattle.cgm_atom.specs.declared.constraints.Clause.{Clause}
use Rattle.cgm_atom.specs.declared.entries.Entry.{Entry}
use Rattle.cgm_atom.specs.declared.entries.Entry.TheVariants.{Best, Lemma}
use Rattle.cgm_atom.specs.Atoms.{clause_true}
use Rattle.cgm_atom.specs.Instance.{Instance, IsSolution, vector}
use Rattle.cgm_base.specs.Order.{IsLess}

-- the values of each best of the log, by its ordinal
abbrev pub best_values : List Entry → List (List ℤ)
best_values [] = []
best_values (Best by values ∷ entries) = values ∷ best_values entries
best_values (Lemma by clause hints bound ∷ entries) = best_values entries

-- a vector is less than that of the best with this ordinal, from 1; under bound 0 each vector is
abbrev pub IsUnderBound : Instance → List Entry → ℕ → List ℤ → Type 0
IsUnderBound p log zero v = Unit {0}
IsUnderBound p log (suc i) v = IsSomeAnd (slice_get (best_values log) i) (λ values. IsLess v (vector p values))

unfoldable pub Follows : Instance → List Entry → ℕ → Clause → Type 0
Follows p log bound c =
    (values : List ℤ) → IsSolution p values → IsUnderBound p log bound (vector p values) → IsTrue (clause_true values c)
