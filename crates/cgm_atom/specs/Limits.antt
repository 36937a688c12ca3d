-- What a problem's type keeps, so that each sum of a row fits 64 bits.
use Rattle.std.specs.Prelude.{◌≡◌, ◌≢◌, ℕ, ◌+◌, ◌*◌, ◌^◌, ◌<◌, ◌≤◌, max, ℤ, pos, unsigned_abs, List, [], ◌∷◌, length, IfSome}
use Rattle.std.specs.List.{All}
use Rattle.cgm_atom.specs.declared.constraints.Atom.{Atom}
use Rattle.cgm_atom.specs.declared.constraints.Clause.{Clause}
use Rattle.cgm_atom.specs.declared.constraints.Row.{Row}
use Rattle.cgm_atom.specs.declared.constraints.Var.{Var}
use Rattle.cgm_atom.specs.Bounds.{Bounds, AreProperBounds, lower_of, upper_of}
use Rattle.cgm_atom.specs.Instance.{Instance, var_count}

-- ---- the limits

-- the size of a bound or a value of a variable
abbrev pub max_bound : ℕ
max_bound = 10 ^ 15

-- the size of the number of an atom
abbrev pub max_atom_number : ℕ
max_atom_number = 2 * 10 ^ 15

-- the measure of a row
abbrev pub max_measure : ℕ
max_measure = 4 * 10 ^ 18

-- the size of the least value of a row
abbrev pub max_least : ℕ
max_least = max_measure + 1

-- by how much a row's greatest sum can pass its least value
abbrev pub max_room : ℕ
max_room = max_measure + max_least

abbrev pub max_objectives : ℕ
max_objectives = 8

-- workers have the numbers below it
abbrev pub max_workers : ℕ
max_workers = 16

-- the lemmas that a worker hands on at once
abbrev pub max_batch_lemmas : ℕ
max_batch_lemmas = 64

-- ---- what stays within them

-- a bound or a value of a variable
abbrev pub IsBound : ℤ → Type 0
IsBound z = unsigned_abs z ≤ max_bound

-- an atom of a clause: its variable is one of so many, and its number is within the limit
abbrev pub IsAtomOf : ℕ → Atom → Type 0
IsAtomOf count a = (a.var.0 < count) × (unsigned_abs a.k ≤ max_atom_number)

abbrev pub IsClauseOf : ℕ → Clause → Type 0
IsClauseOf count c = All (IsAtomOf count) c.atoms

-- no term has variable x
abbrev pub IsAbsent : ℕ → List (ℤ × Var) → Type 0
IsAbsent x [] = Unit {0}
IsAbsent x (t ∷ terms) = (t.1.0 ≢ x) × IsAbsent x terms

-- the variables are some of so many and distinct, and no coefficient is 0
abbrev pub AreTermsOf : ℕ → List (ℤ × Var) → Type 0
AreTermsOf count [] = Unit {0}
AreTermsOf count (t ∷ terms) = (t.1.0 < count) × (t.0 ≢ pos 0) × IsAbsent t.1.0 terms × AreTermsOf count terms

-- the greatest size of a variable's bounds
abbrev pub greatest_size : Bounds → ℕ → ℕ
greatest_size b x = max (unsigned_abs (lower_of b x)) (unsigned_abs (upper_of b x))

-- the sum of coefficient size times greatest bound size
abbrev pub measure : Bounds → List (ℤ × Var) → ℕ
measure b [] = 0
measure b (t ∷ terms) = unsigned_abs t.0 * greatest_size b t.1.0 + measure b terms

-- the row's terms and guard have variables of the box, and its numbers are within their limits
pub record IsRowOf (b : Bounds) (r : Row) : Type 0 where
  pub guard : IfSome r.guard (λ g. g.var.0 < length b.lower)
  pub terms : AreTermsOf (length b.lower) r.terms
  pub measure_limit : measure b r.terms ≤ max_measure
  pub least_limit : unsigned_abs r.least ≤ max_least

-- as many values as variables, each within the limit of a bound
pub record AreValuesOf (p : Instance) (values : List ℤ) : Type 0 where
  pub count : length values ≡ var_count p
  pub sizes : All IsBound values

pub record IsWellFormedProblem (p : Instance) : Type 0 where
  pub proper : AreProperBounds p.bounds
  pub sizes : (x : ℕ) → IsBound (lower_of p.bounds x) × IsBound (upper_of p.bounds x)
  pub clauses : All (IsClauseOf (var_count p)) p.clauses
  pub rows : All (IsRowOf p.bounds) p.rows
  pub objectives : All (λ v. v.0 < var_count p) p.objectives
  pub var_limit : var_count p < 2 ^ 32
  pub clause_limit : length p.clauses < 2 ^ 32
  pub row_limit : length p.rows < 2 ^ 32
  pub objective_limit : length p.objectives ≤ max_objectives
