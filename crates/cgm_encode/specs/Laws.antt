-- Laws over the definitions: solutions are realizations, realizations extend to solutions, and how large the problem of a model is.
use Rattle.std.specs.Prelude.{◌≡◌, ℕ, ◌^◌, ◌<◌, ◌≤◌, List, length, ℤ}
use Rattle.std.specs.List.{All}
use Rattle.cgm_atom.specs.Instance.{HasNoSolution, Instance, IsLeast, IsSolution, var_count, vector}
use Rattle.cgm_atom.specs.Bounds.{AreProperBounds, lower_of, upper_of}
use Rattle.cgm_atom.specs.Limits.{IsBound, IsClauseOf, IsRowOf, max_objectives}
use Rattle.cgm_formula.specs.declared.assignment.Assignment.{Assignment}
use Rattle.cgm_model.specs.declared.lists.Lists.{Lists}
use Rattle.cgm_model.specs.WellFormed.{IsWellFormedModel}
use Rattle.cgm_evolve.specs.Pairs.{Pair}
use Rattle.cgm_obj.specs.Least.{IsLeastRealization, Realizes}
use Rattle.cgm_obj.specs.Vector.{vector_of}
use Rattle.cgm_encode.specs.Assignments.{decoded, extension}
use Rattle.cgm_encode.specs.Problem.{box_of_problem, number_ranges, objective_rows, preferences_written, problem_of, sum_rows}
use Rattle.cgm_encode.specs.Variables.{first_objective}

-- ---- both ways

-- a solution decodes to a realization with the vector of the objective values
pub record DecodesTo (m : Lists) (pairs : List Pair) (values : List ℤ) (a : Assignment) : Type 0 where
  pub realizes : Realizes m a
  pub vector : vector (problem_of m pairs) values ≡ vector_of m pairs a

abbrev pub SolutionsDecode : Type 0
SolutionsDecode =
    (m : Lists) (pairs : List Pair) (values : List ℤ)
    → ∥ IsWellFormedModel m ∥₁
    → IsSolution (problem_of m pairs) values
    → DecodesTo m pairs values (decoded m values)

-- the values of a realization are a solution that decodes to it, with its vector
pub record ExtendsTo (m : Lists) (pairs : List Pair) (a : Assignment) (values : List ℤ) : Type 0 where
  pub solution : IsSolution (problem_of m pairs) values
  pub assignment : decoded m values ≡ a
  pub vector : vector (problem_of m pairs) values ≡ vector_of m pairs a

abbrev pub RealizationsExtend : Type 0
RealizationsExtend =
    (m : Lists) (pairs : List Pair) (a : Assignment)
    → ∥ IsWellFormedModel m ∥₁
    → Realizes m a
    → ExtendsTo m pairs a (extension m pairs a)

-- a least solution decodes to a least realization
abbrev pub LeastSolutionsDecode : Type 0
LeastSolutionsDecode =
    (m : Lists) (pairs : List Pair) (values : List ℤ)
    → ∥ IsWellFormedModel m ∥₁
    → IsSolution (problem_of m pairs) values
    → IsLeast (problem_of m pairs) values
    → IsLeastRealization m pairs (decoded m values)

-- a model whose problem has no solution has no realization
abbrev pub NoSolutionNoRealization : Type 0
NoSolutionNoRealization =
    (m : Lists) (pairs : List Pair) (a : Assignment)
    → ∥ IsWellFormedModel m ∥₁
    → HasNoSolution (problem_of m pairs)
    → ¬ Realizes m a

-- ---- sizes

-- the bounds are in order and within their limit, and all counts are below 2^31
pub record IsSmallProblem (p : Instance) : Type 0 where
  pub proper : AreProperBounds p.bounds
  pub sizes : (x : ℕ) → IsBound (lower_of p.bounds x) × IsBound (upper_of p.bounds x)
  pub var_limit : var_count p < 2 ^ 31
  pub clause_limit : length p.clauses < 2 ^ 31
  pub row_limit : length p.rows < 2 ^ 31
  pub objective_limit : length p.objectives ≤ max_objectives

abbrev pub ProblemsAreSmall : Type 0
ProblemsAreSmall = (m : Lists) (pairs : List Pair) → ∥ IsWellFormedModel m ∥₁ → IsSmallProblem (problem_of m pairs)

-- the clauses of preferences have variables before the objectives
abbrev pub PreferencesAreKnown : Type 0
PreferencesAreKnown = (m : Lists) → ∥ IsWellFormedModel m ∥₁ → All (IsClauseOf (first_objective m)) (preferences_written m)

-- the rows of sums are rows of the box of elements, refinements, variables and sums
abbrev pub SumRowsFit : Type 0
SumRowsFit = (m : Lists) → ∥ IsWellFormedModel m ∥₁ → All (IsRowOf (box_of_problem (number_ranges m))) (sum_rows m)

-- the rows of objectives are rows of the whole box
abbrev pub ObjectiveRowsFit : Type 0
ObjectiveRowsFit =
    (m : Lists) (pairs : List Pair) → ∥ IsWellFormedModel m ∥₁ → All (IsRowOf (problem_of m pairs).bounds) (objective_rows m pairs)
