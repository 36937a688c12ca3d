-- A least solution decodes to a least realization, and a model whose problem has no solution has no realization.
use Rattle.std.proofs.Common.{List, sym, subst}
use Rattle.std.specs.Prelude.{ℤ}
use Rattle.cgm_atom.specs.Instance.{HasNoSolution, IsLeast, IsSolution, vector}
use Rattle.cgm_base.specs.Order.{IsLess}
use Rattle.cgm_formula.specs.declared.assignment.Assignment.{Assignment}
use Rattle.cgm_model.specs.declared.lists.Lists.{Lists}
use Rattle.cgm_model.specs.WellFormed.{IsWellFormedModel}
use Rattle.cgm_evolve.specs.Pairs.{Pair}
use Rattle.cgm_obj.specs.Least.{IsLeastRealization, Realizes}
use Rattle.cgm_obj.specs.Vector.{vector_of}
use Rattle.cgm_encode.specs.Assignments.{decoded, extension}
use Rattle.cgm_encode.specs.Laws.{RealizationsExtend, SolutionsDecode}
use Rattle.cgm_encode.specs.Problem.{problem_of}

pub least_decodes : SolutionsDecode → RealizationsExtend → (m : Lists) (pairs : List Pair) (values : List ℤ) → ∥ IsWellFormedModel m ∥₁ → IsSolution (problem_of m pairs) values → IsLeast (problem_of m pairs) values → IsLeastRealization m pairs (decoded m values)
least_decodes decodes extends m pairs values well solution least =
    let here = decodes m pairs values well solution in
    record {
      realizes = here.realizes;
      least = λ b r less.
          let there = extends m pairs b well r in
          let p = problem_of m pairs in
          least (extension m pairs b) there.solution
          (subst (λ (us : List ℤ). IsLess us (vector p values)) (sym there.vector)
          (subst (λ (vs : List ℤ). IsLess (vector_of m pairs b) vs) (sym here.vector) less));
    }

pub none_realizes : RealizationsExtend → (m : Lists) (pairs : List Pair) (a : Assignment) → ∥ IsWellFormedModel m ∥₁ → HasNoSolution (problem_of m pairs) → ¬ Realizes m a
none_realizes extends m pairs a well none r = none (extension m pairs a) (extends m pairs a well r).solution
