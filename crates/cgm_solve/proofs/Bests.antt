-- The last best of accepted entries, and of a log, is a solution.
use Rattle.std.proofs.Common.{◌≡◌, List, [], ◌∷◌, sym, subst}
use Rattle.std.specs.Prelude.{ℤ, IfSome}
use Rattle.std.specs.declared.option.Option.{Option}
use Rattle.std.specs.declared.option.Option.TheVariants.{None, Some}
use Rattle.std.specs.List.{AllByRecursion, last_or}
use Rattle.cgm_atom.specs.declared.entries.Entry.{Entry}
use Rattle.cgm_atom.specs.Acceptance.{IsAccepted}
use Rattle.cgm_atom.specs.Bounds.{AreProperBounds}
use Rattle.cgm_atom.specs.Entailment.{best_values}
use Rattle.cgm_atom.specs.Instance.{Instance, IsSolution}
use Rattle.cgm_atom.specs.LogState.{last_best, state_of}
use Rattle.cgm_atom.proofs.Solving.{all_bests_are_solutions}
use Rattle.cgm_atom.proofs.StateLemmas.{last_best_of_log}
use Rattle.cgm_log.specs.LogBook.{IsLog, LogBook}

last_is : (P : List ℤ → Type 0) (last : Option (List ℤ)) (xs : List (List ℤ)) → IfSome last P → AllByRecursion P xs → IfSome (last_or last xs) P
last_is P last [] h all = h
last_is P last (x ∷ xs) h all = last_is P (Some x) xs all.0 all.1

pub last_best_is_solution : (p : Instance) (log : List Entry) → AreProperBounds p.bounds → IsAccepted p log → IfSome (last_best (state_of log)) (IsSolution p)
last_best_is_solution p log proper accepted =
    subst (λ (o : Option (List ℤ)). IfSome o (IsSolution p)) (sym (last_best_of_log log))
    (last_is (IsSolution p) None (best_values log) tt (all_bests_are_solutions p log proper accepted))

-- the last best of accepted entries
pub best_of_entries : (p : Instance) (entries : List Entry) (best : Option (List ℤ)) → AreProperBounds p.bounds → IsAccepted p entries → last_best (state_of entries) ≡ best → IfSome best (IsSolution p)
best_of_entries p entries best proper accepted is =
    subst (λ (o : Option (List ℤ)). IfSome o (IsSolution p)) is (last_best_is_solution p entries proper accepted)

-- the last best of a log of the problem
pub best_of_log : (p : Instance) (book : LogBook) (best : Option (List ℤ)) → IsLog book → book.problem ≡ p → best ≡ last_best (state_of book.entries) → IfSome best (IsSolution p)
best_of_log p book best log problem is =
    subst (λ (q : Instance). IfSome best (IsSolution q)) problem
    (best_of_entries book.problem book.entries best log.problem.proper log.accepted (sym is))
