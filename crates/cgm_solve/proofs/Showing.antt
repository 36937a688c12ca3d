-- What accepted entries show of a model, by what their last best stands for.
use Rattle.std.proofs.Common.{◌≡◌, List, sym, subst}
use Rattle.std.specs.Prelude.{ℤ, IsSomeAnd}
use Rattle.std.specs.declared.option.Option.{Option}
use Rattle.std.specs.declared.option.Option.TheVariants.{None, Some}
use Rattle.cgm_formula.specs.declared.assignment.Assignment.{Assignment}
use Rattle.cgm_model.specs.declared.lists.Lists.{Lists}
use Rattle.cgm_model.specs.WellFormed.{IsWellFormedModel}
use Rattle.cgm_evolve.specs.Pairs.{Pair}
use Rattle.cgm_obj.specs.Least.{IsLeastRealization}
use Rattle.cgm_atom.specs.declared.entries.Entry.{Entry}
use Rattle.cgm_atom.specs.Acceptance.{IsAccepted, IsClosed}
use Rattle.cgm_atom.specs.Bounds.{AreProperBounds}
use Rattle.cgm_atom.specs.Laws.{IsConcluded}
use Rattle.cgm_atom.specs.LogState.{last_best, state_of}
use Rattle.cgm_atom.proofs.Concluding.{closed_log_is_least}
use Rattle.cgm_encode.specs.declared.answer.Found.{Found}
use Rattle.cgm_encode.specs.Decoding.{IsDecodedFound}
use Rattle.cgm_encode.specs.Problem.{problem_of}
use Rattle.cgm_solve.specs.Answers.{IsLastBest, ShowsRealized, ShowsUnrealizable}
use Rattle.cgm_solve.proofs.EncodingLaws.{least_solutions_decode, no_solution_no_realization}

least_by : (m : Lists) (pairs : List Pair) (best : Option (List ℤ)) (found : Found) → ∥ IsWellFormedModel m ∥₁ → IsConcluded (problem_of m pairs) best → IsSomeAnd best (λ values. IsDecodedFound m pairs values found) → IsLeastRealization m pairs found.assignment
least_by m pairs None found well_formed concluded is_found = absurd is_found
least_by m pairs (Some values) found well_formed concluded is_found =
    subst (λ (a : Assignment). IsLeastRealization m pairs a) (sym is_found.assignment)
    (least_solutions_decode m pairs values well_formed concluded.0 concluded.1)

pub shows_realized : (m : Lists) (pairs : List Pair) (entries : List Entry) (found : Found) → ∥ IsWellFormedModel m ∥₁ → AreProperBounds (problem_of m pairs).bounds → IsAccepted (problem_of m pairs) entries → IsClosed entries → IsLastBest m pairs entries (Some found) → ShowsRealized m pairs entries found
shows_realized m pairs entries found well_formed proper accepted closed best = record {
  accepted = accepted;
  closed = closed;
  best = best;
  least = least_by m pairs (last_best (state_of entries)) found well_formed (closed_log_is_least (problem_of m pairs) entries proper accepted closed) best;
}

pub shows_unrealizable : (m : Lists) (pairs : List Pair) (entries : List Entry) → ∥ IsWellFormedModel m ∥₁ → AreProperBounds (problem_of m pairs).bounds → IsAccepted (problem_of m pairs) entries → IsClosed entries → last_best (state_of entries) ≡ None → ShowsUnrealizable m pairs entries
shows_unrealizable m pairs entries well_formed proper accepted closed no_best = record {
  accepted = accepted;
  closed = closed;
  no_best = no_best;
  none = λ a. no_solution_no_realization m pairs a well_formed
      (subst (λ (o : Option (List ℤ)). IsConcluded (problem_of m pairs) o) no_best (closed_log_is_least (problem_of m pairs) entries proper accepted closed));
}
