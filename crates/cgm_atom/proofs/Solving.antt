-- Each best of an accepted log is a solution.
use Rattle.std.proofs.Common.{◌≡◌, ℕ, List, [], ◌∷◌, length}
use Rattle.std.specs.Prelude.{ℤ}
use Rattle.std.specs.declared.option.Option.TheVariants.{None}
use Rattle.std.specs.List.{All, AllByRecursion}
use Rattle.std.proofs.lemmas.List.Elements.{All-from_recursion}
use Rattle.cgm_atom.specs.declared.entries.Entry.{Entry}
use Rattle.cgm_atom.specs.declared.entries.Entry.TheVariants.{Best, Lemma}
use Rattle.cgm_atom.specs.Acceptance.{IsAccepted, IsAcceptedAfter, fault_of, faults, first_fault}
use Rattle.cgm_atom.specs.Bounds.{AreProperBounds}
use Rattle.cgm_atom.specs.Entailment.{best_values}
use Rattle.cgm_atom.specs.Instance.{Instance, IsSolution, first_violation}
use Rattle.cgm_atom.specs.LogState.{LogState, empty_state, state_with}
use Rattle.cgm_atom.proofs.Entailing.{none_mapped}
use Rattle.cgm_atom.proofs.LaterBounds.{AreNone, none_fails}
use Rattle.cgm_atom.proofs.Solutions.{solution-none}

best_is_solution : (p : Instance) (s : LogState) (by : ℕ) (values : List ℤ) → AreProperBounds p.bounds → first_fault p s (Best by values) ≡ None → IsSolution p values
unfolding first_fault
best_is_solution p s by values proper h =
    let fails : AreNone (faults p s (Best by values)) = none_fails (faults p s (Best by values)) h in
    solution-none p values proper (none_mapped (fault_of (length values)) (first_violation p values) fails.1.0)

bests_after_are_solutions : (p : Instance) (s : LogState) (log : List Entry) → AreProperBounds p.bounds → IsAcceptedAfter p s log → AllByRecursion (IsSolution p) (best_values log)
bests_after_are_solutions p s [] proper h = tt
bests_after_are_solutions p s (Best by values ∷ log) proper h =
    (best_is_solution p s by values proper h.0, bests_after_are_solutions p (state_with s (Best by values)) log proper h.1)
bests_after_are_solutions p s (Lemma by clause hints bound ∷ log) proper h =
    bests_after_are_solutions p (state_with s (Lemma by clause hints bound)) log proper h.1

pub all_bests_are_solutions : (p : Instance) (log : List Entry) → AreProperBounds p.bounds → IsAccepted p log → AllByRecursion (IsSolution p) (best_values log)
unfolding IsAccepted
all_bests_are_solutions p log proper h = bests_after_are_solutions p empty_state log proper h

pub bests_are_solutions : (p : Instance) (log : List Entry) → AreProperBounds p.bounds → IsAccepted p log → All (IsSolution p) (best_values log)
bests_are_solutions p log proper h = All-from_recursion (IsSolution p) (best_values log) (all_bests_are_solutions p log proper h)
