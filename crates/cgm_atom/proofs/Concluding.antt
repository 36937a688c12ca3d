-- Of an accepted, closed log the last best is least, and without a best there is no solution.
use Rattle.std.proofs.Common.{◌≡◌, ℕ, zero, suc, ◌≤◌, Bool, true, false, ◌||◌, List, [], ◌∷◌, length, refl, sym, ap, ◌∙◌, subst, arith}
use Rattle.std.specs.Prelude.{ℤ, IfSome, IsSomeAnd, slice_get}
use Rattle.std.specs.declared.option.Option.{Option}
use Rattle.std.specs.declared.option.Option.TheVariants.{Some, None}
use Rattle.std.specs.List.{AllByRecursion, last_or, list_any}
use Rattle.std.proofs.lemmas.Bool.{false≢true, eqb-true}
use Rattle.cgm_atom.specs.declared.constraints.Atom.{Atom}
use Rattle.cgm_atom.specs.declared.constraints.Clause.{Clause}
use Rattle.cgm_atom.specs.declared.entries.Entry.{Entry}
use Rattle.cgm_atom.specs.declared.entries.Entry.TheVariants.{Best, Lemma}
use Rattle.cgm_atom.specs.Acceptance.{IsAccepted, IsClosed}
use Rattle.cgm_atom.specs.Atoms.{atom_true}
use Rattle.cgm_atom.specs.Bounds.{AreProperBounds}
use Rattle.cgm_atom.specs.Entailment.{Follows, IsUnderBound, best_values}
use Rattle.cgm_atom.specs.Instance.{Instance, IsSolution, vector}
use Rattle.cgm_atom.specs.Laws.{IsConcluded, IsEntailed}
use Rattle.cgm_atom.specs.LogState.{LogState, empty_state, is_empty_clause, last_best, state_after, state_of, state_with}
use Rattle.cgm_base.specs.Order.{IsLess}
use Rattle.cgm_atom.proofs.Entailing.{all_entailed, each_at}
use Rattle.cgm_atom.proofs.LaterBounds.{under_earlier_bound}
use Rattle.cgm_atom.proofs.StateLemmas.{last_at, last_best_of_log}
use Rattle.cgm_atom.proofs.Solving.{all_bests_are_solutions}

-- ---- the bound of the lemma that closes the log

-- no solution is under the bound
abbrev IsRefutedUnder : Instance → List Entry → ℕ → Type 0
IsRefutedUnder p log bound = (values : List ℤ) → IsSolution p values → IsUnderBound p log bound (vector p values) → ⊥

no_atom_true : (values : List ℤ) (atoms : List Atom) → length atoms ≡ 0 → list_any (atom_true values) atoms ≡ true → ⊥
no_atom_true values [] e h = false≢true h
no_atom_true values (a ∷ atoms) e h = omega arith

refuted_under : (p : Instance) (log : List Entry) (bound : ℕ) (c : Clause) → is_empty_clause c ≡ true → Follows p log bound c → IsRefutedUnder p log bound
unfolding Follows
refuted_under p log bound c e follows = λ values solution under.
    no_atom_true values c.atoms (eqb-true _ _ e) (follows values solution under)

abbrev IsClosingBound : Instance → List Entry → Type 0
IsClosingBound p log = (bound : ℕ) × (bound ≤ length (best_values log)) × IsRefutedUnder p log bound

closing_by_cases : (p : Instance) (log : List Entry) (s : LogState) (by : ℕ) (clause : Clause) (bound : ℕ) (t : Bool) → is_empty_clause clause ≡ t → s.closed ≡ false → Follows p log bound clause → bound ≤ length (best_values log) → ((s.closed || t) ≡ false → IsClosingBound p log) → IsClosingBound p log
closing_by_cases p log s by clause bound true e open_log follows le rest = (bound, le, refuted_under p log bound clause e follows)
closing_by_cases p log s by clause bound false e open_log follows le rest = rest (rw open_log refl)

closing_bound : (p : Instance) (log : List Entry) (s : LogState) (entries : List Entry) → s.closed ≡ false → AllByRecursion (IsEntailed p log) entries → (state_after s entries).closed ≡ true → IsClosingBound p log
closing_bound p log s [] open_log entailed h = absurd (false≢true (sym open_log ∙ h))
closing_bound p log s (Best by values ∷ entries) open_log entailed h =
    closing_bound p log (state_with s (Best by values)) entries (rw open_log refl) entailed.1 h
closing_bound p log s (Lemma by clause hints bound ∷ entries) open_log entailed h =
    closing_by_cases p log s by clause bound (is_empty_clause clause) refl open_log entailed.0.0 entailed.0.1
    (λ still_open. closing_bound p log (state_with s (Lemma by clause hints bound)) entries still_open entailed.1 h)

-- ---- the conclusion

concluded_at : (p : Instance) (log : List Entry) (bound i : ℕ) (o : Option (List ℤ)) → slice_get (best_values log) i ≡ o → IsSomeAnd o (λ _. Unit {0}) → IsAccepted p log → bound ≤ suc i → IsRefutedUnder p log bound → AllByRecursion (IsSolution p) (best_values log) → IsConcluded p o
concluded_at p log bound i None e here accepted le refuted solutions = absurd here
concluded_at p log bound i (Some values) e here accepted le refuted solutions =
    let solution : IsSolution p values = subst (λ (o : Option (List ℤ)). IfSome o (IsSolution p)) e (each_at (IsSolution p) (best_values log) i solutions) in
    (solution, λ others other less. refuted others other (under_earlier_bound p log (vector p others) bound (suc i) accepted le (subst (λ (o : Option (List ℤ)). IsSomeAnd o (λ w. IsLess (vector p others) (vector p w))) (sym e) less)))

some_last : {X : Type 0} (x : X) (xs : List X) → IsSomeAnd (last_or (Some x) xs) (λ _. Unit {0})
some_last x [] = tt
some_last x (y ∷ xs) = some_last y xs

concluded_by_bests : (p : Instance) (log : List Entry) (bound : ℕ) (bests : List (List ℤ)) → best_values log ≡ bests → IsAccepted p log → bound ≤ length bests → IsRefutedUnder p log bound → AllByRecursion (IsSolution p) (best_values log) → IsConcluded p (last_or None bests)
concluded_by_bests p log zero [] e accepted le refuted solutions = λ values solution. refuted values solution tt
concluded_by_bests p log (suc bound) [] e accepted le refuted solutions = absurd (omega arith)
concluded_by_bests p log bound (x ∷ xs) e accepted le refuted solutions =
    concluded_at p log bound (length xs) (last_or (Some x) xs) (ap (λ (bests : List (List ℤ)). slice_get bests (length xs)) e ∙ last_at x xs) (some_last x xs) accepted le refuted solutions

pub closed_log_is_least : (p : Instance) (log : List Entry) → AreProperBounds p.bounds → IsAccepted p log → IsClosed log → IsConcluded p (last_best (state_of log))
unfolding state_of
closed_log_is_least p log proper accepted closed =
    let closing = closing_bound p log empty_state log refl (all_entailed p log accepted) closed in
    let concluded = concluded_by_bests p log closing.0 (best_values log) refl accepted closing.1 closing.2 (all_bests_are_solutions p log proper accepted) in
    subst (IsConcluded p) (sym (last_best_of_log log)) concluded
