-- What the end of accepted entries tells, and the step from one entry to the next.
use Rattle.std.proofs.Common.{◌≡◌, ℕ, zero, suc, ◌+◌, ◌<◌, ◌≤◌, false, List, [], ◌∷◌, ◌++◌, length, get_or, take, sym, ap, ◌∙◌, subst, arith, add-one}
use Rattle.std.specs.Prelude.{ℤ, slice_get, IfOk, IsSomeAnd, Result, Ok, Err}
use Rattle.std.specs.declared.option.Option.{Option}
use Rattle.std.specs.declared.option.Option.TheVariants.{Some, None}
use Rattle.std.proofs.lemmas.Bool.{false≢true}
use Rattle.std.proofs.lemmas.List.{length-map, length-take, take_all, take_more}
use Rattle.cgm_atom.specs.declared.entries.BadStep.{BadStep}
use Rattle.cgm_atom.specs.declared.entries.Entry.{Entry}
use Rattle.cgm_atom.specs.Acceptance.{IsAccepted, first_fault}
use Rattle.cgm_atom.specs.Bounds.{AreProperBounds}
use Rattle.cgm_atom.specs.Instance.{Instance}
use Rattle.cgm_atom.specs.Laws.{IsConcluded}
use Rattle.cgm_atom.specs.LogState.{LogState, last_best, state_of}
use Rattle.cgm_atom.proofs.StateLemmas.{IsAccepted-push, state_of-entries}
use Rattle.cgm_atom.proofs.Concluding.{closed_log_is_least}
use Rattle.cgm_step.specs.Indexing.{Index, IsLogIndexOf}
use Rattle.cgm_check.specs.declared.Verdict.{Verdict}
use Rattle.cgm_check.specs.declared.Verdict.TheVariants.{Least, NoSolution, Open, Refused}
use Rattle.cgm_check.specs.Verdicts.{IsEndOf, IsRefusedAt, IsVerdictOf}

-- ---- one more entry

pub accepted_next : (p : Instance) (entries : List Entry) (i : ℕ) (e : Entry) → i < length entries → e ≡ get_or entries i e → IsAccepted p (take i entries) → first_fault p (state_of (take i entries)) e ≡ None → IsAccepted p (take (i + 1) entries)
accepted_next p entries i e within at accepted passes =
    let more : take (i + 1) entries ≡ take i entries ++ e ∷ [] = take_more entries i e within ∙ ap (λ (x : Entry). take i entries ++ x ∷ []) (sym at) in
    rw more (IsAccepted-push p (take i entries) e accepted passes)

some_at : (entries : List Entry) (i : ℕ) (e : Entry) → i < length entries → e ≡ get_or entries i e → slice_get entries i ≡ Some e
some_at [] i e within at = absurd (omega arith)
some_at (x ∷ entries) zero e within at = ap Some (sym at)
some_at (x ∷ entries) (suc i) e within at = some_at entries i e (omega arith) at

pub refused_at : (p : Instance) (entries : List Entry) (i : ℕ) (e : Entry) (why : BadStep) → i < length entries → e ≡ get_or entries i e → IsAccepted p (take i entries) → first_fault p (state_of (take i entries)) e ≡ Some why → IsRefusedAt p entries (i + 1) why
refused_at p entries i e why within at accepted fault =
    rw (add-one i) (accepted, subst (λ (o : Option Entry). IsSomeAnd o (λ x. first_fault p (state_of (take i entries)) x ≡ Some why)) (sym (some_at entries i e within at)) fault)

-- the index of the entries so far counts no more of them than there are
pub counted_within : (index : Index) (entries : List Entry) (i : ℕ) → IsLogIndexOf index (take i entries) → index.entries ≤ length entries
counted_within index entries i own =
    let count : index.entries ≡ length (take i entries) =
    ap (λ (x : Index). x.entries) own ∙ ap length (state_of-entries (take i entries)) ∙ length-map (take i entries) Some in
    omega (arith, length-take i entries)

pub own_next : (index : Index) (entries : List Entry) (i : ℕ) (e : Entry) → i < length entries → e ≡ get_or entries i e → IsLogIndexOf index (take i entries ++ e ∷ []) → IsLogIndexOf index (take (i + 1) entries)
own_next index entries i e within at own =
    let more : take (i + 1) entries ≡ take i entries ++ e ∷ [] = take_more entries i e within ∙ ap (λ (x : Entry). take i entries ++ x ∷ []) (sym at) in
    rw more own

-- ---- the end

pub end_open : (s : LogState) (best : Option (List ℤ)) → s.closed ≡ false → best ≡ last_best s → IsEndOf s (Open best)
end_open s best h e = (λ closed. false≢true (sym h ∙ closed), sym e)

verdict_from_end : (p : Instance) (entries : List Entry) (verdict : Verdict) → AreProperBounds p.bounds → IsAccepted p entries → IsEndOf (state_of entries) verdict → IsVerdictOf p entries verdict
verdict_from_end p entries (Least values) proper accepted end =
    let concluded = subst (IsConcluded p) end.1 (closed_log_is_least p entries proper accepted end.0) in
    (accepted, end.0, end.1, concluded.0, concluded.1)
verdict_from_end p entries NoSolution proper accepted end =
    (accepted, end.0, end.1, subst (IsConcluded p) end.1 (closed_log_is_least p entries proper accepted end.0))
verdict_from_end p entries (Open best) proper accepted end = (accepted, end.0, end.1)
verdict_from_end p entries (Refused step why) proper accepted end = absurd end

-- once all entries are accepted, what their end tells is the verdict
pub verdict_of_all : {E : Type 0} (p : Instance) (entries : List Entry) (i : ℕ) (r : Result Verdict E) → AreProperBounds p.bounds → length entries ≤ i → IsAccepted p (take i entries) → IfOk r (λ v. IsEndOf (state_of entries) v) → IfOk r (λ v. IsVerdictOf p entries v)
verdict_of_all p entries i (Err e) proper all accepted end = tt
verdict_of_all p entries i (Ok v) proper all accepted end =
    verdict_from_end p entries v proper (subst (IsAccepted p) (take_all i entries all) accepted) end
