-- A proper batch stays accepted where it lands on the entries that were seen.
use Rattle.std.proofs.Common.{◌≡◌, ℕ, ◌+◌, Bool, true, false, not, ◌||◌, List, [], ◌∷◌, ◌++◌, length, refl, sym, ap, subst, ◌∙◌, append_assoc, append-nil, arith}
use Rattle.std.specs.Prelude.{ℤ, IsTrue, IfSome, if◌then◌else◌}
use Rattle.std.specs.declared.option.Option.{Option}
use Rattle.std.specs.declared.option.Option.TheVariants.{Some, None}
use Rattle.std.specs.List.{All, last_or}
use Rattle.std.specs.Option.{option_map}
use Rattle.std.proofs.lemmas.List.Elements.{All-head, All-tail}
use Rattle.cgm_atom.specs.declared.entries.BadStep.{BadStep}
use Rattle.cgm_atom.specs.declared.entries.BadStep.TheVariants as fault
use Rattle.cgm_atom.specs.declared.entries.Entry.{Entry}
use Rattle.cgm_atom.specs.declared.entries.Entry.TheVariants.{Best, Lemma}
use Rattle.cgm_atom.specs.Acceptance.{IsAccepted, IsAcceptedAfter, fault_of, first_fault}
use Rattle.cgm_atom.specs.Entailment.{best_values}
use Rattle.cgm_atom.specs.Instance.{Instance, IsSolution, fault_unless, first_some, first_violation, vector}
use Rattle.cgm_atom.specs.LogState.{LogState, entry_values, is_closing, is_empty_clause, last_best, state_of}
use Rattle.cgm_atom.specs.Order.{is_below, is_less}
use Rattle.cgm_atom.specs.Placing.{all_placed}
use Rattle.cgm_atom.proofs.Solutions.{none-solution}
use Rattle.cgm_atom.proofs.StateLemmas.{IsAccepted-push, best_values-append, last_best_of_log, state_of-push}
use Rattle.cgm_log.specs.declared.batches.Batch.{Batch}
use Rattle.cgm_log.specs.declared.batches.Fate.TheVariants.{Behind, Kept}
use Rattle.cgm_log.specs.Landing.{ClosesLast, IsLemmaOf, IsProperBatch, fate_after, kept_candidate, kept_entry}

-- entries that are accepted one after another
accepted_more : (p : Instance) (log more : List Entry) → IsAccepted p log → IsAcceptedAfter p (state_of log) more → IsAccepted p (log ++ more)
accepted_more p log [] h k = subst (λ (xs : List Entry). IsAccepted p xs) (sym (append-nil log)) h
accepted_more p log (e ∷ more) h k =
    subst (λ (xs : List Entry). IsAccepted p xs) (append_assoc log (e ∷ []) more)
    (accepted_more p (log ++ e ∷ []) more (IsAccepted-push p log e h k.0)
    (subst (λ (s : LogState). IsAcceptedAfter p s more) (sym (state_of-push log e)) k.1))

-- ---- lemmas with atoms leave a log open, and its last best

abbrev AreOpen : List Entry → Type 0
AreOpen [] = Unit {0}
AreOpen (e ∷ entries) = (is_closing e ≡ false) × (entry_values e ≡ None) × AreOpen entries

not_closing : (t : Bool) (Q : Type 0) (values : List ℤ) → (IsTrue t → Q × (Some values ≡ None)) → t ≡ false
not_closing false Q values h = refl
not_closing true Q values h = let none = (h refl).1 in absurd (cc)

open_lemmas : (by n : ℕ) (lemmas : List Entry) (values : List ℤ) → All (IsLemmaOf by n) lemmas → ClosesLast lemmas (Some values) → AreOpen (all_placed n lemmas)
open_lemmas by n [] values h k = tt
open_lemmas by n (Best maker best ∷ lemmas) values h k = absurd (All-head (IsLemmaOf by n) (Best maker best) lemmas h)
open_lemmas by n (Lemma maker clause hints bound ∷ lemmas) values h k = (
  not_closing (is_empty_clause clause) (lemmas ≡ []) values k.0,
  refl,
  open_lemmas by n lemmas values (All-tail (IsLemmaOf by n) (Lemma maker clause hints bound) lemmas h) k.1,
)

open_after : (log more : List Entry) → (state_of log).closed ≡ false → AreOpen more → (state_of (log ++ more)).closed ≡ false
open_after log [] h k = subst (λ (xs : List Entry). (state_of xs).closed ≡ false) (sym (append-nil log)) h
open_after log (e ∷ more) h k =
    subst (λ (xs : List Entry). (state_of xs).closed ≡ false) (append_assoc log (e ∷ []) more)
    (open_after (log ++ e ∷ []) more
    (ap (λ (s : LogState). s.closed) (state_of-push log e) ∙ ap (λ (t : Bool). t || is_closing e) h ∙ k.0)
    k.2)

no_bests : (more : List Entry) → AreOpen more → best_values more ≡ []
no_bests [] k = refl
no_bests (Best by values ∷ more) k = let some = k.1 in absurd (cc)
no_bests (Lemma by clause hints bound ∷ more) k = no_bests more k.2

last_best_stays : (log more : List Entry) → AreOpen more → last_best (state_of (log ++ more)) ≡ last_best (state_of log)
last_best_stays log more k =
    last_best_of_log (log ++ more)
    ∙ ap (λ (bests : List (List ℤ)). last_or None bests)
    (best_values-append log more ∙ ap (λ (xs : List (List ℤ)). best_values log ++ xs) (no_bests more k) ∙ append-nil (best_values log))
    ∙ sym (last_best_of_log log)

-- ---- the candidate

all_pass : (closed : Bool) (violated : Option BadStep) (below : Bool) → closed ≡ false → violated ≡ None → below ≡ true → first_some (fault_unless (not closed) fault.AfterEnd ∷ violated ∷ fault_unless below fault.NotLess ∷ []) ≡ None
all_pass closed violated below h k l = rw (h, k, l) refl

best_passes : (p : Instance) (s : LogState) (by : ℕ) (values : List ℤ) → IsSolution p values → s.closed ≡ false → is_below (vector p values) (option_map (vector p) (last_best s)) ≡ true → first_fault p s (Best by values) ≡ None
unfolding first_fault
best_passes p s by values solves still_open below =
    all_pass s.closed (option_map (fault_of (length values)) (first_violation p values)) (is_below (vector p values) (option_map (vector p) (last_best s)))
    still_open (ap (option_map (fault_of (length values))) (none-solution p values solves)) below

best_accepted : (p : Instance) (log : List Entry) (by : ℕ) (values : List ℤ) (last : Option (List ℤ)) → IsAccepted p log → (state_of log).closed ≡ false → last_best (state_of log) ≡ last → IsSolution p values → is_below (vector p values) (option_map (vector p) last) ≡ true → IsAccepted p (log ++ Best by values ∷ [])
best_accepted p log by values last h still_open e solves below =
    IsAccepted-push p log (Best by values) h
    (best_passes p (state_of log) by values solves still_open (ap (λ (o : Option (List ℤ)). is_below (vector p values) (option_map (vector p) o)) e ∙ below))

by_test : (p : Instance) (log : List Entry) (by bests : ℕ) (values best : List ℤ) (t : Bool) → is_less (vector p values) (vector p best) ≡ t → IsAccepted p log → (state_of log).closed ≡ false → last_best (state_of log) ≡ Some best → IsSolution p values
    → IsAccepted p (log ++ kept_entry by values (if t then Kept (bests + 1) else Behind bests best))
by_test p log by bests values best true less h still_open e solves = best_accepted p log by values (Some best) h still_open e solves less
by_test p log by bests values best false less h still_open e solves = subst (λ (xs : List Entry). IsAccepted p xs) (sym (append-nil log)) h

kept_accepted : (p : Instance) (log : List Entry) (by bests : ℕ) (values : List ℤ) (last : Option (List ℤ)) → IsAccepted p log → (state_of log).closed ≡ false → last_best (state_of log) ≡ last → IsSolution p values
    → IsAccepted p (log ++ kept_entry by values (fate_after p bests last values))
kept_accepted p log by bests values None h still_open e solves = best_accepted p log by values None h still_open e solves refl
kept_accepted p log by bests values (Some best) h still_open e solves =
    by_test p log by bests values best (is_less (vector p values) (vector p best)) refl h still_open e solves

-- ---- the batch

by_candidate : (p : Instance) (log lemmas : List Entry) (by : ℕ) (candidate : Option (List ℤ)) → IsAccepted p log → (state_of log).closed ≡ false → All (IsLemmaOf by (length log)) lemmas → IsAcceptedAfter p (state_of log) (all_placed (length log) lemmas) → ClosesLast lemmas candidate → IfSome candidate (IsSolution p)
    → IsAccepted p (log ++ (all_placed (length log) lemmas ++ kept_candidate p (state_of log) by candidate))
by_candidate p log lemmas by None h still_open all accepted closing solves =
    let placed = all_placed (length log) lemmas in
    subst (λ (xs : List Entry). IsAccepted p (log ++ xs)) (sym (append-nil placed)) (accepted_more p log placed h accepted)
by_candidate p log lemmas by (Some values) h still_open all accepted closing solves =
    let placed = all_placed (length log) lemmas in
    let all_open = open_lemmas by (length log) lemmas values all closing in
    subst (λ (xs : List Entry). IsAccepted p xs) (append_assoc log placed (kept_candidate p (state_of log) by (Some values)))
    (kept_accepted p (log ++ placed) by (length (state_of log).bests) values (last_best (state_of log)) (accepted_more p log placed h accepted) (open_after log placed still_open all_open) (last_best_stays log placed all_open) solves)

pub landing_accepted : (p : Instance) (log : List Entry) (b : Batch) → IsAccepted p log → (state_of log).closed ≡ false → IsProperBatch p log b → IsAccepted p (log ++ (all_placed (length log) b.lemmas ++ kept_candidate p (state_of log) b.by b.candidate))
landing_accepted p log b h still_open proper =
    by_candidate p log b.lemmas b.by b.candidate h still_open proper.lemmas proper.accepted proper.closing proper.candidate
