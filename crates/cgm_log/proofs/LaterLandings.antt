-- A batch that is proper after some entries is proper after more, where the log isn't closed: its hints name and carry there what they did.
use Rattle.std.proofs.Common.{◌≡◌, ℕ, zero, suc, ◌+◌, ◌-◌, ◌≤◌, Bool, true, false, not, cond, max, ◌||◌, List, [], ◌∷◌, ◌++◌, length, map, refl, sym, ap, subst, ◌∙◌, append_assoc, append-nil, arith, take, drop}
use Rattle.std.specs.Prelude.{ℤ, IsTrue, is_none, slice_get, ◌==◌}
use Rattle.std.specs.declared.option.Option.{Option}
use Rattle.std.specs.declared.option.Option.TheVariants.{Some, None}
use Rattle.std.specs.List.{All, position_from}
use Rattle.std.specs.Option.{option_and_then, option_map, option_map_or}
use Rattle.std.proofs.lemmas.Bool.{false≢true}
use Rattle.std.proofs.lemmas.List.{map-append, length-append, take-append-drop}
use Rattle.std.proofs.lemmas.List.Elements.{All-head, All-tail, All-weaker}
use Rattle.cgm_atom.specs.declared.constraints.Clause.{Clause}
use Rattle.cgm_atom.specs.declared.entries.BadStep.{BadStep}
use Rattle.cgm_atom.specs.declared.entries.BadStep.TheVariants as fault
use Rattle.cgm_atom.specs.declared.entries.Entry.{Entry}
use Rattle.cgm_atom.specs.declared.entries.Entry.TheVariants.{Best, Lemma}
use Rattle.cgm_atom.specs.declared.entries.Hint.{Hint}
use Rattle.cgm_atom.specs.declared.entries.Hint.TheVariants as hint
use Rattle.cgm_atom.specs.Acceptance.{IsAcceptedAfter, faults, first_fault, is_refuted}
use Rattle.cgm_atom.specs.Atoms.{negation}
use Rattle.cgm_atom.specs.Bounds.{Bounds}
use Rattle.cgm_atom.specs.Constraints.{Constraint, left_by_named, of_clause}
use Rattle.cgm_atom.specs.Cut.{cut}
use Rattle.cgm_atom.specs.Entailment.{best_values}
use Rattle.cgm_atom.specs.Instance.{Instance, fault_unless, first_some, var_count, vector}
use Rattle.cgm_atom.specs.LogState.{LogState, all_narrowed, best_at, carried, greatest_carried, is_empty_clause, item_at, lemma_bound, lemma_clause, live_at, named, narrowed, state_of, state_with}
use Rattle.cgm_atom.specs.Narrowing.{all_assumed}
use Rattle.cgm_atom.specs.Placing.{IsBefore, all_placed, placed, placed_entry}
use Rattle.cgm_atom.specs.Ranges.{IsInRange}
use Rattle.cgm_atom.proofs.LaterBounds.{AreNone, none_fails, passes}
use Rattle.cgm_atom.proofs.LongerLogs.{named_stays}
use Rattle.cgm_atom.proofs.PlacedHints.{placed_carry_pending, placed_name_pending}
use Rattle.cgm_atom.proofs.StateLemmas.{best_at-log, best_values-append, live_at-log, state_of-push}
use Rattle.cgm_log.specs.declared.batches.Batch.{Batch}
use Rattle.cgm_log.specs.Landing.{IsLemmaOf, IsProperBatch}
use Rattle.cgm_log.specs.Laws.{ProperBatchesStay}

-- ---- two states in which hints name and carry the same

pub record IsAlike (p : Instance) (s t : LogState) (h k : Hint) : Type 0 where
  pub named : named p t k ≡ named p s h
  pub carried : carried t k ≡ carried s h

abbrev pub AreAlike : Instance → LogState → LogState → List Hint → List Hint → Type 0
AreAlike p s t [] [] = Unit {0}
AreAlike p s t [] (k ∷ ks) = ⊥
AreAlike p s t (h ∷ hs) [] = ⊥
AreAlike p s t (h ∷ hs) (k ∷ ks) = IsAlike p s t h k × AreAlike p s t hs ks

and_then_same : {X Y : Type 0} (f g : X → Option Y) (o o' : Option X) → o' ≡ o → ((x : X) → g x ≡ f x) → option_and_then g o' ≡ option_and_then f o
and_then_same f g None o' e each = ap (option_and_then g) e
and_then_same f g (Some x) o' e each = ap (option_and_then g) e ∙ each x

narrowed_alike : (p : Instance) (s t : LogState) (b : Bounds) (hs ks : List Hint) → AreAlike p s t hs ks → all_narrowed p t b ks ≡ all_narrowed p s b hs
narrowed_alike p s t b [] [] h = refl
narrowed_alike p s t b [] (y ∷ ks) h = absurd h
narrowed_alike p s t b (x ∷ hs) [] h = absurd h
narrowed_alike p s t b (x ∷ hs) (y ∷ ks) h =
    and_then_same (λ b'. all_narrowed p s b' hs) (λ b'. all_narrowed p t b' ks) (narrowed p s b x) (narrowed p t b y) (ap (left_by_named b) h.0.named)
    (λ b'. narrowed_alike p s t b' hs ks h.1)

refuted_alike : (p : Instance) (s t : LogState) (c : Clause) (hs ks : List Hint) → AreAlike p s t hs ks → is_refuted p t c ks ≡ is_refuted p s c hs
unfolding is_refuted
refuted_alike p s t c hs ks h =
    ap is_none (and_then_same (λ b. all_narrowed p s b hs) (λ b. all_narrowed p t b ks) (all_assumed p.bounds (map negation c.atoms)) (all_assumed p.bounds (map negation c.atoms)) refl
    (λ b. narrowed_alike p s t b hs ks h))

carried_alike : (p : Instance) (s t : LogState) (hs ks : List Hint) → AreAlike p s t hs ks → greatest_carried t ks ≡ greatest_carried s hs
carried_alike p s t [] [] h = refl
carried_alike p s t [] (y ∷ ks) h = absurd h
carried_alike p s t (x ∷ hs) [] h = absurd h
carried_alike p s t (x ∷ hs) (y ∷ ks) h =
    ap (λ (n : ℕ). max n (greatest_carried t ks)) h.0.carried ∙ ap (max (carried s x)) (carried_alike p s t hs ks h.1)

missing_alike : (p : Instance) (s t : LogState) (i : ℕ) (hs ks : List Hint) → AreAlike p s t hs ks → position_from (λ h. is_none (named p t h)) i ks ≡ position_from (λ h. is_none (named p s h)) i hs
missing_alike p s t i [] [] h = refl
missing_alike p s t i [] (y ∷ ks) h = absurd h
missing_alike p s t i (x ∷ hs) [] h = absurd h
missing_alike p s t i (x ∷ hs) (y ∷ ks) h =
    ap (λ (o : Option Constraint). cond (is_none o) (Some i) (position_from (λ k. is_none (named p t k)) (i + 1) ks)) h.0.named
    ∙ ap (λ (o : Option ℕ). cond (is_none (named p s x)) (Some i) o) (missing_alike p s t (i + 1) hs ks h.1)

-- ---- the tests of a lemma

all_pass : (closed : Bool) (atoms hints : Option BadStep) (bound : Bool) (why : BadStep) (refuted : Bool) → closed ≡ false → atoms ≡ None → hints ≡ None → bound ≡ true → refuted ≡ true
    → first_some (fault_unless (not closed) fault.AfterEnd ∷ atoms ∷ hints ∷ fault_unless bound why ∷ fault_unless refuted fault.NoConflict ∷ []) ≡ None
all_pass closed atoms hints bound why refuted h k l m n = rw (h, k, l, m, n) refl

lemma_passes : (p : Instance) (s t : LogState) (by : ℕ) (clause : Clause) (hs ks : List Hint) (bound : ℕ) → first_fault p s (Lemma by clause hs bound) ≡ None → t.closed ≡ false → AreAlike p s t hs ks → first_fault p t (Lemma by clause ks bound) ≡ None
unfolding first_fault
lemma_passes p s t by clause hs ks bound h still_open alike =
    let fails : AreNone (faults p s (Lemma by clause hs bound)) = none_fails (faults p s (Lemma by clause hs bound)) h in
    all_pass t.closed _ (option_map (λ i. fault.Hint (i + 1)) (position_from (λ k. is_none (named p t k)) 0 ks)) (bound == greatest_carried t ks) (fault.Bound (greatest_carried t ks)) (is_refuted p t clause ks)
    still_open fails.1.0
    (ap (option_map (λ i. fault.Hint (i + 1))) (missing_alike p s t 0 hs ks alike) ∙ fails.1.1.0)
    (ap (λ (n : ℕ). bound == n) (carried_alike p s t hs ks alike) ∙ passes _ (fault.Bound (greatest_carried s hs)) fails.1.1.1.0)
    (refuted_alike p s t clause hs ks alike ∙ passes _ fault.NoConflict fails.1.1.1.1.0)

opposite : (t : Bool) → not t ≡ true → t ≡ false
opposite true h = absurd (false≢true h)
opposite false h = refl

open_before : (p : Instance) (s : LogState) (by : ℕ) (clause : Clause) (hs : List Hint) (bound : ℕ) → first_fault p s (Lemma by clause hs bound) ≡ None → s.closed ≡ false
unfolding first_fault
open_before p s by clause hs bound h =
    let fails : AreNone (faults p s (Lemma by clause hs bound)) = none_fails (faults p s (Lemma by clause hs bound)) h in
    opposite s.closed (passes (not s.closed) fault.AfterEnd fails.0)

-- ---- what a hint names among the entries that were seen and the pending lemmas

in_front : {X : Type 0} (xs more : List X) (place : ℕ) → place ≤ length xs → item_at (xs ++ more) place ≡ item_at xs place
in_front xs more zero le = refl
in_front [] more (suc i) le = absurd (omega arith)
in_front (x ∷ xs) more (suc zero) le = refl
in_front (x ∷ xs) more (suc (suc i)) le = in_front xs more (suc i) (omega arith)

live_in_front : (log more : List Entry) (place : ℕ) → place ≤ length log → live_at (state_of (log ++ more)) place ≡ live_at (state_of log) place
live_in_front log more place le =
    live_at-log (log ++ more) place ∙ in_front log more place le ∙ sym (live_at-log log place)

entry_alike : (p : Instance) (s t : LogState) (place : ℕ) → live_at t place ≡ live_at s place → IsAlike p s t (hint.Entry place) (hint.Entry place)
unfolding named carried
entry_alike p s t place e = record {
  named = ap (λ (o : Option Entry). option_map of_clause (option_and_then lemma_clause o)) e;
  carried = ap (λ (o : Option Entry). option_map_or lemma_bound o 0) e;
}

clause_alike : (p : Instance) (s t : LogState) (n : ℕ) → IsAlike p s t (hint.Clause n) (hint.Clause n)
unfolding named carried
clause_alike p s t n = record { named = refl; carried = refl }

row_alike : (p : Instance) (s t : LogState) (n : ℕ) → IsAlike p s t (hint.Row n) (hint.Row n)
unfolding named carried
row_alike p s t n = record { named = refl; carried = refl }

cut_named : (p : Instance) (s t : LogState) (ordinal part : ℕ) → best_at t ordinal ≡ best_at s ordinal → named p t (hint.Cut ordinal part) ≡ named p s (hint.Cut ordinal part)
unfolding named
cut_named p s t ordinal part e =
    ap (λ (o : Option (List ℤ)). option_map of_clause (option_and_then (λ values. slice_get (cut p.objectives (vector p values)) part) o)) e

cut_alike : (p : Instance) (s t : LogState) (ordinal part : ℕ) → named p t (hint.Cut ordinal part) ≡ named p s (hint.Cut ordinal part) → IsAlike p s t (hint.Cut ordinal part) (hint.Cut ordinal part)
unfolding carried
cut_alike p s t ordinal part e = record { named = e; carried = refl }

bests_of_placed : (n : ℕ) (entries : List Entry) → best_values (all_placed n entries) ≡ best_values entries
bests_of_placed n [] = refl
bests_of_placed n (Best by values ∷ entries) = ap (λ (vs : List (List ℤ)). values ∷ vs) (bests_of_placed n entries)
bests_of_placed n (Lemma by clause hints bound ∷ entries) = bests_of_placed n entries

-- lemmas add no best
same_bests : (seen done : List Entry) (n ordinal : ℕ) → best_values done ≡ [] → best_at (state_of (seen ++ all_placed n done)) ordinal ≡ best_at (state_of seen) ordinal
same_bests seen done n ordinal none =
    best_at-log (seen ++ all_placed n done) ordinal
    ∙ ap (λ (bests : List (List ℤ)). item_at bests ordinal)
    (best_values-append seen (all_placed n done) ∙ ap (λ (bests : List (List ℤ)). best_values seen ++ bests) (bests_of_placed n done ∙ none) ∙ append-nil (best_values seen))
    ∙ sym (best_at-log seen ordinal)

-- the log on which the batch was made, and the one on which it lands, after the same lemmas
abbrev sooner : List Entry → List Entry → List Entry
sooner seen done = seen ++ all_placed (length seen) done

abbrev later : List Entry → List Entry → List Entry → List Entry
later seen more done = (seen ++ more) ++ all_placed (length (seen ++ more)) done

own_alike : (p : Instance) (seen more done : List Entry) (i : ℕ) → IsAlike p (state_of (sooner seen done)) (state_of (later seen more done)) (placed (length seen) (hint.Own (i + 1))) (placed (length (seen ++ more)) (hint.Own (i + 1)))
own_alike p seen more done i = record {
  named = placed_name_pending p (seen ++ more) done i ∙ sym (placed_name_pending p seen done i);
  carried = placed_carry_pending (seen ++ more) done i ∙ sym (placed_carry_pending seen done i);
}

cut_stays : (p : Instance) (seen more done : List Entry) (ordinal part : ℕ) (o : Option Constraint) → best_values done ≡ [] → named p (state_of (sooner seen done)) (hint.Cut ordinal part) ≡ o → is_none o ≡ false → named p (state_of (later seen more done)) (hint.Cut ordinal part) ≡ named p (state_of (sooner seen done)) (hint.Cut ordinal part)
cut_stays p seen more done ordinal part None none e there = absurd (false≢true (sym there))
cut_stays p seen more done ordinal part (Some c) none e there =
    let names : named p (state_of seen) (hint.Cut ordinal part) ≡ Some c = sym (cut_named p (state_of seen) (state_of (sooner seen done)) ordinal part (same_bests seen done (length seen) ordinal none)) ∙ e in
    let placed_later : List Entry = all_placed (length (seen ++ more)) done in
    subst (λ (log : List Entry). named p (state_of log) (hint.Cut ordinal part) ≡ Some c) (sym (append_assoc seen more placed_later)) (named_stays p seen (more ++ placed_later) (hint.Cut ordinal part) c names)
    ∙ sym e

hint_alike : (p : Instance) (seen more done : List Entry) (h : Hint) → best_values done ≡ [] → IsBefore (length seen) h → is_none (named p (state_of (sooner seen done)) (placed (length seen) h)) ≡ false
    → IsAlike p (state_of (sooner seen done)) (state_of (later seen more done)) (placed (length seen) h) (placed (length (seen ++ more)) h)
hint_alike p seen more done (hint.Clause n) none before there = clause_alike p _ _ n
hint_alike p seen more done (hint.Row n) none before there = row_alike p _ _ n
hint_alike p seen more done (hint.Entry place) none before there =
    let placed_later : List Entry = all_placed (length (seen ++ more)) done in
    entry_alike p (state_of (sooner seen done)) (state_of (later seen more done)) place
    (ap (λ (log : List Entry). live_at (state_of log) place) (append_assoc seen more placed_later)
    ∙ live_in_front seen (more ++ placed_later) place before
    ∙ sym (live_in_front seen (all_placed (length seen) done) place before))
hint_alike p seen more done (hint.Own zero) none before there = absurd (omega arith)
hint_alike p seen more done (hint.Own (suc i)) none before there =
    let next : i + 1 ≡ suc i = omega arith in
    subst (λ (n : ℕ). IsAlike p (state_of (sooner seen done)) (state_of (later seen more done)) (placed (length seen) (hint.Own n)) (placed (length (seen ++ more)) (hint.Own n))) next (own_alike p seen more done i)
hint_alike p seen more done (hint.Cut ordinal part) none before there =
    cut_alike p (state_of (sooner seen done)) (state_of (later seen more done)) ordinal part
    (cut_stays p seen more done ordinal part (named p (state_of (sooner seen done)) (hint.Cut ordinal part)) none refl there)

parts_of_none : (t : Bool) (i : ℕ) (o : Option ℕ) → cond t (Some i) o ≡ None → (t ≡ false) × (o ≡ None)
parts_of_none true i o h = absurd (cc)
parts_of_none false i o h = (refl, h)

hints_alike : (p : Instance) (seen more done : List Entry) (i : ℕ) (hints : List Hint) → best_values done ≡ [] → All (IsBefore (length seen)) hints
    → position_from (λ h. is_none (named p (state_of (sooner seen done)) h)) i (map (placed (length seen)) hints) ≡ None
    → AreAlike p (state_of (sooner seen done)) (state_of (later seen more done)) (map (placed (length seen)) hints) (map (placed (length (seen ++ more))) hints)
hints_alike p seen more done i [] none before there = tt
hints_alike p seen more done i (h ∷ hints) none before there =
    let parts = parts_of_none (is_none (named p (state_of (sooner seen done)) (placed (length seen) h))) i _ there in (
      hint_alike p seen more done h none (All-head (IsBefore (length seen)) h hints before) parts.0,
      hints_alike p seen more done (i + 1) hints none (All-tail (IsBefore (length seen)) h hints before) parts.1,
    )

-- ---- the lemmas

unmapped : {X Y : Type 0} (f : X → Y) (o : Option X) → option_map f o ≡ None → o ≡ None
unmapped f None e = refl
unmapped f (Some x) e = absurd (cc)

no_missing : (p : Instance) (s : LogState) (by : ℕ) (clause : Clause) (hs : List Hint) (bound : ℕ) → first_fault p s (Lemma by clause hs bound) ≡ None → position_from (λ h. is_none (named p s h)) 0 hs ≡ None
unfolding first_fault
no_missing p s by clause hs bound h =
    let fails : AreNone (faults p s (Lemma by clause hs bound)) = none_fails (faults p s (Lemma by clause hs bound)) h in
    unmapped (λ (i : ℕ). fault.Hint (i + 1)) (position_from (λ k. is_none (named p s k)) 0 hs) fails.1.1.0

not_later : (s t : Bool) → (IsTrue t → IsTrue s) → s ≡ false → t ≡ false
not_later s true h e = absurd (false≢true (sym e ∙ h refl))
not_later s false h e = refl

either_later : (s t x : Bool) → (IsTrue t → IsTrue s) → IsTrue (t || x) → IsTrue (s || x)
either_later s true x h k = rw (h refl) refl
either_later true false x h k = refl
either_later false false x h k = k

-- one more placed lemma
placed_push : (log done : List Entry) (n : ℕ) (e : Entry) → log ++ all_placed n (done ++ e ∷ []) ≡ (log ++ all_placed n done) ++ placed_entry n e ∷ []
placed_push log done n e =
    ap (λ (xs : List Entry). log ++ xs) (map-append (placed_entry n) done (e ∷ [])) ∙ sym (append_assoc log (all_placed n done) (placed_entry n e ∷ []))

state_push : (log done : List Entry) (n : ℕ) (e : Entry) → state_with (state_of (log ++ all_placed n done)) (placed_entry n e) ≡ state_of (log ++ all_placed n (done ++ e ∷ []))
state_push log done n e =
    sym (state_of-push (log ++ all_placed n done) (placed_entry n e)) ∙ ap state_of (sym (placed_push log done n e))

more_lemmas : (done : List Entry) (by : ℕ) (clause : Clause) (hints : List Hint) (bound : ℕ) → best_values done ≡ [] → best_values (done ++ Lemma by clause hints bound ∷ []) ≡ []
more_lemmas done by clause hints bound none = best_values-append done (Lemma by clause hints bound ∷ []) ∙ append-nil (best_values done) ∙ none

later_accepted : (p : Instance) (seen more done rest : List Entry) (by : ℕ) → best_values done ≡ [] → All (IsLemmaOf by (length seen)) rest
    → (IsTrue (state_of (later seen more done)).closed → IsTrue (state_of (sooner seen done)).closed)
    → IsAcceptedAfter p (state_of (sooner seen done)) (all_placed (length seen) rest)
    → IsAcceptedAfter p (state_of (later seen more done)) (all_placed (length (seen ++ more)) rest)
later_accepted p seen more done [] by none all closing accepted = tt
later_accepted p seen more done (Best maker values ∷ rest) by none all closing accepted =
    absurd (All-head (IsLemmaOf by (length seen)) (Best maker values) rest all)
later_accepted p seen more done (Lemma maker clause hints bound ∷ rest) by none all closing accepted =
    let e : Entry = Lemma maker clause hints bound in
    let n : ℕ = length seen in
    let n' : ℕ = length (seen ++ more) in
    let s : LogState = state_of (sooner seen done) in
    let t : LogState = state_of (later seen more done) in
    let own : IsLemmaOf by n e = All-head (IsLemmaOf by n) e rest all in
    let alike = hints_alike p seen more done 0 hints none own.2 (no_missing p s maker clause (map (placed n) hints) bound accepted.0) in
    let still_open : t.closed ≡ false = not_later s.closed t.closed closing (open_before p s maker clause (map (placed n) hints) bound accepted.0) in
    let nexts : state_with s (placed_entry n e) ≡ state_of (sooner seen (done ++ e ∷ [])) = state_push seen done n e in
    let nextt : state_with t (placed_entry n' e) ≡ state_of (later seen more (done ++ e ∷ [])) = state_push (seen ++ more) done n' e in (
      lemma_passes p s t maker clause (map (placed n) hints) (map (placed n') hints) bound accepted.0 still_open alike,
      subst (λ (x : LogState). IsAcceptedAfter p x (all_placed n' rest)) (sym nextt)
          (later_accepted p seen more (done ++ e ∷ []) rest by (more_lemmas done maker clause hints bound none) (All-tail (IsLemmaOf by n) e rest all)
          (λ h. subst (λ (x : LogState). IsTrue x.closed) nexts (either_later s.closed t.closed (is_empty_clause clause) closing (subst (λ (x : LogState). IsTrue x.closed) (sym nextt) h)))
          (subst (λ (x : LogState). IsAcceptedAfter p x (all_placed n rest)) nexts accepted.1)),
    )

-- ---- the batch

before_more : (n n' : ℕ) (h : Hint) → n ≤ n' → IsBefore n h → IsBefore n' h
before_more n n' (hint.Clause number) le before = tt
before_more n n' (hint.Row number) le before = tt
before_more n n' (hint.Entry place) le before = omega (arith, before)
before_more n n' (hint.Own i) le before = before
before_more n n' (hint.Cut ordinal part) le before = tt

lemma_of_more : (by n n' : ℕ) (e : Entry) → n ≤ n' → IsLemmaOf by n e → IsLemmaOf by n' e
lemma_of_more by n n' (Best maker values) le h = absurd h
lemma_of_more by n n' (Lemma maker clause hints bound) le h =
    (h.0, h.1, All-weaker (IsBefore n) (IsBefore n') (λ x before. before_more n n' x le before) hints h.2)

begins : (seen more : List Entry) → (state_of (seen ++ more)).closed ≡ false → IsTrue (state_of (later seen more [])).closed → IsTrue (state_of (sooner seen [])).closed
begins seen more still_open h =
    absurd (false≢true (sym still_open ∙ subst (λ (log : List Entry). IsTrue (state_of log).closed) (append-nil (seen ++ more)) h))

pub proper_later : ProperBatchesStay
proper_later p seen more b still_open proper =
    let le : length seen ≤ length (seen ++ more) = omega (arith, length-append seen more) in
    record {
      worker = proper.worker;
      count = proper.count;
      lemmas = All-weaker (IsLemmaOf b.by (length seen)) (IsLemmaOf b.by (length (seen ++ more))) (λ e h. lemma_of_more b.by (length seen) (length (seen ++ more)) e le h) b.lemmas proper.lemmas;
      accepted =
          subst (λ (log : List Entry). IsAcceptedAfter p (state_of log) (all_placed (length (seen ++ more)) b.lemmas)) (append-nil (seen ++ more))
          (later_accepted p seen more [] b.lemmas b.by refl proper.lemmas (begins seen more still_open)
          (subst (λ (log : List Entry). IsAcceptedAfter p (state_of log) (all_placed (length seen) b.lemmas)) (sym (append-nil seen)) proper.accepted));
      closing = proper.closing;
      candidate = proper.candidate;
    }

-- a batch that is proper after the first entries of an open log is proper after all of them
pub proper_on_log : (p : Instance) (log : List Entry) (seen : ℕ) (b : Batch) → (state_of log).closed ≡ false → IsProperBatch p (take seen log) b → IsProperBatch p log b
proper_on_log p log seen b still_open proper =
    let whole : take seen log ++ drop seen log ≡ log = take-append-drop seen log in
    subst (λ (xs : List Entry). IsProperBatch p xs b) whole
    (proper_later p (take seen log) (drop seen log) b (subst (λ (xs : List Entry). (state_of xs).closed ≡ false) (sym whole) still_open) proper)
