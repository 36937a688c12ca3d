-- A learned lemma as a batch of its own: it is proper, and what it gives once it was traded.
use Rattle.std.proofs.Common.{◌≡◌, inl, inr, ⊎_elim, ℕ, ◌+◌, ◌-◌, ◌<◌, ◌≤◌, Bool, true, false, ◌||◌, List, [], ◌∷◌, ◌++◌, length, map, get_or, take, refl, sym, ap, subst, ◌∙◌, arith}
use Rattle.std.specs.Prelude.{◌==◌, ◌≢◌, Result, Ok, Err, IfOk, OnOk}
use Rattle.std.specs.declared.option.Option.TheVariants.{Some, None}
use Rattle.std.specs.List.{All}
use Rattle.std.proofs.lemmas.List.{length-map, length_push, take_all, take_more}
use Rattle.std.proofs.lemmas.List.Elements.{All-cons, All-head, All-nil, All-tail}
use Rattle.cgm_atom.specs.declared.constraints.Atom.{Atom}
use Rattle.cgm_atom.specs.declared.constraints.Clause.{Clause}
use Rattle.cgm_atom.specs.declared.entries.Entry.{Entry}
use Rattle.cgm_atom.specs.declared.entries.Entry.TheVariants.{Lemma}
use Rattle.cgm_atom.specs.declared.entries.Hint.{Hint}
use Rattle.cgm_atom.specs.declared.entries.Hint.TheVariants as hint
use Rattle.cgm_atom.specs.Acceptance.{IsClosed, first_fault}
use Rattle.cgm_atom.specs.Bounds.{Bounds}
use Rattle.cgm_atom.specs.ClauseAtoms.{AreKnown, left_in}
use Rattle.cgm_atom.specs.Constraints.{of_clause}
use Rattle.cgm_atom.specs.Instance.{Instance, var_count}
use Rattle.cgm_atom.specs.Limits.{max_workers}
use Rattle.cgm_atom.specs.LogState.{LogState, is_closing, state_of}
use Rattle.cgm_atom.specs.Narrowing.{is_false_in}
use Rattle.cgm_atom.specs.Placing.{IsBefore, placed, placed_entry}
use Rattle.cgm_atom.proofs.StateLemmas.{state_of-entries, state_of-push}
use Rattle.cgm_clauses.proofs.Standings.{left_as, made_is_true}
use Rattle.cgm_learn.specs.declared.learned.Learned.{Learned}
use Rattle.cgm_learn.specs.Learning.{IsAcceptedLemma, IsKnownHint, IsLemmaInRange, IsUnitAfterCut, IsUnitAtLast, lemma_by, state_with_pending}
use Rattle.cgm_log.specs.declared.batches.Batch.{Batch}
use Rattle.cgm_log.specs.Landing.{IsLemmaOf, IsProperBatch, with_landed}
use Rattle.cgm_log.proofs.Adding.{closed_stays, open_grows}
use Rattle.cgm_search.specs.declared.knowledge.Known.{Known}
use Rattle.cgm_search.specs.Knowing.{seen, seen_state}
use Rattle.cgm_search.specs.Resolving.{IsTaken, IsTradable}
use Rattle.cgm_search.specs.Storing.{IsSeenName}
use Rattle.cgm_search.specs.Trading.{HasLanded}
use Rattle.cgm_search.proofs.Absorbing.{next_atoms_known}
use Rattle.cgm_search.proofs.Keeping.{last_named}
use Rattle.cgm_trail.specs.Steps.{IsGiven}
use Rattle.cgm_trail.specs.TrailState.{IsOpenIn, TrailState, box_of, cut_trail, level_of}

-- ---- a proper batch

entry_count : (log : List Entry) → length (state_of log).entries ≡ length log
entry_count log = ap length (state_of-entries log) ∙ length-map log Some

known_before : (n : ℕ) (h : Hint) → IsKnownHint n 0 h → IsBefore n h
known_before n (hint.Clause number) known = tt
known_before n (hint.Row number) known = tt
known_before n (hint.Entry place) known = known
known_before n (hint.Own i) known = let low = known.0 in let high = known.1 in absurd (omega arith)
known_before n (hint.Cut ordinal part) known = tt

abbrev pub lemma_batch : ℕ → Entry → Batch
lemma_batch by e = record { by = by; lemmas = e ∷ []; candidate = None }

pub proper_lemma : (k : Known) (worker : ℕ) (l : Learned) → worker < max_workers → IsTradable k l → IsProperBatch k.problem (seen k) (lemma_batch worker (lemma_by worker l))
proper_lemma k worker l below tradable =
    let p : Instance = k.problem in
    let log : List Entry = seen k in
    record {
      worker = below;
      count = omega arith;
      lemmas =
          All-cons (IsLemmaOf worker (length log)) (lemma_by worker l) []
          (refl, tradable.range worker below, λ j d short. known_before (length log) (get_or l.hints j d) (tradable.hints j d short))
          (All-nil (IsLemmaOf worker (length log)));
      accepted = (
        subst (λ (n : ℕ). first_fault p (state_of log) (placed_entry n (lemma_by worker l)) ≡ None) (entry_count log) (tradable.accepted worker),
        tt,
      );
      closing = (λ _. (refl, refl), tt);
      candidate = tt;
    }

pub proper_empty : (p : Instance) (log : List Entry) (by : ℕ) → by < max_workers → IsProperBatch p log (record { by = by; lemmas = []; candidate = None })
proper_empty p log by below =
    record { worker = below; count = omega arith; lemmas = All-nil (IsLemmaOf by (length log)); accepted = tt; closing = tt; candidate = tt }

-- ---- once it was traded

abbrev taken_lemma : ℕ → ℕ → ℕ → Clause → List Hint → Entry
taken_lemma n by bound c hints = Lemma by c (map (placed n) hints) bound

no_atoms : (c : Clause) → c.atoms ≡ [] → (length c.atoms == 0) ≡ true
no_atoms c e = rw e refl

when_closing : (t s : Bool) → s ≡ true → (t || s) ≡ true
when_closing true s h = refl
when_closing false s h = h

closes : (log : List Entry) (n by bound : ℕ) (c : Clause) (hints : List Hint) → c.atoms ≡ [] → IsClosed (log ++ taken_lemma n by bound c hints ∷ [])
closes log n by bound c hints e =
    rw (state_of-push log (taken_lemma n by bound c hints))
    (when_closing (state_of log).closed (is_closing (taken_lemma n by bound c hints)) (no_atoms c e))

taken_by_test : (k : Known) (log : List Entry) (by bound : ℕ) (c : Clause) (hints : List Hint) (t : Bool) → (state_of log).closed ≡ t → seen k ≡ with_landed k.problem log (lemma_batch by (Lemma by c hints bound)) → IsTaken k c
taken_by_test k log by bound c hints true closed h =
    let same : log ≡ seen k = closed_stays k.problem log (lemma_batch by (Lemma by c hints bound)) closed ∙ sym h in
    let now : IsClosed (seen k) = subst (λ (xs : List Entry). IsClosed xs) same closed in
    record { closing = λ _. now; placed = inl now }
taken_by_test k log by bound c hints false still_open h =
    let e : Entry = taken_lemma (length log) by bound c hints in
    let now : log ++ e ∷ [] ≡ seen k = open_grows k.problem log (lemma_batch by (Lemma by c hints bound)) still_open ∙ sym h in
    let place : length log + 1 ≡ length (seen k) = sym (length_push log e) ∙ ap length now in
    record {
      closing = λ none. subst (λ (xs : List Entry). IsClosed xs) now (closes log (length log) by bound c hints none);
      placed =
          inr (subst (λ (xs : List Entry). IsSeenName k.problem (state_of xs) (hint.Entry (length xs)) (of_clause c)) now
          (subst (λ (n : ℕ). IsSeenName k.problem (state_of (log ++ e ∷ [])) (hint.Entry n) (of_clause c)) (sym (length_push log e))
          (last_named k.problem log by bound c (map (placed (length log)) hints))));
    }

pub taken : (k : Known) (old : List Entry) (by bound : ℕ) (c : Clause) (hints : List Hint) → HasLanded k.problem old (lemma_batch by (Lemma by c hints bound)) (seen k) → IsTaken k c
taken k old by bound c hints h =
    taken_by_test k (old ++ h.0) by bound c hints (state_of (old ++ h.0)).closed refl h.1

pub taken_on_ok : {T E : Type 0} (r : Result T E) (old new : Known) (b : Batch) (worker : ℕ) (l : Learned) → new.problem ≡ old.problem → b ≡ lemma_batch worker (lemma_by worker l) → OnOk r (HasLanded old.problem (seen old) b (seen new)) → OnOk r (IsTaken new l.clause)
taken_on_ok (Ok x) old new b worker l e f h =
    taken new (seen old) worker l.bound l.clause l.hints
    (subst (λ (a : Batch). HasLanded new.problem (seen old) a (seen new)) f (subst (λ (q : Instance). HasLanded q (seen old) b (seen new)) (sym e) h))
taken_on_ok (Err x) old new b worker l e f h = tt

pub open_placed : (k : Known) (c : Clause) → IsTaken k c → (seen_state k).closed ≡ false → IsSeenName k.problem (seen_state k) (hint.Entry (length (seen k))) (of_clause c)
open_placed k c h still_open =
    ⊎_elim (λ (closed : IsClosed (seen k)). absurd (let wrong = sym still_open ∙ closed in cc))
    (λ (name : IsSeenName k.problem (seen_state k) (hint.Entry (length (seen k))) (of_clause c)). name) h.placed

-- ---- what it gives

last_left : (b : Bounds) (others : List Atom) (a : Atom) → All (λ x. is_false_in b x ≡ true) others → is_false_in b a ≡ false → left_in b (others ++ a ∷ []) ≡ a ∷ []
last_left b [] a h k = rw k refl
last_left b (x ∷ others) a h k =
    rw (All-head (λ y. is_false_in b y ≡ true) x others h)
    (last_left b others a (All-tail (λ y. is_false_in b y ≡ true) x others h) k)

-- the last atom, where it is open and the others are false
pub given_by_last : (b : Bounds) (c : Clause) (others : List Atom) (a : Atom) → c.atoms ≡ others ++ a ∷ [] → length b.upper ≡ length b.lower → All (λ x. is_false_in b x ≡ true) others → IsOpenIn b a → IsGiven b (of_clause c) a
given_by_last b c others a parts even falses undecided =
    let left = left_as b c (a ∷ []) (ap (left_in b) parts ∙ last_left b others a falses undecided.not_false) in
    record {
      cause = rw left (made_is_true b a undecided.known even);
      exact = rw left refl;
    }

pub same_last : (others others' : List Atom) (a a' : Atom) → others ++ a ∷ [] ≡ others' ++ a' ∷ [] → (others ≡ others') × (a ≡ a')
same_last [] [] a a' e = (refl, cc)
same_last [] (x ∷ []) a a' e = absurd (cc)
same_last [] (x ∷ y ∷ others') a a' e = absurd (cc)
same_last (x ∷ []) [] a a' e = absurd (cc)
same_last (x ∷ y ∷ others) [] a a' e = absurd (cc)
same_last (x ∷ others) (x' ∷ others') a a' e =
    let rest = same_last others others' a a' (cc) in
    let first : x ≡ x' = cc in
    (let more = rest.0 in cc, rest.1)

-- ---- what is learned without pending lemmas

pub learned_tradable : {E : Type 0} (k : Known) (s : LogState) (pending : List Entry) (r : Result Learned E) → s ≡ seen_state k → pending ≡ [] → IfOk r (IsAcceptedLemma k.problem s pending) → IfOk r (λ l. All (IsKnownHint (length s.entries) (length pending)) l.hints) → IfOk r IsLemmaInRange → IfOk r (IsTradable k)
learned_tradable k s pending (Ok l) e f accepted known range = record {
  accepted =
      subst (λ (t : LogState). IsAcceptedLemma k.problem t [] l) e
      (subst (λ (xs : List Entry). IsAcceptedLemma k.problem s xs l) f accepted);
  hints =
      subst (λ (n : ℕ). All (IsKnownHint n 0) l.hints) (ap (λ (t : LogState). length t.entries) e ∙ entry_count (seen k))
      (subst (λ (xs : List Entry). All (IsKnownHint (length s.entries) (length xs)) l.hints) f known);
  range = range;
}
learned_tradable k s pending (Err x) e f accepted known range = tt

pub learned_atoms : {E : Type 0} (p : Instance) (s : LogState) (pending : List Entry) (r : Result Learned E) → IfOk r (IsAcceptedLemma p s pending) → IfOk r (λ l. AreKnown (var_count p) l.clause.atoms)
learned_atoms p s pending (Ok l) h =
    next_atoms_known p (state_with_pending s pending) 0 l.bound l.clause (map (placed (length s.entries)) l.hints) (h 0)
learned_atoms p s pending (Err x) h = tt

-- ---- the last atom

pub front_and_last : (atoms : List Atom) (d : Atom) → 1 ≤ length atoms → (others : List Atom) × (atoms ≡ others ++ get_or atoms (length atoms - 1) d ∷ [])
front_and_last atoms d h = (
  take (length atoms - 1) atoms,
  sym (take_all (length atoms - 1 + 1) atoms (omega arith)) ∙ take_more atoms (length atoms - 1) d (omega arith),
)

-- a clause that is unit gives its last atom
pub given_by_unit : (b : Bounds) (c : Clause) (a : Atom) → length b.upper ≡ length b.lower → IsUnitAtLast b c.atoms → (others : List Atom) × (c.atoms ≡ others ++ a ∷ []) → IsGiven b (of_clause c) a
given_by_unit b c a even unit last =
    let same = same_last last.0 unit.others a unit.last (sym last.1 ∙ unit.parts) in
    given_by_last b c unit.others a (unit.parts ∙ ap (λ (x : Atom). unit.others ++ x ∷ []) (sym same.1)) even unit.false_others
    (subst (λ (x : Atom). IsOpenIn b x) (sym same.1) unit.open_last)

not_empty : (others : List Atom) (a : Atom) → others ++ a ∷ [] ≢ []
not_empty [] a = λ e. absurd (cc)
not_empty (x ∷ others) a = λ e. absurd (cc)

-- what was learned gives its last atom after the cut
pub given_after_cut : (t : TrailState) (l : Learned) (a : Atom) → length (box_of (cut_trail l.level t)).upper ≡ length (box_of (cut_trail l.level t)).lower → IsUnitAfterCut t l → (others : List Atom) × (l.clause.atoms ≡ others ++ a ∷ []) → IsGiven (box_of (cut_trail l.level t)) (of_clause l.clause) a
given_after_cut t l a even unit last =
    let there : l.clause.atoms ≢ [] = λ none. not_empty last.0 a (sym last.1 ∙ none) in
    given_by_unit (box_of (cut_trail l.level t)) l.clause a even (unit there).1 last

-- its level is less than the trail's, and its last atom is open after the cut
pub open_after_cut : (t : TrailState) (l : Learned) (a : Atom) → IsUnitAfterCut t l → (others : List Atom) × (l.clause.atoms ≡ others ++ a ∷ []) → (l.level < level_of t.changes) × IsOpenIn (box_of (cut_trail l.level t)) a
open_after_cut t l a unit last =
    let there : l.clause.atoms ≢ [] = λ none. not_empty last.0 a (sym last.1 ∙ none) in
    let found = unit there in
    let same = same_last last.0 found.1.others a found.1.last (sym last.1 ∙ found.1.parts) in
    (found.0, subst (λ (x : Atom). IsOpenIn (box_of (cut_trail l.level t)) x) (sym same.1) found.1.open_last)
