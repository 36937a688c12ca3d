-- What a store has for a log, it has for the log with one more entry, once what that entry gives is added.
use Rattle.std.proofs.Common.{◌≡◌, inl, inr, ⊎_elim, ℕ, zero, suc, ◌+◌, ◌≤◌, Bool, true, false, not, cond, List, [], ◌∷◌, ◌++◌, length, refl, ap, sym, subst, ◌∙◌, append-nil, add-one, length-append, arith}
use Rattle.std.specs.Prelude.{◌⊎◌, ℤ, slice_get}
use Rattle.std.specs.declared.option.Option.{Option}
use Rattle.std.specs.declared.option.Option.TheVariants.{Some, None}
use Rattle.std.specs.List.{All, Contains, filter, last_or}
use Rattle.std.specs.Option.{option_and_then, option_map}
use Rattle.std.proofs.lemmas.List.{length-map, length_push}
use Rattle.std.proofs.lemmas.List.Elements.{All-append, All-cons, All-contains, All-filter, All-nil, All-push, All-weaker, Contains-append_left, Contains-append_right, Contains-push, filter-append}
use Rattle.cgm_atom.specs.declared.constraints.Clause.{Clause}
use Rattle.cgm_atom.specs.declared.entries.Entry.{Entry}
use Rattle.cgm_atom.specs.declared.entries.Entry.TheVariants.{Best, Lemma}
use Rattle.cgm_atom.specs.declared.entries.Hint.{Hint}
use Rattle.cgm_atom.specs.declared.entries.Hint.TheVariants as hint
use Rattle.cgm_atom.specs.Bounds.{Bounds}
use Rattle.cgm_atom.specs.Constraints.{Constraint, left_by, of_clause, of_row}
use Rattle.cgm_atom.specs.Cut.{cut}
use Rattle.cgm_atom.specs.Entailment.{best_values}
use Rattle.cgm_atom.specs.Instance.{Instance, vector}
use Rattle.cgm_atom.specs.LogState.{LogState, best_at, item_at, last_best, lemma_clause, live_at, named, state_of}
use Rattle.cgm_atom.proofs.LongerLogs.{named_stays}
use Rattle.cgm_atom.proofs.StateLemmas.{best_values-append, count_of_bests, last_best_of_log, last_of_pushed, live_at-log, state_of-entries}
use Rattle.cgm_clauses.specs.declared.named.Named.{Named}
use Rattle.cgm_clauses.specs.StoreState.{IsStoreOf, StoreState, all_clauses, numbered}
use Rattle.cgm_clauses.proofs.Naming.{quiet_store}
use Rattle.cgm_learn.specs.Learning.{IsConflictIn}
use Rattle.cgm_search.specs.Settling.{IsQuietRound, IsRoundName}
use Rattle.cgm_search.specs.Storing.{HasShortLemmas, IsSeenName, IsStoreFor, cut_named, is_of_cut, last_cut, lemma_named, short_length, store_after, without_cut}
use Rattle.cgm_trail.specs.TrailState.{IsAtRest}

-- ---- items of a longer list

got_last : {X : Type 0} (xs : List X) (x : X) → slice_get (xs ++ x ∷ []) (length xs) ≡ Some x
got_last [] x = refl
got_last (y ∷ xs) x = got_last xs x

item_last : {X : Type 0} (xs : List X) (x : X) → item_at (xs ++ x ∷ []) (length xs + 1) ≡ Some x
item_last xs x = rw (add-one (length xs)) (got_last xs x)

-- an item of a list with one more is one of the list, or the last
pushed_item : {X : Type 0} (xs : List X) (x : X) (place : ℕ) (y : X) → item_at (xs ++ x ∷ []) place ≡ Some y → (item_at xs place ≡ Some y) ⊎ ((place ≡ length xs + 1) × (x ≡ y))
pushed_item xs x zero y h = absurd (cc)
pushed_item [] x (suc zero) y h = inr (omega arith, cc)
pushed_item [] x (suc (suc i)) y h = absurd (cc)
pushed_item (z ∷ xs) x (suc zero) y h = inl h
pushed_item (z ∷ xs) x (suc (suc i)) y h =
    ⊎_elim (λ old. inl old) (λ last. inr (let e = last.0 in omega arith, last.1)) (pushed_item xs x (suc i) y h)

entry_count : (log : List Entry) → length (state_of log).entries ≡ length log
entry_count log = ap length (state_of-entries log) ∙ length-map log Some

more_entries : (log more : List Entry) → length (state_of log).entries ≤ length (state_of (log ++ more)).entries
more_entries log more =
    let few = entry_count log in
    let many = entry_count (log ++ more) in
    let both = length-append log more in
    omega arith

-- ---- names in a longer log

pub seen_longer : (p : Instance) (log more : List Entry) (h : Hint) (k : Constraint) → IsSeenName p (state_of log) h k → IsSeenName p (state_of (log ++ more)) h k
seen_longer p log more (hint.Clause n) k h = (tt, named_stays p log more (hint.Clause n) k h.1)
seen_longer p log more (hint.Row n) k h = (tt, named_stays p log more (hint.Row n) k h.1)
seen_longer p log more (hint.Entry place) k h =
    (let more' = more_entries log more in let known = h.0 in omega arith, named_stays p log more (hint.Entry place) k h.1)
seen_longer p log more (hint.Own i) k h = let low = h.0.0 in let high = h.0.1 in absurd (omega arith)
seen_longer p log more (hint.Cut ordinal part) k h = (tt, named_stays p log more (hint.Cut ordinal part) k h.1)

-- the last entry, if it is a lemma
pub last_named : (p : Instance) (log : List Entry) (by bound : ℕ) (clause : Clause) (hints : List Hint) → IsSeenName p (state_of (log ++ Lemma by clause hints bound ∷ [])) (hint.Entry (length log + 1)) (of_clause clause)
unfolding named
last_named p log by bound clause hints =
    let count = entry_count (log ++ Lemma by clause hints bound ∷ []) in
    let long = length_push log (Lemma by clause hints bound) in
    let there : live_at (state_of (log ++ Lemma by clause hints bound ∷ [])) (length log + 1) ≡ Some (Lemma by clause hints bound) =
    live_at-log (log ++ Lemma by clause hints bound ∷ []) (length log + 1) ∙ item_last log (Lemma by clause hints bound) in
    (omega arith, ap (λ o. option_map of_clause (option_and_then lemma_clause o)) there)

-- the parts of the cut of a best
parts_named : (p : Instance) (s : LogState) (ordinal : ℕ) (values : List ℤ) → best_at s ordinal ≡ Some values → (part : ℕ) (rest : List Clause) → ((i : ℕ) → slice_get rest i ≡ slice_get (cut p.objectives (vector p values)) (part + i)) → All (λ n. IsSeenName p s n.name (of_clause n.clause)) (cut_named ordinal part rest)
unfolding named
parts_named p s ordinal values best part [] h = All-nil (λ n. IsSeenName p s n.name (of_clause n.clause))
parts_named p s ordinal values best part (c ∷ rest) h =
    let start : part + 0 ≡ part = omega arith in
    let there : slice_get (cut p.objectives (vector p values)) part ≡ Some c = sym (h 0 ∙ ap (slice_get (cut p.objectives (vector p values))) start) in
    All-cons (λ n. IsSeenName p s n.name (of_clause n.clause)) (record { clause = c; name = hint.Cut ordinal part }) (cut_named ordinal (part + 1) rest)
    (tt, ap (λ o. option_map of_clause (option_and_then (λ vs. slice_get (cut p.objectives (vector p vs)) part) o)) best ∙ ap (option_map of_clause) there)
    (parts_named p s ordinal values best (part + 1) rest
    (λ i. let next : part + suc i ≡ part + 1 + i = omega arith in h (suc i) ∙ ap (slice_get (cut p.objectives (vector p values))) next))

-- ---- parts of cuts

all_of_cut : (ordinal part : ℕ) (clauses : List Clause) → filter is_of_cut (cut_named ordinal part clauses) ≡ cut_named ordinal part clauses
all_of_cut ordinal part [] = refl
all_of_cut ordinal part (c ∷ clauses) =
    ap (λ (ns : List Named). record { clause = c; name = hint.Cut ordinal part } ∷ ns) (all_of_cut ordinal (part + 1) clauses)

none_by_test : (t : Bool) (n : Named) (rest : List Named) → is_of_cut n ≡ t → filter is_of_cut rest ≡ [] → filter is_of_cut (cond (not t) (n ∷ rest) rest) ≡ []
none_by_test true n rest e h = h
none_by_test false n rest e h = rw e h

none_of_cut : (clauses : List Named) → filter is_of_cut (without_cut clauses) ≡ []
none_of_cut [] = refl
none_of_cut (n ∷ clauses) = none_by_test (is_of_cut n) n (without_cut clauses) refl (none_of_cut clauses)

cut_renewed : (ordinal : ℕ) (added : List Named) (clauses : List Clause) → filter is_of_cut (without_cut added ++ cut_named ordinal 0 clauses) ≡ cut_named ordinal 0 clauses
cut_renewed ordinal added clauses =
    filter-append is_of_cut (without_cut added) (cut_named ordinal 0 clauses)
    ∙ ap (λ (ns : List Named). ns ++ filter is_of_cut (cut_named ordinal 0 clauses)) (none_of_cut added)
    ∙ all_of_cut ordinal 0 clauses

cut_kept : (added : List Named) (place : ℕ) (c : Clause) → filter is_of_cut (added ++ lemma_named place c ∷ []) ≡ filter is_of_cut added
cut_kept added place c =
    filter-append is_of_cut added (lemma_named place c ∷ []) ∙ append-nil (filter is_of_cut added)

-- ---- the last best

pub best_pushed : (log : List Entry) (by : ℕ) (values : List ℤ) → last_best (state_of (log ++ Best by values ∷ [])) ≡ Some values
best_pushed log by values =
    last_best_of_log (log ++ Best by values ∷ [])
    ∙ ap (last_or None) (best_values-append log (Best by values ∷ []))
    ∙ last_of_pushed None values (best_values log)

bests_pushed : (log : List Entry) (by : ℕ) (values : List ℤ) → length (state_of (log ++ Best by values ∷ [])).bests ≡ length (state_of log).bests + 1
bests_pushed log by values =
    let after = count_of_bests (log ++ Best by values ∷ []) in
    let before = count_of_bests log in
    let parts = ap length (best_values-append log (Best by values ∷ [])) in
    let long = length_push (best_values log) values in
    omega arith

lemma_bests : (log : List Entry) (by bound : ℕ) (clause : Clause) (hints : List Hint) → best_values (log ++ Lemma by clause hints bound ∷ []) ≡ best_values log
lemma_bests log by bound clause hints =
    best_values-append log (Lemma by clause hints bound ∷ []) ∙ append-nil (best_values log)

cut_of_pushed : (p : Instance) (log : List Entry) (by : ℕ) (values : List ℤ) → last_cut p (state_of (log ++ Best by values ∷ [])) ≡ cut_named (length (state_of log).bests + 1) 0 (cut p.objectives (vector p values))
cut_of_pushed p log by values =
    let last = best_pushed log by values in
    let count = bests_pushed log by values in
    rw (last, count) refl

same_cut : (p : Instance) (s s' : LogState) → last_best s' ≡ last_best s → length s'.bests ≡ length s.bests → last_cut p s' ≡ last_cut p s
same_cut p s s' e f = rw (e, f) refl

cut_of_lemma : (p : Instance) (log : List Entry) (by bound : ℕ) (clause : Clause) (hints : List Hint) → last_cut p (state_of (log ++ Lemma by clause hints bound ∷ [])) ≡ last_cut p (state_of log)
cut_of_lemma p log by bound clause hints =
    let same = lemma_bests log by bound clause hints in
    same_cut p (state_of log) (state_of (log ++ Lemma by clause hints bound ∷ []))
    (last_best_of_log (log ++ Lemma by clause hints bound ∷ []) ∙ ap (last_or None) same ∙ sym (last_best_of_log log))
    (count_of_bests (log ++ Lemma by clause hints bound ∷ []) ∙ ap length same ∙ sym (count_of_bests log))

-- ---- lemmas of few atoms

contains_by_test : (t : Bool) (test : Named → Bool) (n : Named) (rest : List Named) → test n ≡ t → t ≡ true → Contains (cond t (n ∷ rest) rest) n
contains_by_test true test n rest e h = (0, omega arith, refl)
contains_by_test false test n rest e h = absurd (cc)

contains_more_by : (t : Bool) (n m : Named) (rest : List Named) → Contains rest m → Contains (cond t (n ∷ rest) rest) m
contains_more_by true n m rest h = Contains-append_right (n ∷ []) rest m h
contains_more_by false n m rest h = h

each_kept : (test : Named → Bool) (xs : List Named) → All (λ n. test n ≡ true → Contains (filter test xs) n) xs
each_kept test [] = All-nil (λ n. test n ≡ true → Contains (filter test []) n)
each_kept test (x ∷ xs) =
    All-cons (λ n. test n ≡ true → Contains (filter test (x ∷ xs)) n) x xs
    (λ e. contains_by_test (test x) test x (filter test xs) refl e)
    (All-weaker (λ n. test n ≡ true → Contains (filter test xs) n) (λ n. test n ≡ true → Contains (filter test (x ∷ xs)) n)
    (λ (n : Named) (h : test n ≡ true → Contains (filter test xs) n). λ (e : test n ≡ true). contains_more_by (test x) x n (filter test xs) (h e))
    xs (each_kept test xs))

pub contains_kept : (test : Named → Bool) (xs : List Named) (n : Named) → Contains xs n → test n ≡ true → Contains (filter test xs) n
contains_kept test xs n there e = All-contains (λ m. test m ≡ true → Contains (filter test xs) m) xs n (each_kept test xs) there e

named_same : (i j : ℕ) (c d : Clause) → i ≡ j → c ≡ d → lemma_named i c ≡ lemma_named j d
named_same i j c d e f = rw (e, f) refl

lemma_kept_at : (log : List Entry) (added : List Named) (by bound : ℕ) (clause : Clause) (hints : List Hint) (n place : ℕ) (c : Clause) (o : Option Entry) → n ≡ length log → HasShortLemmas log added → item_at (log ++ Lemma by clause hints bound ∷ []) place ≡ o → option_and_then lemma_clause o ≡ Some c → length c.atoms ≤ short_length → Contains (added ++ lemma_named (n + 1) clause ∷ []) (lemma_named place c)
lemma_kept_at log added by bound clause hints n place c None e h at named short = absurd (cc)
lemma_kept_at log added by bound clause hints n place c (Some (Best by' values)) e h at named short = absurd (cc)
lemma_kept_at log added by bound clause hints n place c (Some (Lemma by' clause' hints' bound')) e h at named short =
    ⊎_elim
    (λ (old : item_at log place ≡ Some (Lemma by' clause' hints' bound')).
    Contains-append_left added (lemma_named (n + 1) clause ∷ []) (lemma_named place c) (h place c (ap (option_and_then lemma_clause) old ∙ named) short))
    (λ (last : (place ≡ length log + 1) × (Lemma by clause hints bound ≡ Lemma by' clause' hints' bound')).
    let both : Some clause ≡ Some c = ap lemma_clause last.1 ∙ named in
    let same : clause ≡ c = cc in
    let here = last.0 in
    let number : n + 1 ≡ place = omega arith in
    subst (λ (m : Named). Contains (added ++ lemma_named (n + 1) clause ∷ []) m) (named_same (n + 1) place clause c number same)
    (Contains-push added (lemma_named (n + 1) clause)))
    (pushed_item log (Lemma by clause hints bound) place (Lemma by' clause' hints' bound') at)

best_kept_at : (log : List Entry) (added more : List Named) (by : ℕ) (values : List ℤ) (place : ℕ) (c : Clause) (o : Option Entry) → HasShortLemmas log added → item_at (log ++ Best by values ∷ []) place ≡ o → option_and_then lemma_clause o ≡ Some c → length c.atoms ≤ short_length → Contains (without_cut added ++ more) (lemma_named place c)
best_kept_at log added more by values place c None h at named short = absurd (cc)
best_kept_at log added more by values place c (Some (Best by' values')) h at named short = absurd (cc)
best_kept_at log added more by values place c (Some (Lemma by' clause' hints' bound')) h at named short =
    ⊎_elim
    (λ (old : item_at log place ≡ Some (Lemma by' clause' hints' bound')).
    Contains-append_left (without_cut added) more (lemma_named place c)
    (contains_kept (λ n. not (is_of_cut n)) added (lemma_named place c) (h place c (ap (option_and_then lemma_clause) old ∙ named) short) refl))
    (λ (last : (place ≡ length log + 1) × (Best by values ≡ Lemma by' clause' hints' bound')). absurd (let wrong = last.1 in cc))
    (pushed_item log (Best by values) place (Lemma by' clause' hints' bound') at)

-- ---- one more entry

names_longer : (p : Instance) (log more : List Entry) (added : List Named) → All (λ n. IsSeenName p (state_of log) n.name (of_clause n.clause)) added → All (λ n. IsSeenName p (state_of (log ++ more)) n.name (of_clause n.clause)) added
names_longer p log more added h =
    All-weaker (λ n. IsSeenName p (state_of log) n.name (of_clause n.clause)) (λ n. IsSeenName p (state_of (log ++ more)) n.name (of_clause n.clause))
    (λ (n : Named) (k : IsSeenName p (state_of log) n.name (of_clause n.clause)). seen_longer p log more n.name (of_clause n.clause) k)
    added h

pub store_with_best : (p : Instance) (log : List Entry) (store : StoreState) (by : ℕ) (values : List ℤ) → IsStoreFor p log store → IsStoreFor p (log ++ Best by values ∷ []) (store_after p (state_of log) store (Best by values))
store_with_best p log store by values h =
    let count = bests_pushed log by values in
    let last : best_at (state_of (log ++ Best by values ∷ [])) (length (state_of log).bests + 1) ≡ Some values =
    ap (best_at (state_of (log ++ Best by values ∷ []))) (sym count) ∙ best_pushed log by values in
    record {
      of_problem = record { vars = h.of_problem.vars; clauses = h.of_problem.clauses };
      names =
          All-append (λ n. IsSeenName p (state_of (log ++ Best by values ∷ [])) n.name (of_clause n.clause)) (without_cut store.added) (cut_named (length (state_of log).bests + 1) 0 (cut p.objectives (vector p values)))
          (All-filter (λ n. not (is_of_cut n)) (λ n. IsSeenName p (state_of (log ++ Best by values ∷ [])) n.name (of_clause n.clause)) store.added
          (names_longer p log (Best by values ∷ []) store.added h.names))
          (parts_named p (state_of (log ++ Best by values ∷ [])) (length (state_of log).bests + 1) values last 0 (cut p.objectives (vector p values))
          (λ i. let same : i ≡ 0 + i = omega arith in ap (slice_get (cut p.objectives (vector p values))) same));
      last_cut =
          cut_renewed (length (state_of log).bests + 1) store.added (cut p.objectives (vector p values)) ∙ sym (cut_of_pushed p log by values);
      lemmas = λ place c named short.
          best_kept_at log store.added (cut_named (length (state_of log).bests + 1) 0 (cut p.objectives (vector p values))) by values place c
          (item_at (log ++ Best by values ∷ []) place) h.lemmas refl named short;
    }

pub store_with_lemma : (p : Instance) (log : List Entry) (store : StoreState) (by bound : ℕ) (clause : Clause) (hints : List Hint) → IsStoreFor p log store → IsStoreFor p (log ++ Lemma by clause hints bound ∷ []) (store_after p (state_of log) store (Lemma by clause hints bound))
store_with_lemma p log store by bound clause hints h =
    let count = entry_count log in
    let place : length log + 1 ≡ length (state_of log).entries + 1 = omega arith in
    record {
      of_problem = record { vars = h.of_problem.vars; clauses = h.of_problem.clauses };
      names =
          All-push (λ n. IsSeenName p (state_of (log ++ Lemma by clause hints bound ∷ [])) n.name (of_clause n.clause)) store.added (lemma_named (length (state_of log).entries + 1) clause)
          (names_longer p log (Lemma by clause hints bound ∷ []) store.added h.names)
          (subst (λ (n : ℕ). IsSeenName p (state_of (log ++ Lemma by clause hints bound ∷ [])) (hint.Entry n) (of_clause clause)) place
          (last_named p log by bound clause hints));
      last_cut =
          cut_kept store.added (length (state_of log).entries + 1) clause ∙ h.last_cut ∙ sym (cut_of_lemma p log by bound clause hints);
      lemmas = λ the_place c named short.
          lemma_kept_at log store.added by bound clause hints (length (state_of log).entries) the_place c
          (item_at (log ++ Lemma by clause hints bound ∷ []) the_place) count h.lemmas refl named short;
    }

pub store_with : (p : Instance) (log : List Entry) (store : StoreState) (e : Entry) → IsStoreFor p log store → IsStoreFor p (log ++ e ∷ []) (store_after p (state_of log) store e)
store_with p log store (Best by values) h = store_with_best p log store by values h
store_with p log store (Lemma by clause hints bound) h = store_with_lemma p log store by bound clause hints h

-- ---- what the names of a round name

numbered_name : (p : Instance) (s : LogState) (n : ℕ) (clauses : List Clause) → ((i : ℕ) → slice_get clauses i ≡ slice_get p.clauses (n + i)) → All (λ m. IsSeenName p s m.name (of_clause m.clause)) (numbered n clauses)
unfolding named
numbered_name p s n [] h = All-nil (λ m. IsSeenName p s m.name (of_clause m.clause))
numbered_name p s n (c ∷ clauses) h =
    let start : n + 0 ≡ n = omega arith in
    All-cons (λ m. IsSeenName p s m.name (of_clause m.clause)) (record { clause = c; name = hint.Clause n }) (numbered (n + 1) clauses)
    (tt, ap (option_map of_clause) (sym (h 0 ∙ ap (slice_get p.clauses) start)))
    (numbered_name p s (n + 1) clauses
    (λ i. let next : n + suc i ≡ n + 1 + i = omega arith in h (suc i) ∙ ap (slice_get p.clauses) next))

-- all clauses of the store have names that were seen
pub all_named : (p : Instance) (log : List Entry) (store : StoreState) → IsStoreFor p log store → All (λ n. IsSeenName p (state_of log) n.name (of_clause n.clause)) (all_clauses store)
all_named p log store h =
    All-append (λ n. IsSeenName p (state_of log) n.name (of_clause n.clause)) store.clauses store.added
    (rw h.of_problem.clauses (numbered_name p (state_of log) 0 p.clauses (λ i. let same : i ≡ 0 + i = omega arith in ap (slice_get p.clauses) same)))
    h.names

pub round_seen : (p : Instance) (log : List Entry) (store : StoreState) → IsStoreFor p log store → (h : Hint) (k : Constraint) → IsRoundName p (all_clauses store) h k → IsSeenName p (state_of log) h k
unfolding named
round_seen p log store there h k (inl pair) =
    rw (pair.2, pair.3) (All-contains (λ n. IsSeenName p (state_of log) n.name (of_clause n.clause)) (all_clauses store) pair.0 (all_named p log store there) pair.1)
round_seen p log store there h k (inr row) = rw (row.1.2.0, row.1.2.1) (tt, ap (option_map of_row) row.1.1)

-- ---- the end of a propagation

pub settled_rest : (p : Instance) (store : StoreState) (b : Bounds) → IsStoreOf p store → IsQuietRound p (all_clauses store) b → IsAtRest p b
settled_rest p store b h quiet = record {
  clauses = quiet_store p store b h quiet.0;
  rows = quiet.1;
}

pub settled_conflict : (p : Instance) (log : List Entry) (store : StoreState) (b : Bounds) (h : Hint) → IsStoreFor p log store → (k : Constraint) × IsRoundName p (all_clauses store) h k × (left_by b k ≡ None) → IsConflictIn p (state_of log) [] b h
settled_conflict p log store b h there found = (found.0, round_seen p log store there h found.0 found.1, found.2)
