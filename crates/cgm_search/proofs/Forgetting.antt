-- A store that forgets a lemma of many atoms is still one for its log.
use Rattle.std.proofs.Common.{◌≡◌, ◌≢◌, inl, inr, ⊎_elim, ℕ, ◌≤◌, Bool, true, false, cond, List, [], ◌∷◌, length, refl, ap, sym, ◌∙◌, arith}
use Rattle.std.specs.declared.option.Option.{Option}
use Rattle.std.specs.declared.option.Option.TheVariants.{Some, None}
use Rattle.std.specs.List.{All, Contains, filter}
use Rattle.std.specs.Option.{option_and_then}
use Rattle.std.proofs.lemmas.Bool.{cases_eq}
use Rattle.std.proofs.lemmas.List.Elements.{All-cons, All-contains, All-contains_itself, All-nil, All-weaker, Contains-append_right}
use Rattle.cgm_atom.specs.declared.constraints.Clause.{Clause}
use Rattle.cgm_atom.specs.declared.entries.Entry.{Entry}
use Rattle.cgm_atom.specs.declared.entries.Entry.TheVariants.{Best, Lemma}
use Rattle.cgm_atom.specs.declared.entries.Hint.{Hint}
use Rattle.cgm_atom.specs.declared.entries.Hint.TheVariants as hint
use Rattle.cgm_atom.specs.Constraints.{of_clause}
use Rattle.cgm_atom.specs.Instance.{Instance}
use Rattle.cgm_atom.specs.LogState.{item_at, lemma_clause, state_of}
use Rattle.cgm_clauses.specs.declared.named.Named.{Named}
use Rattle.cgm_clauses.specs.StoreState.{IsForgotten, StoreState}
use Rattle.cgm_clauses.proofs.Naming.{forgotten_all}
use Rattle.cgm_search.specs.Storing.{HasShortLemmas, IsLongLemma, IsSeenName, IsStoreFor, is_of_cut, lemma_named, short_length}

-- what has another name stays
abbrev IsKeptBut : Hint → List Named → Named → Type 0
IsKeptBut name new m = m.name ≢ name → Contains new m

others_kept : (name : Hint) (old new : List Named) → IsForgotten name old new → All (IsKeptBut name new) old
others_kept name [] new h = All-nil (IsKeptBut name new)
others_kept name (n ∷ old) new (inl h) =
    All-cons (IsKeptBut name new) n old (λ (other : n.name ≢ name). absurd (other h.0))
    (All-weaker (Contains old) (IsKeptBut name new) (λ (m : Named) (there : Contains old m). λ (other : m.name ≢ name). rw h.1 there) old (All-contains_itself old))
others_kept name (n ∷ old) new (inr h) =
    All-cons (IsKeptBut name new) n old (λ (other : n.name ≢ name). rw h.2 (0, omega arith, refl))
    (All-weaker (IsKeptBut name h.1) (IsKeptBut name new)
    (λ (m : Named) (kept : IsKeptBut name h.1 m). λ (other : m.name ≢ name). rw h.2 (Contains-append_right (n ∷ []) h.1 m (kept other)))
    old (others_kept name old h.1 h.3))

other_kept : (name : Hint) (old new : List Named) (m : Named) → IsForgotten name old new → Contains old m → m.name ≢ name → Contains new m
other_kept name old new m h there = All-contains (IsKeptBut name new) old m (others_kept name old new h) there

cond_no : (t : Bool) (n : Named) (xs : List Named) → t ≡ false → cond t (n ∷ xs) xs ≡ xs
cond_no true n xs e = absurd (cc)
cond_no false n xs e = refl

-- what a test finds stays, where it finds nothing of the name
tested_kept : (test : Named → Bool) (name : Hint) (old new : List Named) → ((m : Named) → m.name ≡ name → test m ≡ false) → IsForgotten name old new → filter test new ≡ filter test old
tested_kept test name [] new missed h = ap (filter test) h
tested_kept test name (n ∷ old) new missed (inl h) =
    ap (filter test) h.1 ∙ sym (cond_no (test n) n (filter test old) (missed n h.0))
tested_kept test name (n ∷ old) new missed (inr h) =
    ap (filter test) h.2 ∙ ap (λ (ns : List Named). cond (test n) (n ∷ ns) ns) (tested_kept test name old h.1 missed h.3)

not_of_cut : (place : ℕ) (m : Named) → m.name ≡ hint.Entry place → is_of_cut m ≡ false
not_of_cut place m e = rw e refl

-- the clause of the place is long, so that of another place is meant
is_elsewhere : (place other : ℕ) (c : Clause) (o : Option Entry) → place ≢ other → hint.Entry other ≢ hint.Entry place
is_elsewhere place other c o h = λ (e : hint.Entry other ≡ hint.Entry place). h (let same : place ≡ other = cc in same)

long_by_place : (log : List Entry) (place : ℕ) (e : Entry) (c : Clause) → item_at log place ≡ Some e → IsLongLemma e → option_and_then lemma_clause (item_at log place) ≡ Some c → length c.atoms ≤ short_length → ⊥
long_by_place log place (Best by values) c there long named short = long
long_by_place log place (Lemma by clause hints bound) c there long named short =
    let both : Some clause ≡ Some c = sym (ap (option_and_then lemma_clause) there) ∙ named in
    let same : clause ≡ c = cc in
    let count : length clause.atoms ≡ length c.atoms = ap (λ (k : Clause). length k.atoms) same in
    omega arith

short_kept : (log : List Entry) (place : ℕ) (e : Entry) (old new : List Named) → item_at log place ≡ Some e → IsLongLemma e → IsForgotten (hint.Entry place) old new → HasShortLemmas log old → HasShortLemmas log new
short_kept log place e old new there long gone h = λ (other : ℕ) (c : Clause) (named : option_and_then lemma_clause (item_at log other) ≡ Some c) (short : length c.atoms ≤ short_length).
    ⊎_elim
    (λ (same : place ≡ other).
    absurd (long_by_place log place e c there long (ap (λ (k : ℕ). option_and_then lemma_clause (item_at log k)) same ∙ named) short))
    (λ (differ : place ≢ other).
    other_kept (hint.Entry place) old new (lemma_named other c) gone (h other c named short) (is_elsewhere place other c None differ))
    (cases_eq place other)

pub forgotten_store : (p : Instance) (log : List Entry) (place : ℕ) (e : Entry) (old new : StoreState) → item_at log place ≡ Some e → IsLongLemma e → IsForgotten (hint.Entry place) old.added new.added → new.clauses ≡ old.clauses → new.vars ≡ old.vars → IsStoreFor p log old → IsStoreFor p log new
forgotten_store p log place e old new there long gone clauses vars h =
    record {
      of_problem = record { vars = vars ∙ h.of_problem.vars; clauses = clauses ∙ h.of_problem.clauses };
      names =
          forgotten_all (λ n. IsSeenName p (state_of log) n.name (of_clause n.clause)) (hint.Entry place) old.added new.added gone h.names;
      last_cut = tested_kept is_of_cut (hint.Entry place) old.added new.added (not_of_cut place) gone ∙ h.last_cut;
      lemmas = short_kept log place e old.added new.added there long gone h.lemmas;
    }
