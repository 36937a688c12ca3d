-- What a worker knows stays true with each next entry of the log, and when it forgets a long lemma.
use Rattle.std.proofs.Common.{◌≡◌, ℕ, zero, suc, ◌+◌, ◌^◌, ◌<◌, ◌==◌, not, if◌then◌else◌, List, [], ◌∷◌, ◌++◌, length, get_or, refl, ap, sym, ◌∙◌, append_assoc, arith}
use Rattle.std.specs.Prelude.{ℤ, nat_lt}
use Rattle.std.specs.declared.option.Option.{Option}
use Rattle.std.specs.declared.option.Option.TheVariants.{Some, None}
use Rattle.std.specs.List.{filter, position_from}
use Rattle.std.specs.Option.{option_and_then, option_map}
use Rattle.std.proofs.lemmas.List.{length_push}
use Rattle.std.proofs.lemmas.List.Elements.{All-nil}
use Rattle.std.proofs.lemmas.Option.{slice_get-get_or}
use Rattle.cgm_atom.specs.declared.constraints.Atom.{Atom}
use Rattle.cgm_atom.specs.declared.constraints.Clause.{Clause}
use Rattle.cgm_atom.specs.declared.entries.BadStep.TheVariants as fault
use Rattle.cgm_atom.specs.declared.entries.Entry.{Entry}
use Rattle.cgm_atom.specs.declared.entries.Entry.TheVariants.{Best, Lemma}
use Rattle.cgm_atom.specs.declared.entries.Hint.{Hint}
use Rattle.cgm_atom.specs.declared.entries.Hint.TheVariants as hint
use Rattle.cgm_atom.specs.Acceptance.{IsAcceptedAfter, IsAcceptedState, fault_of, faults, first_fault}
use Rattle.cgm_atom.specs.ClauseAtoms.{AreKnown}
use Rattle.cgm_atom.specs.Constraints.{of_clause}
use Rattle.cgm_atom.specs.Instance.{Instance, first_violation, var_count}
use Rattle.cgm_atom.specs.Limits.{AreValuesOf, IsWellFormedProblem}
use Rattle.cgm_atom.specs.LogState.{LogState, item_at, last_best, lemma_clause, state_of, state_with}
use Rattle.cgm_atom.proofs.StateLemmas.{IsAccepted-nil, IsAccepted-push, last_best_of_log, state_of-push}
use Rattle.cgm_clauses.specs.declared.named.Named.{Named}
use Rattle.cgm_clauses.specs.StoreState.{IsForgotten, store_started}
use Rattle.cgm_step.specs.Indexing.{IsLogIndexOf}
use Rattle.cgm_step.proofs.Accepted.{AreKnown-from_none, AreNone-from_first, AreValuesOf-from_none}
use Rattle.cgm_search.specs.declared.knowledge.Known.{Known}
use Rattle.cgm_search.specs.Cutting.{IsOfParts, parts_of}
use Rattle.cgm_search.specs.Knowing.{IsKnowledge, seen, seen_state}
use Rattle.cgm_search.specs.Storing.{IsLongLemma, IsSeenName, IsStoreFor, is_of_cut, last_cut, store_after}
use Rattle.cgm_search.proofs.CutNames.{names_of_last}
use Rattle.cgm_search.proofs.Forgetting.{forgotten_store}
use Rattle.cgm_search.proofs.Keeping.{store_with}

-- ---- before anything was seen

nothing_at : (place : ℕ) (c : Clause) → option_and_then lemma_clause (item_at [] place) ≡ Some c → ⊥
nothing_at zero c h = cc
nothing_at (suc i) c h = cc

no_cut_at_first : (p : Instance) → last_cut p (state_of []) ≡ []
no_cut_at_first p = let none : last_best (state_of []) ≡ None = last_best_of_log [] in rw none refl

first_store : (p : Instance) → IsStoreFor p [] (store_started p)
first_store p = record {
  of_problem = record { vars = refl; clauses = refl };
  names = All-nil (λ n. IsSeenName p (state_of []) n.name (of_clause n.clause));
  last_cut = sym (no_cut_at_first p);
  lemmas = λ place c named short. absurd (nothing_at place c named);
}

pub known_at_first : (k : Known) (p : Instance) (entries : List Entry) → k.problem ≡ p → IsWellFormedProblem p → k.entries.items ≡ entries → entries ≡ [] → IsLogIndexOf k.index [] → k.store ≡ store_started p → IsKnowledge k
known_at_first k p entries same wf items none own store = record {
  problem = rw same wf;
  own = rw (items ∙ none) own;
  accepted = rw (items ∙ none) (IsAccepted-nil k.problem);
  count = rw (items ∙ none) (omega arith);
  store = rw (items ∙ none, store, same) (first_store p);
}

-- ---- what acceptance says of the next entry

no_fault_mapped : {X Y : Type 0} (f : X → Y) (o : Option X) → option_map f o ≡ None → o ≡ None
no_fault_mapped f None h = refl
no_fault_mapped f (Some x) h = absurd (cc)

-- the variables of a lemma's clause exist
pub next_atoms_known : (p : Instance) (s : LogState) (by bound : ℕ) (clause : Clause) (hints : List Hint) → first_fault p s (Lemma by clause hints bound) ≡ None → AreKnown (var_count p) clause.atoms
unfolding first_fault
next_atoms_known p s by bound clause hints h =
    let none = AreNone-from_first (faults p s (Lemma by clause hints bound)) h in
    AreKnown-from_none (var_count p) clause.atoms
    (no_fault_mapped (λ (i : ℕ). fault.Atom (i + 1)) (position_from (λ (a : Atom). not (nat_lt a.var.0 (var_count p))) 0 clause.atoms) none.1.0)

-- the values of a best are those of the problem's variables
pub next_values_fit : (p : Instance) (s : LogState) (by : ℕ) (values : List ℤ) → IsWellFormedProblem p → first_fault p s (Best by values) ≡ None → AreValuesOf p values
unfolding first_fault
next_values_fit p s by values wf h =
    let none = AreNone-from_first (faults p s (Best by values)) h in
    AreValuesOf-from_none p values wf (no_fault_mapped (fault_of (length values)) (first_violation p values) none.1.0)

-- the names of the cut that the next best takes the place of
pub names_before : (p : Instance) (s : LogState) (added : List Named) (before : ℕ) → IsAcceptedState p s → before ≡ length s.bests → filter is_of_cut added ≡ last_cut p s → IsOfParts before (if before == 0 then 0 else parts_of p) added
names_before p s added before there e h =
    rw (e, there.2) (names_of_last p there.0 added (h ∙ ap (last_cut p) there.2))

-- ---- the next entry

pub known_next : (old new : Known) (e : Entry) → IsKnowledge old → first_fault old.problem (seen_state old) e ≡ None → length (seen old) + 1 < 2 ^ 63 → new.problem ≡ old.problem → seen new ≡ seen old ++ e ∷ [] → IsLogIndexOf new.index (seen old ++ e ∷ []) → new.store ≡ store_after old.problem (seen_state old) old.store e → IsKnowledge new
known_next old new e h accepted room problem entries own store = record {
  problem = rw problem h.problem;
  own = rw entries own;
  accepted = rw (problem, entries) (IsAccepted-push old.problem (seen old) e h.accepted accepted);
  count = let long = length_push (seen old) e in rw entries (omega arith);
  store = rw (problem, entries, store) (store_with old.problem (seen old) old.store e h.store);
}

pub accepted_first : (p : Instance) (s : LogState) (e : Entry) (rest all : List Entry) → all ≡ e ∷ rest → IsAcceptedAfter p s all → (first_fault p s e ≡ None) × IsAcceptedAfter p (state_with s e) rest
accepted_first p s e rest all same h = rw same at h

pub accepted_on : (p p' : Instance) (old new : List Entry) (e : Entry) (rest : List Entry) → p' ≡ p → new ≡ old ++ e ∷ [] → IsAcceptedAfter p (state_with (state_of old) e) rest → IsAcceptedAfter p' (state_of new) rest
accepted_on p p' old new e rest same added h = rw (same, added, state_of-push old e) h

pub entries_next : (first more old new : List Entry) (e : Entry) (rest all : List Entry) → all ≡ e ∷ rest → new ≡ old ++ e ∷ [] → old ++ all ≡ first ++ more → new ++ rest ≡ first ++ more
entries_next first more old new e rest all next added h =
    rw added (append_assoc old (e ∷ []) rest ∙ ap (λ (xs : List Entry). old ++ xs) (sym next) ∙ h)

pub room_next : (old new : List Entry) (e : Entry) (rest all : List Entry) → all ≡ e ∷ rest → new ≡ old ++ e ∷ [] → length old + length all < 2 ^ 63 → length new + length rest < 2 ^ 63
room_next old new e rest all next added h =
    let left : length all ≡ suc (length rest) = ap length next in
    let long = ap length added ∙ length_push old e in
    omega arith

pub room_here : (old : List Entry) (e : Entry) (rest all : List Entry) → all ≡ e ∷ rest → length old + length all < 2 ^ 63 → length old + 1 < 2 ^ 63
room_here old e rest all next h =
    let left : length all ≡ suc (length rest) = ap length next in
    omega arith

-- ---- forgetting

place_of : (log : List Entry) (i : ℕ) (e : Entry) → i < length log → e ≡ get_or log i e → item_at log (i + 1) ≡ Some e
place_of log i e short here =
    let next : i + 1 ≡ suc i = omega arith in
    rw next (slice_get-get_or log i e short ∙ ap Some (sym here))

pub known_forgets : (old new : Known) (i : ℕ) (e : Entry) → IsKnowledge old → i < length (seen old) → e ≡ get_or (seen old) i e → IsLongLemma e → new.problem ≡ old.problem → new.entries ≡ old.entries → new.index ≡ old.index → IsForgotten (hint.Entry (i + 1)) old.store.added new.store.added → new.store.clauses ≡ old.store.clauses → new.store.vars ≡ old.store.vars → IsKnowledge new
known_forgets old new i e h short here long problem entries index gone clauses vars = record {
  problem = rw problem h.problem;
  own = rw (index, entries) h.own;
  accepted = rw (problem, entries) h.accepted;
  count = rw entries h.count;
  store =
      rw (problem, entries)
      (forgotten_store old.problem (seen old) (i + 1) e old.store new.store (place_of (seen old) i e short here) long gone clauses vars h.store);
}
