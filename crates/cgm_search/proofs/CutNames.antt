-- The parts of a cut by their names: dropping them all drops the cut, and adding them all adds it.
use Rattle.std.proofs.Common.{◌≡◌, ◌≢◌, inl, inr, ℕ, zero, suc, ◌+◌, ◌-◌, ◌<◌, ◌≤◌, ◌==◌, max, Bool, true, false, not, cond, if◌then◌else◌, List, [], ◌∷◌, ◌++◌, length, map, drop, refl, ap, sym, ◌∙◌, append_assoc, append-nil, arith}
use Rattle.std.specs.Prelude.{ℤ, slice_get}
use Rattle.std.specs.declared.option.Option.TheVariants.{Some, None}
use Rattle.std.specs.List.{filter, last_or}
use Rattle.std.specs.Option.{option_map_or}
use Rattle.std.proofs.lemmas.Bool.Decides.{nat_tests}
use Rattle.std.proofs.lemmas.List.{length-map}
use Rattle.cgm_atom.specs.declared.constraints.Atom.{Atom}
use Rattle.cgm_atom.specs.declared.constraints.Clause.{Clause}
use Rattle.cgm_atom.specs.declared.constraints.Var.{Var}
use Rattle.cgm_atom.specs.declared.entries.Entry.{Entry}
use Rattle.cgm_atom.specs.declared.entries.Hint.{Hint}
use Rattle.cgm_atom.specs.declared.entries.Hint.TheVariants as hint
use Rattle.cgm_atom.specs.Bounds.{value_of}
use Rattle.cgm_atom.specs.ClauseAtoms.{part_atoms}
use Rattle.cgm_atom.specs.Cut.{cut, with_lesser}
use Rattle.cgm_atom.specs.Entailment.{best_values}
use Rattle.cgm_atom.specs.Instance.{Instance, values_at, vector}
use Rattle.cgm_atom.specs.LogState.{LogState, last_best, state_of}
use Rattle.cgm_atom.proofs.StateLemmas.{count_of_bests, last_best_of_log}
use Rattle.cgm_step.proofs.Touching.{drop_found}
use Rattle.cgm_clauses.specs.declared.named.Named.{Named}
use Rattle.cgm_clauses.specs.StoreState.{IsForgotten, StoreState}
use Rattle.cgm_search.specs.Cutting.{IsOfParts, cut_names, parts_of}
use Rattle.cgm_search.specs.Storing.{cut_named, is_cut, is_of_cut, last_cut, without_cut}

-- the names of the parts of a cut among the clauses
abbrev pub names_of_cut : List Named → List Hint
names_of_cut clauses = map (λ n. n.name) (filter is_of_cut clauses)

-- ---- dropping

first_gone : (t : Bool) (n : Named) (xs : List Named) (name : Hint) (names : List Hint) → t ≡ true → map (λ m. m.name) (cond t (n ∷ filter is_of_cut xs) (filter is_of_cut xs)) ≡ name ∷ names → names_of_cut xs ≡ names
first_gone true n xs name names e h = cc
first_gone false n xs name names e h = absurd (cc)

without_first : (t : Bool) (n : Named) (xs : List Named) → t ≡ true → cond (not t) (n ∷ without_cut xs) (without_cut xs) ≡ without_cut xs
without_first true n xs e = refl
without_first false n xs e = absurd (cc)

abbrev IsDropped : List Hint → List Named → List Named → Type 0
IsDropped names old new = (names_of_cut new ≡ names) × (without_cut new ≡ without_cut old)

later_gone : (t : Bool) (n : Named) (old rest : List Named) (name : Hint) (names : List Hint) → is_of_cut n ≡ t → n.name ≢ name → map (λ m. m.name) (cond t (n ∷ filter is_of_cut old) (filter is_of_cut old)) ≡ name ∷ names → (names_of_cut old ≡ name ∷ names → IsDropped names old rest)
    → (map (λ m. m.name) (cond t (n ∷ filter is_of_cut rest) (filter is_of_cut rest)) ≡ names) × (cond (not t) (n ∷ without_cut rest) (without_cut rest) ≡ cond (not t) (n ∷ without_cut old) (without_cut old))
later_gone true n old rest name names e other h next = absurd (let same : n.name ≡ name = cc in other same)
later_gone false n old rest name names e other h next =
    let both = next h in
    (both.0, ap (λ (ns : List Named). n ∷ ns) both.1)

-- the first part of the cut is forgotten by its name
pub dropped : (name : Hint) (names : List Hint) (old new : List Named) → is_cut name ≡ true → names_of_cut old ≡ name ∷ names → IsForgotten name old new → IsDropped names old new
dropped name names [] new cutting h gone = absurd (cc)
dropped name names (n ∷ old) new cutting h (inl gone) =
    let of_cut : is_of_cut n ≡ true = ap is_cut gone.0 ∙ cutting in
    rw gone.1 (first_gone (is_of_cut n) n old name names of_cut h, sym (without_first (is_of_cut n) n old of_cut))
dropped name names (n ∷ old) new cutting h (inr gone) =
    rw gone.2
    (later_gone (is_of_cut n) n old gone.1 name names refl gone.0 h (λ (h' : names_of_cut old ≡ name ∷ names). dropped name names old gone.1 cutting h' gone.3))

kept_by_test : (t : Bool) (n : Named) (xs : List Named) → (names_of_cut xs ≡ [] → without_cut xs ≡ xs) → map (λ m. m.name) (cond t (n ∷ filter is_of_cut xs) (filter is_of_cut xs)) ≡ [] → cond (not t) (n ∷ without_cut xs) (without_cut xs) ≡ n ∷ xs
kept_by_test true n xs rest h = absurd (cc)
kept_by_test false n xs rest h = ap (λ (ns : List Named). n ∷ ns) (rest h)

no_cut : (xs : List Named) → names_of_cut xs ≡ [] → without_cut xs ≡ xs
no_cut [] h = refl
no_cut (n ∷ xs) h = kept_by_test (is_of_cut n) n xs (no_cut xs) h

cut_names_next : (ordinal part left : ℕ) → 0 < left → cut_names ordinal part left ≡ hint.Cut ordinal part ∷ cut_names ordinal (part + 1) (left - 1)
cut_names_next ordinal part zero h = absurd (omega arith)
cut_names_next ordinal part (suc left) h = let same : suc left - 1 ≡ left = omega arith in rw same refl

pub dropped_next : (ordinal part parts : ℕ) (old new : List Named) → part < parts → names_of_cut old ≡ cut_names ordinal part (parts - part) → IsForgotten (hint.Cut ordinal part) old new → IsDropped (cut_names ordinal (part + 1) (parts - (part + 1))) old new
dropped_next ordinal part parts old new h e gone =
    let some : 0 < parts - part = omega arith in
    let less : parts - part - 1 ≡ parts - (part + 1) = omega arith in
    rw (← less) (dropped (hint.Cut ordinal part) (cut_names ordinal (part + 1) (parts - part - 1)) old new refl (e ∙ cut_names_next ordinal part (parts - part) some) gone)

pub all_dropped : (ordinal part parts : ℕ) (first : List Named) (now : List Named) → parts ≤ part → names_of_cut now ≡ cut_names ordinal part (parts - part) → without_cut now ≡ without_cut first → now ≡ without_cut first
all_dropped ordinal part parts first now h e same =
    let none : parts - part ≡ 0 = omega arith in
    sym (no_cut now (e ∙ ap (cut_names ordinal part) none)) ∙ same

-- ---- adding

pub added_next : (ordinal part : ℕ) (clauses : List Clause) (c : Clause) (first added new : List Named) → slice_get clauses part ≡ Some c → added ++ cut_named ordinal part (drop part clauses) ≡ first ++ cut_named ordinal 0 clauses → new ≡ added ++ record { clause = c; name = hint.Cut ordinal part } ∷ [] → new ++ cut_named ordinal (part + 1) (drop (part + 1) clauses) ≡ first ++ cut_named ordinal 0 clauses
added_next ordinal part clauses c first added new there before e =
    rw e
    (append_assoc added (record { clause = c; name = hint.Cut ordinal part } ∷ []) (cut_named ordinal (part + 1) (drop (part + 1) clauses))
    ∙ ap (λ (cs : List Clause). added ++ cut_named ordinal part cs) (sym (drop_found clauses part c there))
    ∙ before)

drop_past : (clauses : List Clause) (part : ℕ) → length clauses ≤ part → drop part clauses ≡ []
drop_past [] zero h = refl
drop_past [] (suc part) h = refl
drop_past (c ∷ clauses) zero h = absurd (omega arith)
drop_past (c ∷ clauses) (suc part) h = drop_past clauses part (omega arith)

length-cut : (values : List ℤ) (x : Var) (os : List Var) → length (cut (x ∷ os) (values_at values (x ∷ os))) ≡ suc (length os)
unfolding cut
length-cut values x [] = refl
length-cut values x (y ∷ os) =
    ap suc (length-map (cut (y ∷ os) (values_at values (y ∷ os))) (with_lesser x (value_of values x.0)) ∙ length-cut values y os)

pub length-parts : (values : List ℤ) (os : List Var) → length (cut os (values_at values os)) ≡ max 1 (length os)
unfolding cut
length-parts values [] = refl
length-parts values (x ∷ os) = let e = length-cut values x os in omega arith

pub all_added : (p : Instance) (values : List ℤ) (ordinal part : ℕ) (first added : List Named) → parts_of p ≤ part → added ++ cut_named ordinal part (drop part (cut p.objectives (vector p values))) ≡ first ++ cut_named ordinal 0 (cut p.objectives (vector p values)) → added ≡ first ++ cut_named ordinal 0 (cut p.objectives (vector p values))
all_added p values ordinal part first added h e =
    let count = length-parts values p.objectives in
    let past : drop part (cut p.objectives (vector p values)) ≡ [] = drop_past (cut p.objectives (vector p values)) part (omega arith) in
    sym (append-nil added) ∙ ap (λ (cs : List Clause). added ++ cut_named ordinal part cs) (sym past) ∙ e

-- ---- one part

part_of : (clauses : List Clause) (part : ℕ) (atoms : List Atom) → part < length clauses → atoms ≡ option_map_or (λ c. c.atoms) (slice_get clauses part) [] → slice_get clauses part ≡ Some (record { atoms = atoms })
part_of [] part atoms h e = absurd (omega arith)
part_of (c ∷ clauses) zero atoms h e = rw e refl
part_of (c ∷ clauses) (suc part) atoms h e = part_of clauses part atoms (omega arith) e

pub part_found : (p : Instance) (values : List ℤ) (part : ℕ) (atoms : List Atom) → part < parts_of p → atoms ≡ part_atoms p.objectives (values_at values p.objectives) part → slice_get (cut p.objectives (vector p values)) part ≡ Some (record { atoms = atoms })
part_found p values part atoms h e =
    let count = length-parts values p.objectives in
    part_of (cut p.objectives (vector p values)) part atoms (omega arith) e

-- ---- the names of a whole cut

names_of_parts : (ordinal part : ℕ) (clauses : List Clause) → map (λ n. n.name) (cut_named ordinal part clauses) ≡ cut_names ordinal part (length clauses)
names_of_parts ordinal part [] = refl
names_of_parts ordinal part (c ∷ clauses) =
    ap (λ (hs : List Hint). hint.Cut ordinal part ∷ hs) (names_of_parts ordinal (part + 1) clauses)

last_there : {X : Type 0} (x : X) (xs : List X) → (y : X) × (last_or (Some x) xs ≡ Some y)
last_there x [] = (x, refl)
last_there x (y ∷ xs) = last_there y xs

no_parts : (q : ℕ) → 0 ≡ (if 0 == 0 then 0 else q)
no_parts q = grind (arith, nat_tests)

all_parts : (n q : ℕ) → q ≡ (if suc n == 0 then 0 else q)
all_parts n q = grind (arith, nat_tests)

names_by_bests : (p : Instance) (s : LogState) (added : List Named) (bests : List (List ℤ)) (n : ℕ) → length s.bests ≡ n → n ≡ length bests → last_best s ≡ last_or None bests → filter is_of_cut added ≡ last_cut p s → IsOfParts n (if n == 0 then 0 else parts_of p) added
names_by_bests p s added [] zero count same last h =
    let none : last_cut p s ≡ [] = rw last refl in
    ap (map (λ (m : Named). m.name)) (h ∙ none) ∙ ap (cut_names zero 0) (no_parts (parts_of p))
names_by_bests p s added [] (suc n) count same last h = absurd (cc)
names_by_bests p s added (v ∷ bests) zero count same last h = absurd (cc)
names_by_bests p s added (v ∷ bests) (suc n) count same last h =
    let there = last_there v bests in
    let cut_is : last_cut p s ≡ cut_named (suc n) 0 (cut p.objectives (vector p there.0)) = rw (last ∙ there.1, count) refl in
    ap (map (λ (m : Named). m.name)) (h ∙ cut_is)
    ∙ names_of_parts (suc n) 0 (cut p.objectives (vector p there.0))
    ∙ ap (cut_names (suc n) 0) (length-parts there.0 p.objectives ∙ all_parts n (parts_of p))

-- the store's parts are those of the last best, if there is one
pub names_of_last : (p : Instance) (log : List Entry) (added : List Named) → filter is_of_cut added ≡ last_cut p (state_of log) → IsOfParts (length (state_of log).bests) (if length (state_of log).bests == 0 then 0 else parts_of p) added
names_of_last p log added h =
    names_by_bests p (state_of log) added (best_values log) (length (state_of log).bests) refl (count_of_bests log) (last_best_of_log log) h

-- ---- lists and stores

-- one item more of a list
pub one_more : {X : Type 0} (all items new : List X) (i : ℕ) (x : X) → slice_get all i ≡ Some x → items ++ drop i all ≡ all → new ≡ items ++ x ∷ [] → new ++ drop (i + 1) all ≡ all
one_more {X = X} all items new i x there before e =
    rw e (append_assoc items (x ∷ []) (drop (i + 1) all) ∙ ap (λ (xs : List X). items ++ xs) (sym (drop_found all i x there)) ∙ before)

-- a store that differs in what was added alone
pub store_with_added : (old new : StoreState) (added : List Named) → new.vars ≡ old.vars → new.clauses ≡ old.clauses → new.added ≡ added → new ≡ record old { added = added }
store_with_added old new added e f g = rw (← e, ← f, ← g) refl
