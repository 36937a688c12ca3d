-- The index of a log, entry by entry, and the state that it tells.
use Rattle.std.proofs.Common.{◌≡◌, ℕ, Bool, List, [], ◌∷◌, ◌++◌, length, take, refl, ap, sym, subst, ◌∙◌, ◌≤◌, append_assoc, append-nil, arith}
use Rattle.std.specs.declared.option.Option.{Option}
use Rattle.std.specs.declared.option.Option.TheVariants.{Some}
use Rattle.std.proofs.lemmas.List.{length_push, length-take, take-append-le}
use Rattle.cgm_atom.specs.declared.entries.Entry.{Entry}
use Rattle.cgm_atom.specs.declared.entries.Entry.TheVariants.{Best, Lemma}
use Rattle.cgm_atom.specs.LogState.{LogState, places_with, state_of, state_with}
use Rattle.cgm_atom.proofs.StateLemmas.{state_of-entries, state_of-push}
use Rattle.cgm_step.specs.Indexing.{Index, IsLogIndexOf, empty_index, index_after, index_of, index_with, indexed_state}

pub own_begins : (index : Index) → index ≡ empty_index → IsLogIndexOf index []
unfolding state_of
own_begins index e = e

abbrev index_from : ℕ → List ℕ → Bool → Index
index_from entries bests closed = record { entries = entries; bests = bests; closed = closed }

index_of-state_with : (s : LogState) (e : Entry) → index_of (state_with s e) ≡ index_with (index_of s) e
index_of-state_with s e =
    ap (λ (n : ℕ). index_from n (places_with (length s.entries) s.bests e) (state_with s e).closed) (length_push s.entries (Some e))

pub own_next : (old new : Index) (e : Entry) → new ≡ index_with old e → (log : List Entry) → IsLogIndexOf old log → IsLogIndexOf new (log ++ e ∷ [])
own_next old new e h log own =
    h ∙ ap (λ (i : Index). index_with i e) own ∙ sym (index_of-state_with (state_of log) e) ∙ sym (ap index_of (state_of-push log e))

pub own_after : (old new : Index) (more : List Entry) → new ≡ index_after old more → (log : List Entry) → IsLogIndexOf old log → IsLogIndexOf new (log ++ more)
own_after old new [] h log own = subst (λ (xs : List Entry). IsLogIndexOf new xs) (sym (append-nil log)) (h ∙ own)
own_after old new (e ∷ more) h log own =
    subst (λ (xs : List Entry). IsLogIndexOf new xs) (append_assoc log (e ∷ []) more)
    (own_after (index_with old e) new more h (log ++ e ∷ []) (own_next old (index_with old e) e refl log own))

-- the places of the bests so far stay in front
front_within : (n : ℕ) (places front : List ℕ) → take n places ≡ front → n ≡ length front → n ≤ length places
front_within n places front h same =
    let count : length (take n places) ≡ length front = ap length h in
    let least = length-take n places in
    omega (arith, count, least)

front_pushed : (front places : List ℕ) (n : ℕ) → take (length front) places ≡ front → take (length front) (places ++ n ∷ []) ≡ front
front_pushed front places n h =
    take-append-le (length front) places (n ∷ []) (front_within (length front) places front h refl) ∙ h

pub front_stays : (front : List ℕ) (now : Index) (e : Entry) → take (length front) now.bests ≡ front → take (length front) (index_with now e).bests ≡ front
front_stays front now (Best by values) h = front_pushed front now.bests _ h
front_stays front now (Lemma by clause hints bound) h = h

-- a log and its index tell the state of the log
pub state_by_index : (log : List Entry) (index : Index) → IsLogIndexOf index log → indexed_state log index ≡ state_of log
state_by_index log index own =
    ap (indexed_state log) own ∙ ap (λ (xs : List (Option Entry)). record (state_of log) { entries = xs }) (sym (state_of-entries log))
