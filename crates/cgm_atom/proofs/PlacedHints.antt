-- What becomes of hints to pending lemmas that get their places.
use Rattle.std.proofs.Common.{◌≡◌, ℕ, suc, ◌+◌, ◌-◌, ◌≤◌, Bool, true, false, nat_lt, List, [], ◌∷◌, ◌++◌, length, refl, ap, ◌∙◌, arith}
use Rattle.std.specs.Prelude.{slice_get, if◌then◌else◌}
use Rattle.std.specs.declared.option.Option.{Option}
use Rattle.std.specs.declared.option.Option.TheVariants.{Some, None}
use Rattle.std.specs.Option.{option_and_then, option_map, option_map_or}
use Rattle.std.proofs.lemmas.Bool.{lt-ltb, ltb-true}
use Rattle.std.proofs.lemmas.Option.{slice_get-map}
use Rattle.cgm_atom.specs.declared.entries.Entry.{Entry}
use Rattle.cgm_atom.specs.declared.entries.Entry.TheVariants.{Best, Lemma}
use Rattle.cgm_atom.specs.declared.entries.Hint.{Hint}
use Rattle.cgm_atom.specs.declared.entries.Hint.TheVariants as hint
use Rattle.cgm_atom.specs.Constraints.{of_clause}
use Rattle.cgm_atom.specs.Instance.{Instance}
use Rattle.cgm_atom.specs.LogState.{LogState, carried, item_at, lemma_bound, lemma_clause, live_at, named, state_of}
use Rattle.cgm_atom.specs.Placing.{IsBefore, PlacedCarryPending, PlacedNamePending, all_placed, pending, placed, placed_entry}
use Rattle.cgm_atom.specs.Ranges.{IsPlaced}
use Rattle.cgm_atom.proofs.StateLemmas.{live_at-log}

-- ---- the way back

later_place : (n i : ℕ) (t : Bool) → nat_lt n (n + i) ≡ t → 1 ≤ i → (if t then hint.Own (n + i - n) else hint.Entry (n + i)) ≡ hint.Own i
later_place n i true e h = let same : n + i - n ≡ i = omega arith in ap hint.Own same
later_place n i false e h =
    let less : nat_lt n (n + i) ≡ true = lt-ltb n (n + i) (omega arith) in
    absurd (cc)

earlier_place : (n place : ℕ) (t : Bool) → nat_lt n place ≡ t → place ≤ n → (if t then hint.Own (place - n) else hint.Entry place) ≡ hint.Entry place
earlier_place n place true e h = absurd (omega (arith, ltb-true n place e))
earlier_place n place false e h = refl

pub placed_come_back : (n : ℕ) (h : Hint) → IsBefore n h → pending n (placed n h) ≡ h
placed_come_back n (hint.Clause number) before = refl
placed_come_back n (hint.Row number) before = refl
placed_come_back n (hint.Entry place) before = earlier_place n place (nat_lt n place) refl before
placed_come_back n (hint.Own i) before = later_place n i (nat_lt n (n + i)) refl before
placed_come_back n (hint.Cut ordinal part) before = refl

pub placed_stay : (n : ℕ) (h : Hint) → IsPlaced h → placed n h ≡ h
placed_stay n (hint.Clause number) is_placed = refl
placed_stay n (hint.Row number) is_placed = refl
placed_stay n (hint.Entry place) is_placed = refl
placed_stay n (hint.Own i) is_placed = absurd is_placed
placed_stay n (hint.Cut ordinal part) is_placed = refl

pub placed_are_placed : (n : ℕ) (h : Hint) → IsPlaced (placed n h)
placed_are_placed n (hint.Clause number) = tt
placed_are_placed n (hint.Row number) = tt
placed_are_placed n (hint.Entry place) = tt
placed_are_placed n (hint.Own i) = tt
placed_are_placed n (hint.Cut ordinal part) = tt

-- ---- what placed hints name

after_first : (log more : List Entry) (i : ℕ) → slice_get (log ++ more) (length log + i) ≡ slice_get more i
after_first [] more i = let none : 0 + i ≡ i = omega arith in ap (slice_get more) none
after_first (e ∷ log) more i =
    let one : suc (length log) + i ≡ suc (length log + i) = omega arith in
    ap (slice_get (e ∷ log ++ more)) one ∙ after_first log more i

-- the live entry that stands i places past the log is the pending lemma with this number, placed
pub live_pending : (log lemmas : List Entry) (i : ℕ) → live_at (state_of (log ++ all_placed (length log) lemmas)) (length log + (i + 1)) ≡ option_map (placed_entry (length log)) (slice_get lemmas i)
live_pending log lemmas i =
    let all : List Entry = log ++ all_placed (length log) lemmas in
    let next : length log + (i + 1) ≡ suc (length log + i) = omega arith in
    live_at-log all (length log + (i + 1))
    ∙ ap (item_at all) next
    ∙ after_first log (all_placed (length log) lemmas) i
    ∙ slice_get-map (placed_entry (length log)) lemmas i

entry_named : (p : Instance) (s : LogState) (place : ℕ) → named p s (hint.Entry place) ≡ option_map of_clause (option_and_then lemma_clause (live_at s place))
unfolding named
entry_named p s place = refl

entry_carried : (s : LogState) (place : ℕ) → carried s (hint.Entry place) ≡ option_map_or lemma_bound (live_at s place) 0
unfolding carried
entry_carried s place = refl

placed_clause : (n : ℕ) (o : Option Entry) → option_and_then lemma_clause (option_map (placed_entry n) o) ≡ option_and_then lemma_clause o
placed_clause n None = refl
placed_clause n (Some (Best by values)) = refl
placed_clause n (Some (Lemma by clause hints bound)) = refl

placed_bound : (n : ℕ) (o : Option Entry) → option_map_or lemma_bound (option_map (placed_entry n) o) 0 ≡ option_map_or lemma_bound o 0
placed_bound n None = refl
placed_bound n (Some (Best by values)) = refl
placed_bound n (Some (Lemma by clause hints bound)) = refl

pub placed_name_pending : PlacedNamePending
placed_name_pending p log lemmas i =
    let n = length log in
    entry_named p (state_of (log ++ all_placed n lemmas)) (n + (i + 1))
    ∙ ap (λ (o : Option Entry). option_map of_clause (option_and_then lemma_clause o)) (live_pending log lemmas i)
    ∙ ap (option_map of_clause) (placed_clause n (slice_get lemmas i))

pub placed_carry_pending : PlacedCarryPending
placed_carry_pending log lemmas i =
    let n = length log in
    entry_carried (state_of (log ++ all_placed n lemmas)) (n + (i + 1))
    ∙ ap (λ (o : Option Entry). option_map_or lemma_bound o 0) (live_pending log lemmas i)
    ∙ placed_bound n (slice_get lemmas i)
