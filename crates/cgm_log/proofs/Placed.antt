-- Hints of a batch can be placed. That changes neither what is kept of a candidate nor the index of a log.
use Rattle.std.proofs.Common.{◌≡◌, ℕ, ◌^◌, ◌<◌, List, [], ◌∷◌, ◌++◌, length, get_or, refl, sym, ap, ◌∙◌, subst, arith}
use Rattle.std.specs.Prelude.{ℤ}
use Rattle.std.specs.List.{All}
use Rattle.std.specs.declared.option.Option.{Option}
use Rattle.std.specs.declared.option.Option.TheVariants.{Some, None}
use Rattle.cgm_atom.specs.declared.entries.Entry.{Entry}
use Rattle.cgm_atom.specs.declared.entries.Entry.TheVariants.{Best, Lemma}
use Rattle.cgm_atom.specs.declared.entries.Hint.{Hint}
use Rattle.cgm_atom.specs.declared.entries.Hint.TheVariants as hint
use Rattle.cgm_atom.specs.Instance.{Instance}
use Rattle.cgm_atom.specs.LogState.{LogState, last_best, state_of}
use Rattle.cgm_atom.specs.Placing.{CanBePlaced, HintsCanBePlaced, IsBefore, all_placed, placed_entry}
use Rattle.cgm_atom.specs.Ranges.{IsHintInRange}
use Rattle.cgm_step.specs.Indexing.{Index, IsLogIndexOf, index_after, index_of, index_with}
use Rattle.cgm_step.proofs.States.{own_after}
use Rattle.cgm_log.specs.declared.batches.Fate.{Fate}
use Rattle.cgm_log.specs.declared.batches.Fate.TheVariants.{Behind, Kept}
use Rattle.cgm_log.specs.Landing.{IsLemmaOf, fate_after, kept_candidate, kept_entry}

-- ---- hints that can be placed

hint_placed : (n seen : ℕ) (h : Hint) → n < 2 ^ 63 → IsBefore seen h → IsHintInRange h → CanBePlaced n h
hint_placed n seen (hint.Clause number) small before range = tt
hint_placed n seen (hint.Row number) small before range = tt
hint_placed n seen (hint.Entry place) small before range = tt
hint_placed n seen (hint.Own i) small before range = (before, omega arith)
hint_placed n seen (hint.Cut ordinal part) small before range = tt

lemma_placed : (n seen by : ℕ) (e : Entry) → n < 2 ^ 63 → IsLemmaOf by seen e → HintsCanBePlaced n e
lemma_placed n seen by (Best maker values) small h = absurd h
lemma_placed n seen by (Lemma maker clause hints bound) small h =
    λ k d short. hint_placed n seen (get_or hints k d) small (h.2 k d short) (h.1.2 k d short)

pub batch_placed : (n seen by : ℕ) (lemmas : List Entry) → n < 2 ^ 63 → All (IsLemmaOf by seen) lemmas → All (HintsCanBePlaced n) lemmas
batch_placed n seen by lemmas small h = λ k d short. lemma_placed n seen by (get_or lemmas k d) small (h k d short)

-- ---- the candidate

entry_has_no_hints : (n by : ℕ) (values : List ℤ) (fate : Fate) → all_placed n (kept_entry by values fate) ≡ kept_entry by values fate
entry_has_no_hints n by values (Kept ordinal) = refl
entry_has_no_hints n by values (Behind ordinal best) = refl

candidate_has_no_hints : (n : ℕ) (p : Instance) (s : LogState) (by : ℕ) (candidate : Option (List ℤ)) → all_placed n (kept_candidate p s by candidate) ≡ kept_candidate p s by candidate
candidate_has_no_hints n p s by None = refl
candidate_has_no_hints n p s by (Some values) = entry_has_no_hints n by values (fate_after p (length s.bests) (last_best s) values)

pub kept_has_no_hints : (n : ℕ) (p : Instance) (s : LogState) (by : ℕ) (candidate : Option (List ℤ)) (kept : List Entry) → kept ≡ kept_candidate p s by candidate → all_placed n kept ≡ kept
kept_has_no_hints n p s by candidate kept same =
    subst (λ (xs : List Entry). all_placed n xs ≡ xs) (sym same) (candidate_has_no_hints n p s by candidate)

-- ---- what lands

pub placed_landing : (n : ℕ) (lemmas kept : List Entry) → all_placed n kept ≡ kept → all_placed n (lemmas ++ kept) ≡ all_placed n lemmas ++ kept
placed_landing n [] kept same = same
placed_landing n (e ∷ lemmas) kept same = ap (λ (xs : List Entry). placed_entry n e ∷ xs) (placed_landing n lemmas kept same)

-- ---- the index

index_after_placed : (i : Index) (n : ℕ) (entries : List Entry) → index_after i (all_placed n entries) ≡ index_after i entries
index_after_placed i n [] = refl
index_after_placed i n (Best by values ∷ entries) = index_after_placed (index_with i (Best by values)) n entries
index_after_placed i n (Lemma by clause hints bound ∷ entries) = index_after_placed (index_with i (Lemma by clause hints bound)) n entries

index_of_placed : (index : Index) (log entries : List Entry) (n : ℕ) → IsLogIndexOf index (log ++ entries) → IsLogIndexOf index (log ++ all_placed n entries)
index_of_placed index log entries n own =
    let i = index_of (state_of log) in
    own
    ∙ sym (own_after i (index_after i entries) entries refl log refl)
    ∙ sym (index_after_placed i n entries)
    ∙ own_after i (index_after i (all_placed n entries)) (all_placed n entries) refl log refl

-- the index after the landing, whose entries were placed once it was made
pub indexed_landing : (index : Index) (old same new whole landing placed : List Entry) (n : ℕ) → IsLogIndexOf index (old ++ whole) → same ≡ old → landing ≡ whole → placed ≡ all_placed n landing → new ≡ same ++ placed → IsLogIndexOf index new
indexed_landing index old same new whole landing placed n own e f g h =
    subst (λ (xs : List Entry). IsLogIndexOf index xs)
    (sym (h
    ∙ ap (λ (xs : List Entry). xs ++ placed) e
    ∙ ap (λ (xs : List Entry). old ++ xs) g
    ∙ ap (λ (xs : List Entry). old ++ all_placed n xs) f))
    (index_of_placed index old whole n own)
