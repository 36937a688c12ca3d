-- A fact of each item, going through them from the front; and a word that names a file.
use Rattle.std.proofs.Common.{◌≡◌, ◌↔◌, ℕ, List, ◌∷◌, All, String, sym, subst, inl, inr}
use Rattle.std.specs.declared.alloc.Global.{Global}
use Rattle.std.specs.String.{string_bytes}
use Rattle.std.proofs.lemmas.List.Elements.{All-cons, All-head, All-rest, All-same}
use Rattle.cgm_transcripts.specs.Agreement.{IsWrittenTo, NamesFile}

-- where it holds of the first that is left, it is left to the others
pub each_step : {X : Type 0} (P : X → Type 0) (all left rest : List X) (x : X) → left ≡ x ∷ rest → P x
    → (All P all ↔ All P left) → (All P all ↔ All P rest)
each_step P all left rest x split here same = (
  (λ held. All-rest P x rest left split (same.0 held)),
  (λ held. same.1 (All-same P left (x ∷ rest) split (All-cons P x rest here held))),
)

-- where it doesn't hold of the first that is left, it doesn't hold of each
pub each_stop : {X : Type 0} (P : X → Type 0) (all left rest : List X) (x : X) → left ≡ x ∷ rest → ¬ P x
    → (All P all ↔ All P left) → ¬ All P all
each_stop P all left rest x split other same =
    λ held. other (All-head P x rest (All-same P (x ∷ rest) left (sym split) (same.0 held)))

-- a first word that names the file
pub written_here : (words : List (String Global)) (word : String Global) (rest : List (String Global)) (name : List ℕ)
    → words ≡ word ∷ rest → NamesFile (string_bytes word) name → IsWrittenTo words name
written_here words word rest name split named =
    subst (λ (w : List (String Global)). IsWrittenTo w name) (sym split) (inl named)

written_case : (word : String Global) (rest : List (String Global)) (name : List ℕ)
    → ¬ NamesFile (string_bytes word) name → IsWrittenTo (word ∷ rest) name → IsWrittenTo rest name
written_case word rest name other = elim [ inl named ↦ absurd (other named) | inr later ↦ later ]

-- a first word that doesn't
pub written_later : (all words : List (String Global)) (word : String Global) (rest : List (String Global)) (name : List ℕ)
    → words ≡ word ∷ rest → ¬ NamesFile (string_bytes word) name → (IsWrittenTo all name ↔ IsWrittenTo words name)
    → (IsWrittenTo all name ↔ IsWrittenTo rest name)
written_later all words word rest name split other same = (
  (λ held. written_case word rest name other (subst (λ (w : List (String Global)). IsWrittenTo w name) split (same.0 held))),
  (λ held. same.1 (subst (λ (w : List (String Global)). IsWrittenTo w name) (sym split) (inr held))),
)
