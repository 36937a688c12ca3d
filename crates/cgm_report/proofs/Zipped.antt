-- The text of lists, one more place of them at a time.
use Rattle.std.proofs.Common.{◌≡◌, ◌∙◌, ◌++◌, ◌+◌, ◌<◌, ◌≤◌, ℕ, List, [], ◌∷◌, length, drop, get_or, ap, ap₂, sym, subst, append_assoc}
use Rattle.std.proofs.lemmas.List.{append-nil, drop_all, drop_more}
use Rattle.cgm_report.specs.Answers.{spent_line, spent_lines}

-- what is written of two lists: of each place, then of the rest
pub record IsZipped {X Y : Type 0} (say : X → Y → List ℕ) (lines : List X → List Y → List ℕ) : Type 0 where
  pub more : (x : X) (y : Y) (xs : List X) (ys : List Y) → lines (x ∷ xs) (y ∷ ys) ≡ say x y ++ lines xs ys

pub zipped_at : {X Y : Type 0} (say : X → Y → List ℕ) (lines : List X → List Y → List ℕ) → IsZipped say lines
    → (xs : List X) (ys : List Y) (i : ℕ) (dx : X) (dy y : Y) → i < length xs → length ys ≡ length xs → y ≡ get_or ys i dy → (start old new : List ℕ)
    → old ++ lines (drop i xs) (drop i ys) ≡ start → new ≡ old ++ say (get_or xs i dx) y
    → new ++ lines (drop (i + 1) xs) (drop (i + 1) ys) ≡ start
zipped_at {X} {Y} say lines zipped xs ys i dx dy y within same y_is start old new so_far pushed =
    let x = get_or xs i dx in
    let there : i < length ys = subst (λ (n : ℕ). i < n) (sym same) within in
    let rest = lines (drop (i + 1) xs) (drop (i + 1) ys) in
    let opened : lines (drop i xs) (drop i ys) ≡ say x y ++ rest =
    ap₂ lines (drop_more xs i dx within) (drop_more ys i dy there) ∙ zipped.more x (get_or ys i dy) (drop (i + 1) xs) (drop (i + 1) ys) ∙ ap (λ (z : Y). say x z ++ rest) (sym y_is) in
    ap (λ (bs : List ℕ). bs ++ rest) pushed ∙ append_assoc old (say x y) rest ∙ ap (λ (bs : List ℕ). old ++ bs) (sym opened) ∙ so_far

-- past the last place nothing is left
pub zipped_all : {X Y : Type 0} (lines : List X → List Y → List ℕ) → ((ys : List Y) → lines [] ys ≡ []) → (xs : List X) (ys : List Y) (i : ℕ) → length xs ≤ i → (start new : List ℕ)
    → new ++ lines (drop i xs) (drop i ys) ≡ start → new ≡ start
zipped_all {X} {Y} lines none xs ys i past start new so_far =
    sym (append-nil new)
    ∙ ap (λ (bs : List ℕ). new ++ bs) (sym (none (drop i ys)))
    ∙ ap (λ (zs : List X). new ++ lines zs (drop i ys)) (sym (drop_all i xs past))
    ∙ so_far

-- one more worker
pub spent_more : (spent : List ℕ) (i d : ℕ) → i < length spent → (start old new : List ℕ)
    → old ++ spent_lines i (drop i spent) ≡ start → new ≡ old ++ spent_line i (get_or spent i d)
    → new ++ spent_lines (i + 1) (drop (i + 1) spent) ≡ start
spent_more spent i d within start old new so_far pushed =
    let one = spent_line i (get_or spent i d) in
    let rest = spent_lines (i + 1) (drop (i + 1) spent) in
    ap (λ (bs : List ℕ). bs ++ rest) pushed ∙ append_assoc old one rest
    ∙ ap (λ (xs : List ℕ). old ++ spent_lines i xs) (sym (drop_more spent i d within)) ∙ so_far
