-- A part of a part of a text is a part of the text.
use Rattle.std.proofs.Common.{◌≡◌, ℕ, ◌+◌, ◌-◌, ◌≤◌, true, false, Bool, List, [], ◌∷◌, length, take, drop, slice_range, refl, ap, ◌∙◌, sym, arith}
use Rattle.std.proofs.lemmas.List.{drop-take, take-take, drop-drop, length-take}
use Rattle.std.proofs.lemmas.List.Edits.{length-between}
use Rattle.cgm_lex.specs.Lines.{content, ends_line}

slice_of_take : {A : Type 0} (xs : List A) (n from to : ℕ) → from ≤ to → to ≤ n → slice_range (take n xs) from to ≡ slice_range xs from to
slice_of_take xs n from to order h =
    let whole : n ≡ from + (n - from) = omega arith in
    let cut = ap (λ m. take (to - from) (drop from (take m xs))) whole ∙ ap (take (to - from)) (drop-take from (n - from) xs) in
    cut ∙ take-take (to - from) (n - from) (drop from xs) (omega arith)

slice_of_drop : {A : Type 0} (xs : List A) (start from to : ℕ) → slice_range (drop start xs) from to ≡ slice_range xs (start + from) (start + to)
slice_of_drop xs start from to =
    let width : (start + to) - (start + from) ≡ to - from = omega arith in
    ap (take (to - from)) (drop-drop from start xs) ∙ ap (λ w. take w (drop (start + from) xs)) (sym width)

content_cases : (b : ℕ) (bs : List ℕ) (ends : Bool) → ends_line b (length bs) ≡ ends → content bs ≡ take (length (content bs)) bs → content (b ∷ bs) ≡ take (length (content (b ∷ bs))) (b ∷ bs)
content_cases b bs true e same = rw e refl
content_cases b bs false e same = rw e (ap (λ front. b ∷ front) same)

-- what counts of a line is its front
pub content_front : (bs : List ℕ) → content bs ≡ take (length (content bs)) bs
content_front [] = refl
content_front (b ∷ bs) = content_cases b bs (ends_line b (length bs)) refl (content_front bs)

pub content_within : (bs : List ℕ) → length (content bs) ≤ length bs
content_within bs = let e = ap length (content_front bs) in omega (arith, e, length-take (length (content bs)) bs)

-- the part of a line's content is the part of the text
pub part_is : (text words : List ℕ) (start end from to : ℕ) → words ≡ content (slice_range text start end) → start ≤ end → end ≤ length text → from ≤ to → to ≤ length words → slice_range text (start + from) (start + to) ≡ slice_range words from to
part_is text words start end from to e order inside order' h =
    let line = slice_range text start end in
    let size : length line ≡ end - start = length-between text start end inside in
    let count : length words ≤ length line = rw e (content_within line) in
    let front : words ≡ take (length words) line = rw e (content_front line) in
    let in_text = slice_of_drop text start from to in
    let in_line = slice_of_take (drop start text) (end - start) from to order' (omega arith) in
    let in_words = slice_of_take line (length words) from to order' h in
    sym (ap (λ ws. slice_range ws from to) front ∙ in_words ∙ in_line ∙ in_text)
