-- One step over the bytes of a line that count.
use Rattle.std.proofs.Common.{◌≡◌, ℕ, ◌+◌, ◌-◌, ◌<◌, true, false, List, [], ◌∷◌, ◌++◌, length, get_or, take, drop, ap, ◌∙◌, sym, arith, drop-cons, take-suc, add-one, append_assoc, append-nil, drop-drop, position, ◌==◌, Some, slice_range}
use Rattle.std.proofs.lemmas.List.{length-drop}
use Rattle.cgm_lex.specs.Lines.{content, ends_line, lines}
use Rattle.cgm_lex.proofs.Splits.{slice_split-position_some}

pub first_of : (bs : List ℕ) (at : ℕ) → at < length bs → drop at bs ≡ get_or bs at 0 ∷ drop (at + 1) bs
first_of bs at h = rw add-one (drop-cons bs at 0 h)

pub take_more : (bs : List ℕ) (at : ℕ) → at < length bs → take (at + 1) bs ≡ take at bs ++ get_or bs at 0 ∷ []
take_more bs at h = rw add-one (take-suc bs at 0 h)

left_after : (bs : List ℕ) (at : ℕ) → length (drop (at + 1) bs) ≡ length bs - at - 1
left_after bs at = let e = length-drop (at + 1) bs in omega arith

pub content_ends : (bs : List ℕ) (at : ℕ) → at < length bs → ends_line (get_or bs at 0) (length bs - at - 1) ≡ true → content bs ≡ take at bs ++ content (drop at bs) → content bs ≡ take at bs
content_ends bs at h ends so_far =
    let ends' = rw (← left_after bs at) at ends in
    so_far ∙ rw (first_of bs at h) (rw ends' (append-nil (take at bs)))

pub content_goes_on : (bs : List ℕ) (at : ℕ) → at < length bs → ends_line (get_or bs at 0) (length bs - at - 1) ≡ false → content bs ≡ take at bs ++ content (drop at bs) → content bs ≡ take (at + 1) bs ++ content (drop (at + 1) bs)
content_goes_on bs at h goes so_far =
    let goes' = rw (← left_after bs at) at goes in
    so_far ∙ rw (first_of bs at h) (rw goes' (rw (take_more bs at h) (sym (append_assoc (take at bs) (get_or bs at 0 ∷ []) (content (drop (at + 1) bs))))))

-- the first line of a text from a place on
pub line_cut : (text : List ℕ) (from count : ℕ) → position (λ byte. byte == 10) (drop from text) ≡ Some count → lines (drop from text) ≡ slice_range text from (from + count) ∷ lines (drop (from + count + 1) text)
line_cut text from count e =
    let cut = slice_split-position_some (λ byte. byte == 10) (drop from text) count e in
    let width : from + count - from ≡ count = omega arith in
    let place : from + (count + 1) ≡ from + count + 1 = omega arith in
    cut.0 ∙ rw width (ap (λ after. take count (drop from text) ∷ lines after) (drop-drop (count + 1) from text ∙ ap (λ at. drop at text) place))
