-- One step over the pieces of a line.
use Rattle.std.proofs.Common.{◌≡◌, ℕ, ◌+◌, ◌-◌, ◌<◌, ◌≤◌, true, false, List, [], ◌∷◌, ◌++◌, length, get_or, drop, slice_range, refl, ap, ◌∙◌, sym, arith, drop_of_length-le}
use Rattle.std.proofs.lemmas.Bool.Decides.{nat_tests}
use Rattle.std.proofs.lemmas.List.Edits.{between_more, length-between}
use Rattle.cgm_lex.specs.Pieces.{closed, pieces_cut, pieces, is_blank, is_run_byte}
use Rattle.cgm_lex.proofs.Contents.{first_of}

-- a blank is in no run
pub blank_is_no_run : (b : ℕ) → is_blank b ≡ true → is_run_byte b ≡ false
blank_is_no_run b e = grind (arith, nat_tests)

pub blank_step : (bs : List ℕ) (at : ℕ) → at < length bs → is_blank (get_or bs at 0) ≡ true → pieces (drop at bs) ≡ pieces (drop (at + 1) bs)
blank_step bs at h blank =
    rw (first_of bs at h) (rw (blank_is_no_run (get_or bs at 0) blank) (rw blank refl))

pub nothing_left : (bs run : List ℕ) (at : ℕ) → length bs ≤ at → pieces_cut run (drop at bs) ≡ closed run (pieces_cut [] (drop at bs))
nothing_left bs run at h = rw (drop_of_length-le bs {i = at} h) refl

pub run_step : (bs : List ℕ) (from at : ℕ) → from ≤ at → at < length bs → is_run_byte (get_or bs at 0) ≡ true → pieces_cut (slice_range bs from at) (drop at bs) ≡ pieces_cut (slice_range bs from (at + 1)) (drop (at + 1) bs)
run_step bs from at order h run =
    rw (first_of bs at h) (rw run (rw (between_more bs from at 0 order h) refl))

pub run_stops : (bs run : List ℕ) (at : ℕ) → at < length bs → is_run_byte (get_or bs at 0) ≡ false → pieces_cut run (drop at bs) ≡ closed run (pieces_cut [] (drop at bs))
run_stops bs run at h stop = rw (first_of bs at h) (rw stop refl)

closed_is : (run : List ℕ) (others : List (List ℕ)) → 0 < length run → closed run others ≡ run ∷ others
closed_is [] others h = absurd (omega arith)
closed_is (b ∷ bs) others h = refl

pub run_piece : (bs : List ℕ) (from to : ℕ) (others : List (List ℕ)) → from < to → to ≤ length bs → closed (slice_range bs from to) others ≡ slice_range bs from to ∷ others
run_piece bs from to others order h =
    closed_is (slice_range bs from to) others (omega (arith, length-between bs from to h))

pub no_bytes : (bs : List ℕ) (from : ℕ) → slice_range bs from from ≡ []
no_bytes bs from = let e : from - from ≡ 0 = omega arith in rw e refl

pub single_byte : (bs : List ℕ) (from : ℕ) → from < length bs → slice_range bs from (from + 1) ≡ get_or bs from 0 ∷ []
single_byte bs from h =
    between_more bs from from 0 (omega arith) h ∙ ap (λ front. front ++ get_or bs from 0 ∷ []) (no_bytes bs from)

first_alone : (bs : List ℕ) (from : ℕ) → from < length bs → is_run_byte (get_or bs from 0) ≡ false → is_blank (get_or bs from 0) ≡ false → pieces (drop from bs) ≡ (get_or bs from 0 ∷ []) ∷ pieces (drop (from + 1) bs)
first_alone bs from h run blank = rw (first_of bs from h) (rw run (rw blank refl))

pub single_piece : (bs : List ℕ) (from : ℕ) → from < length bs → is_run_byte (get_or bs from 0) ≡ false → is_blank (get_or bs from 0) ≡ false → pieces (drop from bs) ≡ slice_range bs from (from + 1) ∷ pieces (drop (from + 1) bs)
single_piece bs from h run blank =
    first_alone bs from h run blank ∙ ap (λ piece. piece ∷ pieces (drop (from + 1) bs)) (sym (single_byte bs from h))
