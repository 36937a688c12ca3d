-- One step over the spans of the pieces of a line.
use Rattle.std.proofs.Common.{◌≡◌, ℕ, ◌+◌, ◌<◌, ◌≤◌, nat_lt, true, false, List, [], ◌∷◌, length, get_or, drop, refl, ap, ◌∙◌, sym, arith, drop_of_length-le}
use Rattle.std.proofs.lemmas.Bool.Decides.{nat_tests}
use Rattle.cgm_lex.specs.Pieces.{is_blank, is_run_byte}
use Rattle.cgm_lex.specs.Spans.{Span, cut_spans, mark_before, run_before, span_from, spans_after, spans_at}
use Rattle.cgm_lex.proofs.Contents.{first_of}
use Rattle.cgm_lex.proofs.Cutting.{blank_is_no_run}

-- no run stands from a place to itself
pub no_run_before : (at : ℕ) (others : List Span) → run_before at at others ≡ others
no_run_before at others =
    let e : nat_lt at at ≡ false = grind (arith, nat_tests) in
    rw e refl

pub some_run_before : (from to : ℕ) (others : List Span) → from < to → run_before from to others ≡ span_from from to ∷ others
some_run_before from to others h =
    let e : nat_lt from to ≡ true = grind (arith, nat_tests) in
    rw e refl

next_place : (start at : ℕ) → start + at + 1 ≡ start + (at + 1)
next_place start at = omega arith

-- after a byte of no run
other_byte : (bs : List ℕ) (start from at : ℕ) → at < length bs → is_run_byte (get_or bs at 0) ≡ false → cut_spans from (start + at) (drop at bs) ≡ run_before from (start + at) (mark_before (get_or bs at 0) (start + at) (spans_after start (at + 1) bs))
other_byte bs start from at h stop =
    rw (first_of bs at h) (rw stop (ap (λ next. run_before from (start + at) (mark_before (get_or bs at 0) (start + at) (spans_at next (drop (at + 1) bs)))) (next_place start at)))

pub run_goes_on : (bs : List ℕ) (start from at : ℕ) → at < length bs → is_run_byte (get_or bs at 0) ≡ true → cut_spans from (start + at) (drop at bs) ≡ cut_spans from (start + (at + 1)) (drop (at + 1) bs)
run_goes_on bs start from at h run =
    rw (first_of bs at h) (rw run (ap (λ next. cut_spans from next (drop (at + 1) bs)) (next_place start at)))

pub run_ends : (bs : List ℕ) (start from at : ℕ) → at < length bs → is_run_byte (get_or bs at 0) ≡ false → cut_spans from (start + at) (drop at bs) ≡ run_before from (start + at) (spans_after start at bs)
run_ends bs start from at h stop =
    let here = other_byte bs start from at h stop in
    let alone = other_byte bs start (start + at) at h stop ∙ no_run_before (start + at) (mark_before (get_or bs at 0) (start + at) (spans_after start (at + 1) bs)) in
    here ∙ ap (run_before from (start + at)) (sym alone)

pub no_spans_left : (bs : List ℕ) (start at : ℕ) → length bs ≤ at → spans_after start at bs ≡ []
no_spans_left bs start at h = rw (drop_of_length-le bs {i = at} h) (no_run_before (start + at) [])

pub run_ends_last : (bs : List ℕ) (start from at : ℕ) → length bs ≤ at → cut_spans from (start + at) (drop at bs) ≡ run_before from (start + at) (spans_after start at bs)
run_ends_last bs start from at h = rw (no_spans_left bs start at h) (rw (drop_of_length-le bs {i = at} h) refl)

pub blank_passed : (bs : List ℕ) (start at : ℕ) → at < length bs → is_blank (get_or bs at 0) ≡ true → spans_after start at bs ≡ spans_after start (at + 1) bs
blank_passed bs start at h blank =
    let others = spans_after start (at + 1) bs in
    let mark : mark_before (get_or bs at 0) (start + at) others ≡ others = rw blank refl in
    other_byte bs start (start + at) at h (blank_is_no_run (get_or bs at 0) blank) ∙ no_run_before (start + at) (mark_before (get_or bs at 0) (start + at) others) ∙ mark

pub mark_alone : (bs : List ℕ) (start at : ℕ) → at < length bs → is_run_byte (get_or bs at 0) ≡ false → is_blank (get_or bs at 0) ≡ false → spans_after start at bs ≡ span_from (start + at) (start + (at + 1)) ∷ spans_after start (at + 1) bs
mark_alone bs start at h stop blank =
    let others = spans_after start (at + 1) bs in
    let mark : mark_before (get_or bs at 0) (start + at) others ≡ span_from (start + at) (start + at + 1) ∷ others = rw blank refl in
    other_byte bs start (start + at) at h stop ∙ no_run_before (start + at) (mark_before (get_or bs at 0) (start + at) others) ∙ mark
    ∙ ap (λ to. span_from (start + at) to ∷ others) (next_place start at)
