-- The spans of a line's pieces have the bytes of these pieces.
use Rattle.std.proofs.Common.{◌≡◌, ℕ, ◌+◌, ◌<◌, ◌≤◌, Bool, true, false, List, [], ◌∷◌, ◌++◌, length, get_or, drop, map, slice_range, if◌then◌else◌, inl, inr, refl, ap, ◌∙◌, sym, arith}
use Rattle.std.proofs.lemmas.Bool.{cases_lt}
use Rattle.std.proofs.lemmas.List.{length-drop}
use Rattle.std.proofs.lemmas.List.Edits.{between_more}
use Rattle.cgm_lex.specs.Pieces.{closed, pieces_cut, is_blank, is_run_byte, pieces}
use Rattle.cgm_lex.specs.Spans.{Span, cut_spans, mark_before, part_of, run_before, spans_at}
use Rattle.cgm_lex.proofs.Contents.{first_of}
use Rattle.cgm_lex.proofs.Cutting.{no_bytes, run_piece, single_byte}
use Rattle.cgm_lex.proofs.Spanning.{no_run_before, some_run_before}

-- a run that stands before others
part_of_run : (words : List ℕ) (from at : ℕ) (others : List Span) → from ≤ at → at ≤ length words → map (part_of words) (run_before from at others) ≡ closed (slice_range words from at) (map (part_of words) others)
part_of_run words from at others order inside =
    elim (cases_lt from at) [
      | inl less ↦
          ap (map (part_of words)) (some_run_before from at others less) ∙ sym (run_piece words from at (map (part_of words) others) less inside)
      | inr not_less ↦
          let same : from ≡ at = omega arith in
          rw same (ap (map (part_of words)) (no_run_before at others) ∙ sym (ap (λ run. closed run (map (part_of words) others)) (no_bytes words at)))
    ]

-- a byte of no run that stands before others
part_of_mark : (words bytes : List ℕ) (byte at : ℕ) (others : List Span) (blank : Bool) → is_blank byte ≡ blank → slice_range words at (at + 1) ≡ byte ∷ [] → map (part_of words) others ≡ pieces_cut [] bytes → map (part_of words) (mark_before byte at others) ≡ (if is_blank byte then pieces_cut [] bytes else (byte ∷ []) ∷ pieces_cut [] bytes)
part_of_mark words bytes byte at others true e single later = rw e later
part_of_mark words bytes byte at others false e single later = rw e (rw single (rw later refl))

-- what the spans of the bytes after this place say, where a run goes on and where none does
record IsLater (words bytes : List ℕ) (from at : ℕ) : Type 0 where
  run : map (part_of words) (cut_spans from (at + 1) bytes) ≡ pieces_cut (slice_range words from (at + 1)) bytes
  none : map (part_of words) (cut_spans (at + 1) (at + 1) bytes) ≡ pieces_cut (slice_range words (at + 1) (at + 1)) bytes

one_more : (words bytes : List ℕ) (byte from at : ℕ) (run : Bool) → is_run_byte byte ≡ run → byte ≡ get_or words at 0 → from ≤ at → at < length words → IsLater words bytes from at → map (part_of words) (cut_spans from at (byte ∷ bytes)) ≡ pieces_cut (slice_range words from at) (byte ∷ bytes)
one_more words bytes byte from at true e first order some later =
    rw e (later.run ∙ ap (λ run. pieces_cut run bytes) (between_more words from at 0 order some ∙ ap (λ b. slice_range words from at ++ b ∷ []) (sym first)))
one_more words bytes byte from at false e first order some later =
    let others = cut_spans (at + 1) (at + 1) bytes in
    let none = later.none ∙ ap (λ run. pieces_cut run bytes) (no_bytes words (at + 1)) in
    let single = single_byte words at some ∙ ap (λ b. b ∷ []) (sym first) in
    rw e (part_of_run words from at (mark_before byte at others) order (omega arith) ∙ ap (closed (slice_range words from at)) (part_of_mark words bytes byte at others (is_blank byte) refl single none))

some_left : (words bytes : List ℕ) (byte at : ℕ) → byte ∷ bytes ≡ drop at words → at < length words
some_left words bytes byte at e = let size = ap length e in omega (arith, size, length-drop at words)

parts_from : (words bytes : List ℕ) (from at : ℕ) → bytes ≡ drop at words → from ≤ at → at ≤ length words → map (part_of words) (cut_spans from at bytes) ≡ pieces_cut (slice_range words from at) bytes
parts_from words [] from at e order inside = part_of_run words from at [] order inside
parts_from words (byte ∷ bytes) from at e order inside =
    let some = some_left words bytes byte at e in
    let both : byte ∷ bytes ≡ get_or words at 0 ∷ drop (at + 1) words = e ∙ first_of words at some in
    let first : byte ≡ get_or words at 0 = cc in
    let next : bytes ≡ drop (at + 1) words = cc in
    one_more words bytes byte from at (is_run_byte byte) refl first order some (record {
      run = parts_from words bytes from (at + 1) next (omega arith) (omega arith);
      none = parts_from words bytes (at + 1) (at + 1) next (omega arith) (omega arith);
    })

pub spans_are_pieces : (words : List ℕ) → map (part_of words) (spans_at 0 words) ≡ pieces words
spans_are_pieces words = parts_from words words 0 0 refl (omega arith) (omega arith)
