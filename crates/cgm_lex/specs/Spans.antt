-- Where each piece of a line stands.
use Rattle.std.specs.Prelude.{ℕ, ◌+◌, nat_lt, List, [], ◌∷◌, ◌++◌, Result, Ok, Err, length, drop, if◌then◌else◌}
use Rattle.std.specs.List.{slice_range}
use Rattle.cgm_lex.specs.declared.token.Flaw.{Flaw}
use Rattle.cgm_lex.specs.declared.token.Token.{Token}
use Rattle.cgm_lex.specs.Lexemes.{Lexeme, line_lexemes}
use Rattle.cgm_lex.specs.Lines.{content}
use Rattle.cgm_lex.specs.Pieces.{is_blank, is_run_byte}

-- from one place to before another
pub record Span : Type 0 where
  pub from : ℕ
  pub to : ℕ

abbrev pub span_from : ℕ → ℕ → Span
span_from from to = record { from = from; to = to }

-- the bytes of a span
abbrev pub part_of : List ℕ → Span → List ℕ
part_of bytes span = slice_range bytes span.from span.to

-- the span of a token
abbrev pub span_of : Token → Span
span_of token = span_from token.from token.to

-- the run from one place to before another stands before these, where it has a byte
abbrev pub run_before : ℕ → ℕ → List Span → List Span
run_before from to others = if nat_lt from to then span_from from to ∷ others else others

-- the byte at this place, which is of no run, stands before these, where it is no blank
abbrev pub mark_before : ℕ → ℕ → List Span → List Span
mark_before byte at others = if is_blank byte then others else span_from at (at + 1) ∷ others

-- the spans of the run that began at the place `from` and of the bytes after it, of which the first is at `at`
abbrev pub cut_spans : ℕ → ℕ → List ℕ → List Span
cut_spans from at [] = run_before from at []
cut_spans from at (byte ∷ bytes) =
    if is_run_byte byte then cut_spans from (at + 1) bytes
    else run_before from at (mark_before byte at (cut_spans (at + 1) (at + 1) bytes))

-- the spans of the pieces of these bytes, of which the first is at this place
abbrev pub spans_at : ℕ → List ℕ → List Span
spans_at at bytes = cut_spans at at bytes

-- the spans of the pieces of a line from this place of it on, where the line begins at the place `start`
abbrev pub spans_after : ℕ → ℕ → List ℕ → List Span
spans_after start at words = spans_at (start + at) (drop at words)

-- the spans of the tokens of the line that begins at this place
abbrev pub line_spans : ℕ → List ℕ → List Span
line_spans at line = spans_at at (content line)

-- the spans of one line's tokens, before those of the lines after it
abbrev pub spans_before : Result (List Lexeme) Flaw → List Span → List Span → List Span
spans_before (Err flaw) spans others = []
spans_before (Ok lexemes) spans others = spans ++ others

-- the spans of the tokens of the lines before the first faulty one; the first of these lines begins at this place
abbrev pub text_spans : ℕ → List (List ℕ) → List Span
text_spans at [] = []
text_spans at (bytes ∷ more) =
    spans_before (line_lexemes bytes) (line_spans at bytes) (text_spans (at + length bytes + 1) more)
