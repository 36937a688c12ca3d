-- What the tokens of a line say is plain: its words are runs, and its numbers have 64 bits.
use Rattle.std.proofs.Common.{◌≡◌, ℕ, zero, suc, ◌<◌, ◌≤◌, ◌==◌, ℤ, pos, neg_ℤ, Bool, true, false, ◌&&◌, nat_lt, nat_le, IsTrue, List, [], ◌∷◌, ◌++◌, All, FitsSigned, Option, None, Some, Result, Ok, Err, refl, ◌∙◌, sym, subst, arith, true≢false, lit<, w64}
use Rattle.std.specs.List.{list_all}
use Rattle.std.specs.Str.{all_ascii_digits, IsAscii, IsUtf8}
use Rattle.std.specs.Str.Parse.{digits_value}
use Rattle.std.proofs.lemmas.Bool.Decides.{nat_tests}
use Rattle.std.proofs.lemmas.List.Folds.{list_all-append}
use Rattle.std.proofs.lemmas.Str.{IsUtf8-from_ascii}
use Rattle.std.proofs.lemmas.Str.Ascii.{IsAscii-cons, IsAscii-nil}
use Rattle.cgm_lex.specs.declared.token.Flaw.{Flaw}
use Rattle.cgm_lex.specs.Lexemes.{Lexeme, all_lexemes, flaws_joined, lexeme_of, line_lexemes, run_lexeme, number_or_flaw}
use Rattle.cgm_lex.specs.Lines.{content}
use Rattle.cgm_lex.specs.Numbers.{begins_number, number_of, plain_number, negative_number}
use Rattle.cgm_lex.specs.Pieces.{closed, pieces_cut, pieces, is_blank, is_run_byte}
use Rattle.cgm_lex.specs.Spelling.{IsPlain}

both : (a b : Bool) → (a && b) ≡ true → (a ≡ true) × (b ≡ true)
both true b e = (refl, e)
both false b e = cc

-- a piece that begins as a run is a run
IsPiece : List ℕ → Type 0
IsPiece [] = Unit {0}
IsPiece (b ∷ bs) = is_run_byte b ≡ true → list_all is_run_byte (b ∷ bs) ≡ true

ArePieces : List (List ℕ) → Type 0
ArePieces [] = Unit {0}
ArePieces (p ∷ ps) = IsPiece p × ArePieces ps

closed_pieces : (run : List ℕ) (others : List (List ℕ)) → list_all is_run_byte run ≡ true → ArePieces others → ArePieces (closed run others)
unfolding ArePieces IsPiece
closed_pieces [] others e are = are
closed_pieces (b ∷ bs) others e are = ((λ _. e), are)

run_push : (run : List ℕ) (b : ℕ) → list_all is_run_byte run ≡ true → is_run_byte b ≡ true → list_all is_run_byte (run ++ b ∷ []) ≡ true
run_push run b e f = list_all-append is_run_byte run (b ∷ []) ∙ rw e (rw f refl)

no_run : (b : ℕ) → is_run_byte b ≡ false → is_run_byte b ≡ true → ⊥
no_run b e f = true≢false (sym f ∙ e)

cut_cases : (run bs : List ℕ) (b : ℕ) (in_run blank : Bool) → is_run_byte b ≡ in_run → is_blank b ≡ blank → list_all is_run_byte run ≡ true → (is_run_byte b ≡ true → ArePieces (pieces_cut (run ++ b ∷ []) bs)) → ArePieces (pieces_cut [] bs) → ArePieces (pieces_cut run (b ∷ bs))
unfolding ArePieces IsPiece
cut_cases run bs b true blank e f runs pushed more = rw e (pushed e)
cut_cases run bs b false true e f runs pushed more = rw e (rw f (closed_pieces run (pieces_cut [] bs) runs more))
cut_cases run bs b false false e f runs pushed more =
    rw e (rw f (closed_pieces run ((b ∷ []) ∷ pieces_cut [] bs) runs ((λ run_byte. absurd (no_run b e run_byte)), more)))

cut_pieces : (run bs : List ℕ) → list_all is_run_byte run ≡ true → ArePieces (pieces_cut run bs)
unfolding ArePieces
cut_pieces run [] runs = closed_pieces run [] runs tt
cut_pieces run (b ∷ bs) runs =
    cut_cases run bs b (is_run_byte b) (is_blank b) refl refl runs (λ e. cut_pieces (run ++ b ∷ []) bs (run_push run b runs e)) (cut_pieces [] bs refl)

-- numbers

Fits : Option ℤ → Type 0
Fits None = Unit {0}
Fits (Some k) = FitsSigned w64 k

plain_fits : (ds : List ℕ) (digits less : Bool) → all_ascii_digits ds ≡ digits → nat_lt (digits_value 10 ds) 9223372036854775808 ≡ less → Fits (plain_number ds)
unfolding Fits
plain_fits ds true true e f = rw e (rw f (record { sfits = grind (arith, nat_tests) }))
plain_fits ds true false e f = rw e (rw f tt)
plain_fits ds false less e f = rw e tt

negative_size : (n : ℕ) → n ≤ 9223372036854775808 → FitsSigned w64 (neg_ℤ (pos n))
negative_size zero h = record { sfits = lit< tt }
negative_size (suc n) h = record { sfits = omega arith }

negative_fits : (ds : List ℕ) (digits less : Bool) → all_ascii_digits ds ≡ digits → nat_le (digits_value 10 ds) 9223372036854775808 ≡ less → Fits (negative_number ds)
unfolding Fits
negative_fits ds true true e f =
    let h : digits_value 10 ds ≤ 9223372036854775808 = grind (arith, nat_tests) in
    rw e (rw f (negative_size (digits_value 10 ds) h))
negative_fits ds true false e f = rw e (rw f tt)
negative_fits ds false less e f = rw e tt

number_fits_by : (b : ℕ) (bs : List ℕ) (minus : Bool) → (b == 45) ≡ minus → Fits (number_of (b ∷ bs))
number_fits_by b bs true e = rw e (negative_fits bs (all_ascii_digits bs) (nat_le (digits_value 10 bs) 9223372036854775808) refl refl)
number_fits_by b bs false e = rw e (plain_fits (b ∷ bs) (all_ascii_digits (b ∷ bs)) (nat_lt (digits_value 10 (b ∷ bs)) 9223372036854775808) refl refl)

-- what pieces say

IsPlainResult : Result Lexeme Flaw → Type 0
IsPlainResult (Err flaw) = Unit {0}
IsPlainResult (Ok t) = IsPlain t

ArePlain : Result (List Lexeme) Flaw → Type 0
ArePlain (Err flaw) = Unit {0}
ArePlain (Ok ts) = All IsPlain ts

plain_none : All IsPlain []
plain_none k d h = absurd (omega arith)

plain_more : (t : Lexeme) (ts : List Lexeme) → IsPlain t → All IsPlain ts → All IsPlain (t ∷ ts)
plain_more t ts here later zero d h = here
plain_more t ts here later (suc k) d h = later k d (omega (arith, h))

joined_plain : (r : Result Lexeme Flaw) (rs : Result (List Lexeme) Flaw) → IsPlainResult r → ArePlain rs → ArePlain (flaws_joined r rs)
unfolding IsPlainResult ArePlain
joined_plain (Err flaw) rs here later = tt
joined_plain (Ok t) (Err flaw) here later = tt
joined_plain (Ok t) (Ok ts) here later = plain_more t ts here later

number_plain : (o : Option ℤ) → Fits o → IsPlainResult (number_or_flaw o)
unfolding Fits IsPlainResult
number_plain None fits = tt
number_plain (Some k) fits = fits

run_plain : (b : ℕ) (bs : List ℕ) (begins : Bool) → begins_number (b ∷ bs) ≡ begins → list_all is_run_byte (b ∷ bs) ≡ true → IsPlainResult (run_lexeme (b ∷ bs))
unfolding IsPlainResult
run_plain b bs true e runs = rw e (number_plain (number_of (b ∷ bs)) (number_fits_by b bs (b == 45) refl))
run_plain b bs false e runs = rw e (omega arith, (runs, e))

byte_plain : (b : ℕ) (bs : List ℕ) (one other third in_run : Bool) → (b == 40) ≡ one → (b == 41) ≡ other → (b == 58) ≡ third → is_run_byte b ≡ in_run → IsPiece (b ∷ bs) → IsPlainResult (lexeme_of (b ∷ bs))
unfolding IsPlainResult IsPiece
byte_plain b bs true other third in_run e f g h piece = rw e tt
byte_plain b bs false true third in_run e f g h piece = rw e (rw f tt)
byte_plain b bs false false true in_run e f g h piece = rw e (rw f (rw g tt))
byte_plain b bs false false false true e f g h piece =
    rw e (rw f (rw g (rw h (run_plain b bs (begins_number (b ∷ bs)) refl (piece h)))))
byte_plain b bs false false false false e f g h piece = rw e (rw f (rw g (rw h tt)))

piece_plain : (p : List ℕ) → IsPiece p → IsPlainResult (lexeme_of p)
unfolding IsPlainResult
piece_plain [] piece = tt
piece_plain (b ∷ bs) piece = byte_plain b bs (b == 40) (b == 41) (b == 58) (is_run_byte b) refl refl refl refl piece

pieces_plain : (ps : List (List ℕ)) → ArePieces ps → ArePlain (all_lexemes ps)
unfolding ArePlain ArePieces
pieces_plain [] are = plain_none
pieces_plain (p ∷ ps) are = joined_plain (lexeme_of p) (all_lexemes ps) (piece_plain p are.0) (pieces_plain ps are.1)

pub line_is_plain : (line : List ℕ) (ts : List Lexeme) → line_lexemes line ≡ Ok ts → All IsPlain ts
unfolding ArePlain
line_is_plain line ts e = subst ArePlain e (pieces_plain (pieces (content line)) (cut_pieces [] (content line) refl))

-- a run is ASCII text

run_below : (b : ℕ) → is_run_byte b ≡ true → b < 128
run_below b e = grind (arith, nat_tests)

run_ascii : (bs : List ℕ) → list_all is_run_byte bs ≡ true → IsAscii bs
run_ascii [] e = IsAscii-nil
run_ascii (b ∷ bs) e =
    let parts = both (is_run_byte b) (list_all is_run_byte bs) e in
    IsAscii-cons b bs (run_below b parts.0) (run_ascii bs parts.1)

pub run_is_utf8 : (bs : List ℕ) → IsTrue (list_all is_run_byte bs) → IsUtf8 bs
run_is_utf8 bs e = IsUtf8-from_ascii bs (run_ascii bs e)
