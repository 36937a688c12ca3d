-- A canonical line is lexed again as its tokens.
use Rattle.std.proofs.Common.{◌≡◌, ◌≢◌, ℕ, zero, suc, ◌<◌, ◌≤◌, ◌==◌, ℤ, pos, negsuc, Bool, true, false, ◌&&◌, ◌||◌, nat_lt, nat_le, List, [], ◌∷◌, ◌++◌, length, map, All, codes, decimal, FitsSigned, Some, Ok, refl, ap, ◌∙◌, sym, arith, append_assoc, append-nil, if◌then◌else◌, w64}
use Rattle.std.specs.List.{list_all}
use Rattle.std.specs.Char.{is_ascii_digit}
use Rattle.std.specs.Fmt.{signed_decimal}
use Rattle.std.specs.Str.{all_ascii_digits}
use Rattle.std.specs.Str.Parse.{digits_value}
use Rattle.std.proofs.lemmas.Bool.Decides.{nat_tests}
use Rattle.std.proofs.lemmas.Fmt.{decimal_nonempty, digits_decimal, digits_value-decimal}
use Rattle.std.proofs.lemmas.List.Folds.{list_all-append}
use Rattle.cgm_lex.specs.Lexemes.{Lexeme, opening, closing, colon, number, word, all_lexemes, lexeme_of, line_lexemes, run_lexeme}
use Rattle.cgm_lex.specs.Lines.{content, ends_line}
use Rattle.cgm_lex.specs.Numbers.{begins_number, number_of, plain_number, negative_number}
use Rattle.cgm_lex.specs.Pieces.{closed, pieces_cut, pieces, is_run_byte}
use Rattle.cgm_lex.specs.Spelling.{IsPlain, gap, is_closing_bracket, is_opening, spelled_line, text_of}
use Rattle.cgm_lex.proofs.Numbering.{own}

-- bytes of a canonical line

is_clean : ℕ → Bool
is_clean b = is_run_byte b || ((b == 32) || ((b == 40) || ((b == 41) || (b == 58))))

both : (a b : Bool) → (a && b) ≡ true → (a ≡ true) × (b ≡ true)
both true b e = (refl, e)
both false b e = cc

joins : (a b : Bool) → a ≡ true → b ≡ true → (a && b) ≡ true
joins a b e f = rw e f

run_is_clean : (b : ℕ) → is_run_byte b ≡ true → is_clean b ≡ true
unfolding is_clean
run_is_clean b e = rw e refl

clean_ends_no_line : (b n : ℕ) → is_clean b ≡ true → ends_line b n ≡ false
unfolding is_clean
clean_ends_no_line b n e = grind (arith, nat_tests)

clean_is_no_feed : (b : ℕ) → is_clean b ≡ true → b ≢ 10
unfolding is_clean
clean_is_no_feed b e = λ f. absurd (grind (arith, nat_tests))

runs_are_clean : (bs : List ℕ) → list_all is_run_byte bs ≡ true → list_all is_clean bs ≡ true
runs_are_clean [] e = refl
runs_are_clean (b ∷ bs) e =
    let parts = both (is_run_byte b) (list_all is_run_byte bs) e in
    joins (is_clean b) (list_all is_clean bs) (run_is_clean b parts.0) (runs_are_clean bs parts.1)

content_of_clean : (bs : List ℕ) → list_all is_clean bs ≡ true → content bs ≡ bs
content_of_clean [] e = refl
content_of_clean (b ∷ bs) e =
    let parts = both (is_clean b) (list_all is_clean bs) e in
    rw (clean_ends_no_line b (length bs) parts.0) (ap (λ more. b ∷ more) (content_of_clean bs parts.1))

no_feed_more : (b : ℕ) (bs : List ℕ) → b ≢ 10 → All (λ byte. byte ≢ 10) bs → All (λ byte. byte ≢ 10) (b ∷ bs)
no_feed_more b bs here later zero d h = here
no_feed_more b bs here later (suc k) d h = later k d (omega arith)

no_feed : (bs : List ℕ) → list_all is_clean bs ≡ true → All (λ byte. byte ≢ 10) bs
no_feed [] e = λ k d h. absurd (omega arith)
no_feed (b ∷ bs) e =
    let parts = both (is_clean b) (list_all is_clean bs) e in
    no_feed_more b bs (clean_is_no_feed b parts.0) (no_feed bs parts.1)

-- numbers

digit_runs : (b : ℕ) → is_ascii_digit b ≡ true → is_run_byte b ≡ true
digit_runs b e = grind (arith, nat_tests)

digits_run : (ds : List ℕ) → all_ascii_digits ds ≡ true → list_all is_run_byte ds ≡ true
digits_run [] e = refl
digits_run (d ∷ ds) e =
    let parts = both (is_ascii_digit d) (all_ascii_digits ds) e in
    joins (is_run_byte d) (list_all is_run_byte ds) (digit_runs d parts.0) (digits_run ds parts.1)

digits_begin : (ds : List ℕ) → all_ascii_digits ds ≡ true → 0 < length ds → begins_number ds ≡ true
digits_begin [] e some = absurd (omega arith)
digits_begin (d ∷ []) e some = (both (is_ascii_digit d) true e).0
digits_begin (d ∷ c ∷ ds) e some = rw ((both (is_ascii_digit d) (all_ascii_digits (c ∷ ds)) e).0) refl

minus_begins : (ds : List ℕ) → all_ascii_digits ds ≡ true → 0 < length ds → begins_number (45 ∷ ds) ≡ true
minus_begins [] e some = absurd (omega arith)
minus_begins (d ∷ ds) e some = (both (is_ascii_digit d) (all_ascii_digits ds) e).0

digit_is_no_minus : (b : ℕ) → is_ascii_digit b ≡ true → (b == 45) ≡ false
digit_is_no_minus b e = grind (arith, nat_tests)

plain_of_digits : (ds : List ℕ) → all_ascii_digits ds ≡ true → 0 < length ds → number_of ds ≡ plain_number ds
plain_of_digits [] e some = absurd (omega arith)
plain_of_digits (d ∷ ds) e some = rw (digit_is_no_minus d (both (is_ascii_digit d) (all_ascii_digits ds) e).0) refl

less_is : (n : ℕ) → n < 9223372036854775808 → nat_lt n 9223372036854775808 ≡ true
less_is n h = grind (arith, nat_tests)

most_is : (n : ℕ) → n ≤ 9223372036854775808 → nat_le n 9223372036854775808 ≡ true
most_is n h = grind (arith, nat_tests)

plain_is_read : (ds : List ℕ) (n : ℕ) → all_ascii_digits ds ≡ true → digits_value 10 ds ≡ n → n < 9223372036854775808 → plain_number ds ≡ Some (pos n)
plain_is_read ds n digits value h = rw digits (rw value (rw (less_is n h) refl))

negative_is_read : (ds : List ℕ) (n : ℕ) → all_ascii_digits ds ≡ true → digits_value 10 ds ≡ suc n → n < 9223372036854775808 → negative_number ds ≡ Some (negsuc n)
negative_is_read ds n digits value h = rw digits (rw value (rw (most_is (suc n) (omega arith)) refl))

-- what the printing of a number needs
record IsRead (k : ℤ) : Type 0 where
  some : 0 < length (signed_decimal k)
  runs : list_all is_run_byte (signed_decimal k) ≡ true
  begins : begins_number (signed_decimal k) ≡ true
  says : number_of (signed_decimal k) ≡ Some k

number_is_read : (k : ℤ) → FitsSigned w64 k → IsRead k
number_is_read (pos n) fits =
    let small : n < 9223372036854775808 = fits.sfits in
    let ds = decimal n in
    let some : 0 < length ds = decimal_nonempty n (omega arith) in
    let digits : all_ascii_digits ds ≡ true = digits_decimal own n (omega arith) in
    let value : digits_value 10 ds ≡ n = digits_value-decimal own n (omega arith) in
    record {
      some = some;
      runs = digits_run ds digits;
      begins = digits_begin ds digits some;
      says = plain_of_digits ds digits some ∙ plain_is_read ds n digits value small;
    }
number_is_read (negsuc n) fits =
    let small : n < 9223372036854775808 = fits.sfits in
    let ds = decimal (suc n) in
    let some : 0 < length ds = decimal_nonempty (suc n) (omega arith) in
    let digits : all_ascii_digits ds ≡ true = digits_decimal own (suc n) (omega arith) in
    let value : digits_value 10 ds ≡ suc n = digits_value-decimal own (suc n) (omega arith) in
    record {
      some = omega arith;
      runs = digits_run ds digits;
      begins = minus_begins ds digits some;
      says = negative_is_read ds n digits value small;
    }

-- pieces

run_is_no_bracket : (b : ℕ) → is_run_byte b ≡ true → ((b == 40) ≡ false) × (((b == 41) ≡ false) × ((b == 58) ≡ false))
run_is_no_bracket b e = (grind (arith, nat_tests), (grind (arith, nat_tests), grind (arith, nat_tests)))

run_says : (bs : List ℕ) → list_all is_run_byte bs ≡ true → 0 < length bs → lexeme_of bs ≡ run_lexeme bs
run_says [] e some = absurd (omega arith)
run_says (b ∷ bs) e some =
    let run = (both (is_run_byte b) (list_all is_run_byte bs) e).0 in
    let apart = run_is_no_bracket b run in
    rw apart.0 (rw apart.1.0 (rw apart.1.1 (rw run refl)))

lexeme_is_read : (t : Lexeme) → IsPlain t → lexeme_of (text_of t) ≡ Ok t
lexeme_is_read opening plain = refl
lexeme_is_read closing plain = refl
lexeme_is_read colon plain = refl
lexeme_is_read (number k) plain =
    let is = number_is_read k plain in
    run_says (signed_decimal k) is.runs is.some ∙ rw is.begins (rw is.says refl)
lexeme_is_read (word bs) plain = run_says bs plain.1.0 plain.0 ∙ rw plain.1.1 refl

Stops : List ℕ → Type 0
Stops rest = (run : List ℕ) → pieces_cut run rest ≡ closed run (pieces_cut [] rest)

cut_runs : (run bs rest : List ℕ) → list_all is_run_byte bs ≡ true → pieces_cut run (bs ++ rest) ≡ pieces_cut (run ++ bs) rest
cut_runs run [] rest e = ap (λ r. pieces_cut r rest) (sym (append-nil run))
cut_runs run (b ∷ bs) rest e =
    let parts = both (is_run_byte b) (list_all is_run_byte bs) e in
    rw parts.0 (cut_runs (run ++ b ∷ []) bs rest parts.1 ∙ ap (λ r. pieces_cut r rest) (append_assoc run (b ∷ []) bs))

closed_is : (run : List ℕ) (others : List (List ℕ)) → 0 < length run → closed run others ≡ run ∷ others
closed_is [] others h = absurd (omega arith)
closed_is (b ∷ bs) others h = refl

run_first : (bs rest : List ℕ) → list_all is_run_byte bs ≡ true → 0 < length bs → Stops rest → pieces_cut [] (bs ++ rest) ≡ bs ∷ pieces_cut [] rest
unfolding Stops
run_first bs rest e some stops = cut_runs [] bs rest e ∙ stops bs ∙ closed_is bs (pieces_cut [] rest) some

stops_at_end : Stops []
unfolding Stops
stops_at_end run = refl

stops_before : (next : Lexeme) (more : List Lexeme) → Stops ((if is_closing_bracket next then [] else codes " ") ++ spelled_line (next ∷ more))
unfolding Stops
stops_before opening more run = refl
stops_before closing [] run = refl
stops_before closing (t ∷ ts) run = refl
stops_before colon more run = refl
stops_before (number k) more run = refl
stops_before (word bs) more run = refl

gap_is_blank : (none : Bool) (rest : List ℕ) → pieces_cut [] ((if none then [] else codes " ") ++ rest) ≡ pieces_cut [] rest
gap_is_blank true rest = refl
gap_is_blank false rest = refl

piece_first : (t next : Lexeme) (more : List Lexeme) → IsPlain t → pieces_cut [] (text_of t ++ (gap t next ++ spelled_line (next ∷ more))) ≡ text_of t ∷ pieces_cut [] (gap t next ++ spelled_line (next ∷ more))
piece_first opening next more plain = refl
piece_first closing next more plain = refl
piece_first colon next more plain = refl
piece_first (number k) next more plain =
    let is = number_is_read k plain in
    run_first (signed_decimal k) (gap (number k) next ++ spelled_line (next ∷ more)) is.runs is.some (stops_before next more)
piece_first (word bs) next more plain =
    run_first bs (gap (word bs) next ++ spelled_line (next ∷ more)) plain.1.0 plain.0 (stops_before next more)

piece_last : (t : Lexeme) → IsPlain t → pieces_cut [] (text_of t) ≡ text_of t ∷ []
piece_last opening plain = refl
piece_last closing plain = refl
piece_last colon plain = refl
piece_last (number k) plain =
    let is = number_is_read k plain in
    ap (pieces_cut []) (sym (append-nil (signed_decimal k))) ∙ run_first (signed_decimal k) [] is.runs is.some stops_at_end
piece_last (word bs) plain = ap (pieces_cut []) (sym (append-nil bs)) ∙ run_first bs [] plain.1.0 plain.0 stops_at_end

first_plain : (t : Lexeme) (ts : List Lexeme) → All IsPlain (t ∷ ts) → IsPlain t
first_plain t ts plain = plain 0 t (omega arith)

others_plain : (t : Lexeme) (ts : List Lexeme) → All IsPlain (t ∷ ts) → All IsPlain ts
others_plain t ts plain = λ k d h. plain (suc k) d (omega (arith, h))

pieces_of_line : (ts : List Lexeme) → All IsPlain ts → pieces_cut [] (spelled_line ts) ≡ map text_of ts
pieces_of_line [] plain = refl
pieces_of_line (t ∷ []) plain = piece_last t (first_plain t [] plain)
pieces_of_line (t ∷ next ∷ more) plain =
    piece_first t next more (first_plain t (next ∷ more) plain)
    ∙ ap (λ ps. text_of t ∷ ps) (gap_is_blank (is_opening t || is_closing_bracket next) (spelled_line (next ∷ more)) ∙ pieces_of_line (next ∷ more) (others_plain t (next ∷ more) plain))

says_all : (ts : List Lexeme) → All IsPlain ts → all_lexemes (map text_of ts) ≡ Ok ts
says_all [] plain = refl
says_all (t ∷ ts) plain =
    let first = lexeme_is_read t (first_plain t ts plain) in
    let others = says_all ts (others_plain t ts plain) in
    rw first (rw others refl)

text_is_clean : (t : Lexeme) → IsPlain t → list_all is_clean (text_of t) ≡ true
unfolding is_clean
text_is_clean opening plain = refl
text_is_clean closing plain = refl
text_is_clean colon plain = refl
text_is_clean (number k) plain = runs_are_clean (signed_decimal k) (number_is_read k plain).runs
text_is_clean (word bs) plain = runs_are_clean bs plain.1.0

gap_is_clean : (none : Bool) → list_all is_clean (if none then [] else codes " ") ≡ true
unfolding is_clean
gap_is_clean true = refl
gap_is_clean false = refl

clean_append : (xs ys : List ℕ) → list_all is_clean xs ≡ true → list_all is_clean ys ≡ true → list_all is_clean (xs ++ ys) ≡ true
clean_append xs ys e f = list_all-append is_clean xs ys ∙ joins (list_all is_clean xs) (list_all is_clean ys) e f

line_is_clean : (ts : List Lexeme) → All IsPlain ts → list_all is_clean (spelled_line ts) ≡ true
line_is_clean [] plain = refl
line_is_clean (t ∷ []) plain = text_is_clean t (first_plain t [] plain)
line_is_clean (t ∷ next ∷ more) plain =
    clean_append (text_of t) (gap t next ++ spelled_line (next ∷ more)) (text_is_clean t (first_plain t (next ∷ more) plain)) (clean_append (gap t next) (spelled_line (next ∷ more)) (gap_is_clean (is_opening t || is_closing_bracket next)) (line_is_clean (next ∷ more) (others_plain t (next ∷ more) plain)))

pub line_is_read : (ts : List Lexeme) → All IsPlain ts → line_lexemes (spelled_line ts) ≡ Ok ts
line_is_read ts plain =
    ap (λ bs. all_lexemes (pieces bs)) (content_of_clean (spelled_line ts) (line_is_clean ts plain))
    ∙ ap all_lexemes (pieces_of_line ts plain) ∙ says_all ts plain

pub line_has_no_feed : (ts : List Lexeme) → All IsPlain ts → All (λ byte. byte ≢ 10) (spelled_line ts)
line_has_no_feed ts plain = no_feed (spelled_line ts) (line_is_clean ts plain)
