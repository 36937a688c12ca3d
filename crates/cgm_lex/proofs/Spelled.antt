-- What is spelled as a name is a word, and a text.
use Rattle.std.proofs.Common.{◌≡◌, ℕ, ◌==◌, true, false, List, [], ◌∷◌, refl, arith}
use Rattle.std.specs.Char.{is_ascii_digit}
use Rattle.std.specs.List.{list_all}
use Rattle.std.specs.Str.{IsUtf8}
use Rattle.std.proofs.lemmas.Bool.{and_parts}
use Rattle.std.proofs.lemmas.Bool.Decides.{nat_tests}
use Rattle.cgm_lex.specs.Lexemes.{word}
use Rattle.cgm_lex.specs.Numbers.{begins_number}
use Rattle.cgm_lex.specs.Pieces.{is_run_byte}
use Rattle.cgm_lex.specs.Spelling.{IsPlain}
use Rattle.cgm_lex.proofs.Plain.{run_is_utf8}
use Rattle.cgm_lex.specs.Names.{continues_name, is_spelled, starts_name}

start_runs : (b : ℕ) → starts_name b ≡ true → is_run_byte b ≡ true
start_runs b e = grind (arith, nat_tests)

start_is_no_digit : (b : ℕ) → starts_name b ≡ true → is_ascii_digit b ≡ false
start_is_no_digit b e = grind (arith, nat_tests)

start_is_no_minus : (b : ℕ) → starts_name b ≡ true → (b == 45) ≡ false
start_is_no_minus b e = grind (arith, nat_tests)

continue_runs : (b : ℕ) → continues_name b ≡ true → is_run_byte b ≡ true
continue_runs b e = grind (arith, nat_tests)

continues_run : (bs : List ℕ) → list_all continues_name bs ≡ true → list_all is_run_byte bs ≡ true
continues_run [] e = refl
continues_run (b ∷ bs) e =
    let parts = and_parts (continues_name b) (list_all continues_name bs) e in
    rw (continue_runs b parts.0) (continues_run bs parts.1)

no_number : (b : ℕ) (bs : List ℕ) → starts_name b ≡ true → begins_number (b ∷ bs) ≡ false
no_number b [] e = start_is_no_digit b e
no_number b (c ∷ bs) e = rw (start_is_no_digit b e) (rw (start_is_no_minus b e) refl)

pub spelled_plain : (n : List ℕ) → is_spelled n ≡ true → IsPlain (word n)
spelled_plain [] e = cc
spelled_plain (b ∷ bs) e =
    let parts = and_parts (starts_name b) (list_all continues_name bs) e in
    (omega arith, (rw (start_runs b parts.0) (continues_run bs parts.1), no_number b bs parts.0))

pub spelled_utf8 : (n : List ℕ) → is_spelled n ≡ true → IsUtf8 n
spelled_utf8 n e = run_is_utf8 n (spelled_plain n e).1.0
