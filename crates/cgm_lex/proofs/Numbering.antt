-- What std's parse says of a run that begins as a number.
use Rattle.std.proofs.Common.{◌≡◌, ◌≢◌, ℕ, ◌<◌, ◌≤◌, ◌==◌, ℤ, pos, neg_ℤ, Bool, true, false, nat_lt, nat_le, List, [], ◌∷◌, length, Some, Result, Ok, Err, OkIff, refl, ap, sym, arith, w64, ◌⊎◌, inl, inr}
use Rattle.std.specs.Char.{is_ascii_digit}
use Rattle.std.specs.Result.{result_ok}
use Rattle.std.specs.Str.{all_ascii_digits}
use Rattle.std.specs.Str.Parse.{digits_value, ParsesSigned}
use Rattle.std.proofs.lemmas.Bool.Decides.{nat_tests}
use Rattle.std.proofs.lemmas.Str.Parse.{IsNumeralModel, numerals_by_value, tells_all_ascii_digits, parse_signed_minus, parse_signed_plain}
use Rattle.cgm_lex.specs.Numbers.{begins_number, number_of, plain_number, negative_number}

pub own : IsNumeralModel (λ ds. all_ascii_digits ds ≡ true) (digits_value 10)
own = numerals_by_value (λ ds. all_ascii_digits ds ≡ true) tells_all_ascii_digits

plain_is : {E : Type 0} (r : Result ℤ E) (ds : List ℕ) (digits less : Bool) → all_ascii_digits ds ≡ digits → nat_lt (digits_value 10 ds) 9223372036854775808 ≡ less → 0 < length ds → OkIff r ((all_ascii_digits ds ≡ true) × (0 < length ds) × (digits_value 10 ds < 9223372036854775808)) (pos (digits_value 10 ds)) → plain_number ds ≡ result_ok r
plain_is (Ok x) ds true true a b some h = rw a (rw b (ap Some (sym h.1)))
plain_is (Ok x) ds true false a b some h = absurd (grind (arith, nat_tests))
plain_is (Ok x) ds false less a b some h = absurd (cc)
plain_is (Err e) ds true true a b some h = absurd (h (a, some, grind (arith, nat_tests)))
plain_is (Err e) ds true false a b some h = rw a (rw b refl)
plain_is (Err e) ds false less a b some h = rw a refl

negative_is : {E : Type 0} (r : Result ℤ E) (ds : List ℕ) (digits less : Bool) → all_ascii_digits ds ≡ digits → nat_le (digits_value 10 ds) 9223372036854775808 ≡ less → 0 < length ds → OkIff r ((all_ascii_digits ds ≡ true) × (0 < length ds) × (digits_value 10 ds ≤ 9223372036854775808)) (neg_ℤ (pos (digits_value 10 ds))) → negative_number ds ≡ result_ok r
negative_is (Ok x) ds true true a b some h = rw a (rw b (ap Some (sym h.1)))
negative_is (Ok x) ds true false a b some h = absurd (grind (arith, nat_tests))
negative_is (Ok x) ds false less a b some h = absurd (cc)
negative_is (Err e) ds true true a b some h = absurd (h (a, some, grind (arith, nat_tests)))
negative_is (Err e) ds true false a b some h = rw a (rw b refl)
negative_is (Err e) ds false less a b some h = rw a refl

digit_is_no_minus : (b : ℕ) → is_ascii_digit b ≡ true → (b == 45) ≡ false
digit_is_no_minus b e = grind (arith, nat_tests)

digit_is_no_plus : (b : ℕ) → is_ascii_digit b ≡ true → b ≢ 43
digit_is_no_plus b e = λ f. absurd (grind (arith, nat_tests))

digit_run : {E : Type 0} (r : Result ℤ E) (b : ℕ) (bs : List ℕ) → is_ascii_digit b ≡ true → ParsesSigned w64 10 (b ∷ bs) r → number_of (b ∷ bs) ≡ result_ok r
digit_run r b bs e parses =
    rw (digit_is_no_minus b e) (plain_is r (b ∷ bs) (all_ascii_digits (b ∷ bs)) (nat_lt (digits_value 10 (b ∷ bs)) 9223372036854775808) refl refl (omega arith) (parse_signed_plain own w64 (b ∷ bs) r parses (digit_is_no_plus b e) (λ f. absurd (grind (arith, nat_tests)))))

minus_run : {E : Type 0} (r : Result ℤ E) (bs : List ℕ) → 0 < length bs → ParsesSigned w64 10 (45 ∷ bs) r → number_of (45 ∷ bs) ≡ result_ok r
minus_run r bs some parses =
    negative_is r bs (all_ascii_digits bs) (nat_le (digits_value 10 bs) 9223372036854775808) refl refl some (parse_signed_minus own w64 (45 ∷ bs) r parses refl)

second_of : (b c : ℕ) (bs : List ℕ) (digit : Bool) → is_ascii_digit b ≡ digit → begins_number (b ∷ c ∷ bs) ≡ true → (is_ascii_digit b ≡ true) ⊎ (b ≡ 45)
second_of b c bs true e begins = inl e
second_of b c bs false e begins = inr (grind (arith, nat_tests))

pub number_is : {E : Type 0} (r : Result ℤ E) (bs : List ℕ) → begins_number bs ≡ true → ParsesSigned w64 10 bs r → number_of bs ≡ result_ok r
number_is r [] begins parses = cc
number_is r (b ∷ []) begins parses = digit_run r b [] begins parses
number_is r (b ∷ c ∷ bs) begins parses =
    elim (second_of b c bs (is_ascii_digit b) refl begins) [
      | inl digit ↦ digit_run r b (c ∷ bs) digit parses
      | inr minus ↦ rw minus (minus_run r (c ∷ bs) (omega arith) (rw minus at parses))
    ]
