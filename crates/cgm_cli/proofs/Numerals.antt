-- The number that a text of digits writes is what its parse gives.
use Rattle.std.proofs.Common.{◌≡◌, ℕ, ◌<◌, ◌^◌, Bool, true, false, ◌&&◌, nat_le, nat_lt, List, [], ◌∷◌, length, Result, OkIff, refl, sym, ap, subst, ◌∙◌, arith, if◌then◌else◌}
use Rattle.std.specs.declared.option.Option.TheVariants.{None, Some}
use Rattle.std.specs.Char.{is_ascii_digit}
use Rattle.std.specs.List.{list_all}
use Rattle.std.specs.Str.{all_ascii_digits}
use Rattle.std.specs.Str.Parse.{ParsesUnsigned, digits_value}
use Rattle.std.proofs.lemmas.Bool.Decides.{nat_tests}
use Rattle.std.proofs.lemmas.Str.Parse.{IsNumeralModel, numerals_by_value, parse_digits, tells_all_ascii_digits}
use Rattle.cgm_cli.specs.Numbers.{is_between, is_numeral, numeral_in}

digits : IsNumeralModel (λ text. all_ascii_digits text ≡ true) (digits_value 10)
digits = numerals_by_value (λ text. all_ascii_digits text ≡ true) tells_all_ascii_digits

all_digits : (text : List ℕ) → list_all is_ascii_digit text ≡ all_ascii_digits text
all_digits [] = refl
all_digits (byte ∷ text) = ap (λ rest. is_ascii_digit byte && rest) (all_digits text)

-- ---- two tests

parts : (p q : Bool) → (p && q) ≡ true → (p ≡ true) × (q ≡ true)
parts true q both = (refl, both)
parts false q both = (both, absurd (cc))

false_at_right : (p q : Bool) → q ≡ false → (p && q) ≡ false
false_at_right true q fails = fails
false_at_right false q fails = refl

some_by : (n : ℕ) (p : Bool) → p ≡ true → Some n ≡ (if p then Some n else None)
some_by n p holds = rw holds refl

none_by : (n : ℕ) (p : Bool) → p ≡ false → None ≡ (if p then Some n else None)
none_by n p fails = rw fails refl

-- ---- numerals

record IsNumeral (text : List ℕ) : Type 0 where
  some : 0 < length text
  digits_alone : all_ascii_digits text ≡ true

numeral : (text : List ℕ) → is_numeral text ≡ true → IsNumeral text
numeral text is =
    let outer = parts (nat_le 1 (length text)) (nat_le (length text) 20 && list_all is_ascii_digit text) is in
    let inner = parts (nat_le (length text) 20) (list_all is_ascii_digit text) outer.1 in
    let long : nat_le 1 (length text) ≡ true = outer.0 in
    record { some = grind (arith, nat_tests); digits_alone = sym (all_digits text) ∙ inner.1 }

-- what the parse of a numeral gives
pub parsed : {E : Type 0} (text : List ℕ) (r : Result ℕ E) → is_numeral text ≡ true → ParsesUnsigned 64 10 text r → OkIff r ((0 < length text) × (digits_value 10 text < 2 ^ 64)) (digits_value 10 text)
parsed text r is parses = parse_digits digits 64 text r parses (numeral text is).digits_alone

-- ---- the number of a text

pub no_numeral : (least greatest : ℕ) (text : List ℕ) → is_numeral text ≡ false → None ≡ numeral_in least greatest text
unfolding numeral_in
no_numeral least greatest text fails =
    none_by (digits_value 10 text) (is_numeral text && is_between least greatest (digits_value 10 text))
    (rw fails refl)

pub within : (least greatest n : ℕ) (text : List ℕ) → is_numeral text ≡ true → n ≡ digits_value 10 text → is_between least greatest n ≡ true → Some n ≡ numeral_in least greatest text
unfolding numeral_in
within least greatest n text numeral value between =
    subst (λ k. Some k ≡ numeral_in least greatest text) (sym value)
    (some_by (digits_value 10 text) (is_numeral text && is_between least greatest (digits_value 10 text))
    (rw numeral (subst (λ k. is_between least greatest k ≡ true) value between)))

outside : (least greatest : ℕ) (text : List ℕ) → is_between least greatest (digits_value 10 text) ≡ false → None ≡ numeral_in least greatest text
unfolding numeral_in
outside least greatest text fails =
    none_by (digits_value 10 text) (is_numeral text && is_between least greatest (digits_value 10 text))
    (false_at_right (is_numeral text) (is_between least greatest (digits_value 10 text)) fails)

pub not_within : (least greatest n : ℕ) (text : List ℕ) → n ≡ digits_value 10 text → is_between least greatest n ≡ false → None ≡ numeral_in least greatest text
not_within least greatest n text value fails =
    outside least greatest text (subst (λ k. is_between least greatest k ≡ false) value fails)

above : (least greatest n : ℕ) → greatest < n → is_between least greatest n ≡ false
above least greatest n more =
    let fails : nat_le n greatest ≡ false = grind (arith, nat_tests) in
    false_at_right (nat_le least n) (nat_le n greatest) fails

too_great_by : (least greatest : ℕ) (text : List ℕ) (less : Bool) → nat_lt (digits_value 10 text) (2 ^ 64) ≡ less → 0 < length text → greatest < 2 ^ 64 → ¬ ((0 < length text) × (digits_value 10 text < 2 ^ 64)) → None ≡ numeral_in least greatest text
too_great_by least greatest text true less some fits not = absurd (not (some, grind (arith, nat_tests)))
too_great_by least greatest text false less some fits not =
    let more : greatest < digits_value 10 text = grind (arith, nat_tests) in
    outside least greatest text (above least greatest (digits_value 10 text) more)

pub too_great : (least greatest : ℕ) (text : List ℕ) → is_numeral text ≡ true → greatest < 2 ^ 64 → ¬ ((0 < length text) × (digits_value 10 text < 2 ^ 64)) → None ≡ numeral_in least greatest text
too_great least greatest text is fits not =
    too_great_by least greatest text (nat_lt (digits_value 10 text) (2 ^ 64)) refl (numeral text is).some fits not
