-- The names of a generated model: spelled as names, short, and distinct by their first letter and their number.
use Rattle.std.proofs.Common.{◌≡◌, ◌≢◌, ℕ, ◌<◌, ◌≤◌, ◌^◌, ◌&&◌, ◌||◌, ◌==◌, Bool, true, false, not, List, [], ◌∷◌, length, get_or, refl, ap, ◌∙◌, arith}
use Rattle.std.specs.Char.{is_ascii_digit}
use Rattle.std.specs.Fmt.{decimal}
use Rattle.std.specs.List.{list_all}
use Rattle.std.specs.Str.{all_ascii_digits}
use Rattle.std.specs.Str.Parse.{digits_value}
use Rattle.std.proofs.lemmas.Bool.{and_from, and_parts, false≢true}
use Rattle.std.proofs.lemmas.Fmt.{decimal_injective, digits_decimal, length-decimal-le}
use Rattle.std.proofs.lemmas.List.{append_cancel_left}
use Rattle.std.proofs.lemmas.Str.Parse.{IsNumeralModel, numerals_by_value, tells_all_ascii_digits}
use Rattle.cgm_lex.specs.Names.{continues_name, is_spelled, starts_name}
use Rattle.cgm_model.specs.Name.{is_name, is_reserved}

-- a letter and a number
abbrev pub lettered : ℕ → ℕ → List ℕ
lettered letter number = letter ∷ decimal number

-- ---- names apart

-- names of one letter are the same only where their numbers are
pub same_number : (letter j k : ℕ) → j < 2 ^ 64 → k < 2 ^ 64 → lettered letter j ≡ lettered letter k → j ≡ k
same_number letter j k small other e =
    decimal_injective j k small other (append_cancel_left (letter ∷ []) (decimal j) (decimal k) e)

-- names of two letters never are
pub same_letter : (one other j k : ℕ) → lettered one j ≡ lettered other k → one ≡ other
same_letter one other j k e = ap (λ (name : List ℕ). get_or name 0 0) e

pub lower_letter : (one other j k : ℕ) → one < other → lettered one j ≢ lettered other k
lower_letter one other j k less = λ e. let same : one ≡ other = same_letter one other j k e in omega (arith, same, less)

pub higher_letter : (one other j k : ℕ) → other < one → lettered one j ≢ lettered other k
higher_letter one other j k less = λ e. let same : one ≡ other = same_letter one other j k e in omega (arith, same, less)

-- ---- names as such

pub short : (letter number : ℕ) → number < 10000 → length (lettered letter number) ≤ 5
short letter number small = omega (arith, length-decimal-le 4 number (omega arith) (omega (arith, small)) (omega (arith, small)))

digits : IsNumeralModel (λ text. all_ascii_digits text ≡ true) (digits_value 10)
digits = numerals_by_value (λ text. all_ascii_digits text ≡ true) tells_all_ascii_digits

all_digits : (text : List ℕ) → list_all is_ascii_digit text ≡ all_ascii_digits text
all_digits [] = refl
all_digits (byte ∷ text) = ap (λ rest. is_ascii_digit byte && rest) (all_digits text)

-- a digit continues a name
digit_in : (starts digit dash point : Bool) → digit ≡ true → (starts || digit || dash || point) ≡ true
digit_in true digit dash point e = refl
digit_in false true dash point e = refl
digit_in false false dash point e = absurd (false≢true e)

digits_continue : (bs : List ℕ) → list_all is_ascii_digit bs ≡ true → list_all continues_name bs ≡ true
digits_continue [] e = refl
digits_continue (b ∷ bs) e =
    let parts = and_parts (is_ascii_digit b) (list_all is_ascii_digit bs) e in
    and_from (continues_name b) (list_all continues_name bs)
    (digit_in (starts_name b) (is_ascii_digit b) (b == 45) (b == 46) parts.0)
    (digits_continue bs parts.1)

-- a letter that begins a name and no reserved word, and a number
pub name_spelled : (letter number : ℕ) → number < 10000 → starts_name letter ≡ true → not (is_reserved (lettered letter number)) ≡ true → is_name (lettered letter number) ≡ true
name_spelled letter number small starts free =
    let few : number < 2 ^ 64 = omega (arith, small) in
    let ascii : all_ascii_digits (decimal number) ≡ true = digits_decimal digits number few in
    let digits_alone : list_all is_ascii_digit (decimal number) ≡ true = all_digits (decimal number) ∙ ascii in
    let spelled : is_spelled (lettered letter number) ≡ true =
    and_from (starts_name letter) (list_all continues_name (decimal number)) starts (digits_continue (decimal number) digits_alone) in
    and_from (is_spelled (lettered letter number)) (not (is_reserved (lettered letter number))) spelled free
