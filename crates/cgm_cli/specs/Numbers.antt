-- The numbers that options give: one to twenty digits without a sign, within a range.
use Rattle.std.specs.Prelude.{ℕ, Bool, ◌&&◌, nat_le, List, length, Option, None, Some, if◌then◌else◌}
use Rattle.std.specs.Char.{is_ascii_digit}
use Rattle.std.specs.List.{list_all}
use Rattle.std.specs.Str.Parse.{digits_value}

-- one to twenty digits, leading zeros among them
abbrev pub is_numeral : List ℕ → Bool
is_numeral text =
    nat_le 1 (length text) && (nat_le (length text) 20 && list_all is_ascii_digit text)

abbrev pub is_between : ℕ → ℕ → ℕ → Bool
is_between least greatest number = nat_le least number && nat_le number greatest

-- the number that a text writes, where it is a numeral and lies in the range
unfoldable pub numeral_in : ℕ → ℕ → List ℕ → Option ℕ
numeral_in least greatest text =
    if is_numeral text && is_between least greatest (digits_value 10 text)
    then Some (digits_value 10 text) else None

-- the same of a text that may be left out, which then stands for the default
abbrev pub number_or : ℕ → ℕ → ℕ → Option (List ℕ) → Option ℕ
number_or least greatest default None = Some default
number_or least greatest default (Some text) = numeral_in least greatest text
