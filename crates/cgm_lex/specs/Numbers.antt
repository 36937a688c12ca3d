-- Which runs are to be numbers, and the number of 64 bits that a run writes.
use Rattle.std.specs.Prelude.{ℕ, ◌==◌, ℤ, pos, neg_ℤ, Bool, false, ◌&&◌, ◌||◌, nat_le, nat_lt, List, [], ◌∷◌, Option, None, Some, if◌then◌else◌}
use Rattle.std.specs.Char.{is_ascii_digit}
use Rattle.std.specs.Str.{all_ascii_digits}
use Rattle.std.specs.Str.Parse.{digits_value}

-- a digit, or a minus sign and a digit, stands first
abbrev pub begins_number : List ℕ → Bool
begins_number [] = false
begins_number (byte ∷ []) = is_ascii_digit byte
begins_number (byte ∷ next ∷ bytes) = is_ascii_digit byte || ((byte == 45) && is_ascii_digit next)

-- the number that digits alone write, where it is less than 2 to the 63
abbrev pub plain_number : List ℕ → Option ℤ
plain_number digits =
    if all_ascii_digits digits && nat_lt (digits_value 10 digits) 9223372036854775808
    then Some (pos (digits_value 10 digits)) else None

-- the number that digits after a minus sign write, where its size is at most 2 to the 63
abbrev pub negative_number : List ℕ → Option ℤ
negative_number digits =
    if all_ascii_digits digits && nat_le (digits_value 10 digits) 9223372036854775808
    then Some (neg_ℤ (pos (digits_value 10 digits))) else None

-- the number that a run writes
abbrev pub number_of : List ℕ → Option ℤ
number_of [] = None
number_of (byte ∷ bytes) = if byte == 45 then negative_number bytes else plain_number (byte ∷ bytes)
