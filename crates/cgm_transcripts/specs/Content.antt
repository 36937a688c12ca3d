-- The bytes that content lines spell.
use Rattle.std.specs.Prelude.{ℕ, ◌+◌, ◌-◌, ◌*◌, ◌%◌, ◌==◌, nat_le, Bool, true, false, ◌&&◌, List, [], ◌∷◌, ◌++◌, length, take, reverse, take_while, Option, Some, None, option_and_then, option_map, if◌then◌else◌}

-- a printable byte of ASCII, which may stand for itself; a backslash is looked at before
abbrev pub is_plain : ℕ → Bool
is_plain byte = nat_le 32 byte && nat_le byte 126

-- the byte that a letter after a backslash stands for
abbrev pub letter_byte : ℕ → Option ℕ
letter_byte letter =
    if letter == 92 then Some 92 else if letter == 116 then Some 9 else if letter == 114 then Some 13 else None

-- the value of a digit: 0 to 9, or a small letter a to f
abbrev pub digit_value : ℕ → Option ℕ
digit_value digit =
    if nat_le 48 digit && nat_le digit 57 then Some (digit - 48)
    else if nat_le 97 digit && nat_le digit 102 then Some (digit - 87) else None

-- the byte of two digits
abbrev pub digits_byte : ℕ → ℕ → Option ℕ
digits_byte high low =
    option_and_then (λ upper. option_map (λ lower. upper * 16 + lower) (digit_value low)) (digit_value high)

-- these bytes, and then those that follow, where both are spelled
abbrev pub bytes_followed : Option (List ℕ) → Option (List ℕ) → Option (List ℕ)
bytes_followed front rest = option_and_then (λ bytes. option_map (λ more. bytes ++ more) rest) front

-- this byte, and then those that follow
abbrev pub after_byte : Option ℕ → Option (List ℕ) → Option (List ℕ)
after_byte first rest = option_and_then (λ byte. option_map (λ more. byte ∷ more) rest) first

abbrev mutual
  -- the bytes that a line spells; none where a byte wants an escape
  pub unescaped : List ℕ → Option (List ℕ)
  unescaped [] = Some []
  unescaped (byte ∷ rest) =
      if byte == 92 then after_backslash rest
      else after_byte (if is_plain byte then Some byte else None) (unescaped rest)

  -- the same of what stands after a backslash; none where that is no escape
  pub after_backslash : List ℕ → Option (List ℕ)
  after_backslash [] = None
  after_backslash (letter ∷ rest) =
      if letter == 120 then after_x rest else after_byte (letter_byte letter) (unescaped rest)

  -- the same of what stands after a backslash and an x
  pub after_x : List ℕ → Option (List ℕ)
  after_x [] = None
  after_x (_ ∷ []) = None
  after_x (high ∷ low ∷ rest) = after_byte (digits_byte high low) (unescaped rest)

-- an odd number of backslashes ends the line: the last one is no part of an escape, and takes away the line feed
abbrev pub is_open : List ℕ → Bool
is_open line = length (take_while (λ byte. byte == 92) (reverse line)) % 2 == 1

-- the bytes of a content line, with its line feed or, of an open last line, without
abbrev pub line_bytes : List ℕ → Bool → Option (List ℕ)
line_bytes line is_last =
    if is_open line then (if is_last then unescaped (take (length line - 1) line) else None)
    else bytes_followed (unescaped line) (Some (10 ∷ []))

abbrev pub is_nothing : List (List ℕ) → Bool
is_nothing [] = true
is_nothing (_ ∷ _) = false

-- the bytes of content lines together
abbrev pub content_bytes : List (List ℕ) → Option (List ℕ)
content_bytes [] = Some []
content_bytes (line ∷ more) = bytes_followed (line_bytes line (is_nothing more)) (content_bytes more)
