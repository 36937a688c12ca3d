-- Which bytes are spelled as a name: a letter or `_`, then letters, digits, `_`, `-` and `.`.
use Rattle.std.specs.Prelude.{ℕ, Bool, false, ◌&&◌, ◌||◌, ◌==◌, List, [], ◌∷◌}
use Rattle.std.specs.List.{list_all}
use Rattle.std.specs.Char.{is_ascii_alphabetic, is_ascii_digit}

abbrev pub starts_name : ℕ → Bool
starts_name b = is_ascii_alphabetic b || (b == 95)

abbrev pub continues_name : ℕ → Bool
continues_name b = starts_name b || is_ascii_digit b || (b == 45) || (b == 46)

abbrev pub is_spelled : List ℕ → Bool
is_spelled [] = false
is_spelled (b ∷ bs) = starts_name b && list_all continues_name bs
