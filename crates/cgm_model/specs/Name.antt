-- Which bytes are a name: what is spelled as one and is no reserved word.
use Rattle.std.specs.Prelude.{ℕ, Bool, ◌&&◌, not, List, [], ◌∷◌, codes}
use Rattle.std.specs.List.{list_any}
use Rattle.std.specs.Str.{bytes_eq}
use Rattle.cgm_lex.specs.Names.{is_spelled}
use Rattle.cgm_model.specs.declared.lists.Quantity.TheVariants as quantities
use Rattle.cgm_model.specs.QuantityWords.{quantity_word}

-- the words of formulas and the built-in quantities
abbrev pub reserved : List (List ℕ)
reserved =
    codes "and" ∷ codes "or" ∷ codes "not" ∷ codes "iff"
    ∷ quantity_word quantities.Weight ∷ quantity_word quantities.UnsatPrefs
    ∷ quantity_word quantities.UnsatReqs ∷ quantity_word quantities.SatTasks
    ∷ quantity_word quantities.Familiarity ∷ quantity_word quantities.Effort ∷ []

abbrev pub is_reserved : List ℕ → Bool
is_reserved bs = list_any (λ word. bytes_eq word bs) reserved

abbrev pub is_name : List ℕ → Bool
is_name bs = is_spelled bs && not (is_reserved bs)
