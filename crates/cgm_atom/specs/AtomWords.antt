-- The word of an atom in printed texts, and words in a line.
use Rattle.std.specs.Prelude.{ℕ, Bool, true, false, List, [], ◌∷◌, ◌++◌, codes, decimal}
use Rattle.std.specs.Fmt.{signed_decimal}
use Rattle.cgm_atom.specs.declared.constraints.Atom.{Atom}

abbrev pub relation : Bool → List ℕ
relation true = codes ">="
relation false = codes "<="

-- as `3>=-7`
abbrev pub atom_word : Atom → List ℕ
atom_word a = decimal a.var.0 ++ (relation a.at_least ++ signed_decimal a.k)

-- the words, each after a space
abbrev pub spaced : List (List ℕ) → List ℕ
spaced [] = []
spaced (word ∷ more) = 32 ∷ (word ++ spaced more)
