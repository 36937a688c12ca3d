-- The text of a problem: a header, then a line for each variable, clause, row and objective, each by number.
use Rattle.std.specs.Prelude.{ℕ, List, [], ◌∷◌, ◌++◌, map, flat_map, codes, decimal, ℤ, Option, None, Some}
use Rattle.std.specs.Fmt.{signed_decimal}
use Rattle.std.specs.List.{enumerate_from, range_with_len}
use Rattle.cgm_atom.specs.declared.constraints.Atom.{Atom}
use Rattle.cgm_atom.specs.declared.constraints.Clause.{Clause}
use Rattle.cgm_atom.specs.declared.constraints.Row.{Row}
use Rattle.cgm_atom.specs.declared.constraints.Var.{Var}
use Rattle.cgm_atom.specs.Bounds.{Bounds, lower_of, upper_of}
use Rattle.cgm_atom.specs.Instance.{Instance, var_count}
use Rattle.cgm_atom.specs.AtomWords.{atom_word, spaced}

-- ---- words

-- the guard's atom, or `-` where there is none
abbrev pub guard_word : Option Atom → List ℕ
guard_word None = codes "-"
guard_word (Some a) = atom_word a

-- coefficient and variable, as `-2*0`
abbrev pub term_word : ℤ × Var → List ℕ
term_word t = signed_decimal t.0 ++ (codes "*" ++ decimal t.1.0)

-- ---- lines

-- the words with one space between each two, and a line feed
abbrev pub problem_line : List ℕ → List (List ℕ) → List ℕ
problem_line word words = word ++ (spaced words ++ 10 ∷ [])

-- `var V LO HI`
abbrev pub range_line : ℕ → ℤ → ℤ → List ℕ
range_line v lo hi = problem_line (codes "var") (decimal v ∷ signed_decimal lo ∷ signed_decimal hi ∷ [])

-- with the bounds of the variable in the box
abbrev pub var_line : Bounds → ℕ → List ℕ
var_line b v = range_line v (lower_of b v) (upper_of b v)

-- `clause C` and its atoms
abbrev pub clause_line : ℕ × Clause → List ℕ
clause_line c = problem_line (codes "clause") (decimal c.0 ∷ map atom_word c.1.atoms)

-- `row R GUARD LEAST` and its terms
abbrev pub row_line : ℕ × Row → List ℕ
row_line r =
    problem_line (codes "row") (decimal r.0 ∷ guard_word r.1.guard ∷ signed_decimal r.1.least ∷ map term_word r.1.terms)

-- `objective V`
abbrev pub objective_line : Var → List ℕ
objective_line v = problem_line (codes "objective") (decimal v.0 ∷ [])

-- ---- the text

abbrev pub var_lines : Instance → List ℕ
var_lines p = flat_map (var_line p.bounds) (range_with_len 0 (var_count p))

abbrev pub clause_lines : Instance → List ℕ
clause_lines p = flat_map clause_line (enumerate_from 0 p.clauses)

abbrev pub row_lines : Instance → List ℕ
row_lines p = flat_map row_line (enumerate_from 0 p.rows)

abbrev pub problem_objective_lines : Instance → List ℕ
problem_objective_lines p = flat_map objective_line p.objectives

unfoldable pub problem_text : Instance → List ℕ
problem_text p = problem_line (codes "cgm-problem 1") [] ++ (var_lines p ++ (clause_lines p ++ (row_lines p ++ problem_objective_lines p)))
