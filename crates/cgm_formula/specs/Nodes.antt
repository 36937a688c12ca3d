-- What stands in a formula: its names, comparisons and linear expressions, its nodes, and its brackets as they nest in text.
use Rattle.std.specs.Prelude.{ℕ, ◌+◌, max, nat_lt, ◌==◌, Bool, true, ◌&&◌, if◌then◌else◌, List, [], ◌∷◌, ◌++◌, length, sum, map, ℤ, pos, negsuc}
use Rattle.std.specs.List.{list_all}
use Rattle.cgm_formula.specs.declared.formula.Truth.{Truth}
use Rattle.cgm_formula.specs.declared.formula.Number.{Number}
use Rattle.cgm_formula.specs.declared.formula.Linear.{Linear}
use Rattle.cgm_formula.specs.declared.formula.Formula.{Formula}
use Rattle.cgm_formula.specs.declared.formula.Formula.TheOpen.{Formula-F}
use Rattle.cgm_formula.specs.declared.formula.Formula.TheFolds.{fold-Formula}

-- the lists, one after another
abbrev pub lists_joined : {X : Type 0} → List (List X) → List X
lists_joined [] = []
lists_joined (xs ∷ rest) = xs ++ lists_joined rest

abbrev pub greatest : List ℕ → ℕ
greatest [] = 0
greatest (n ∷ ns) = max n (greatest ns)

-- the names of elements and refinements, from the left
abbrev pub names_step : Formula-F (List Truth) → List Truth
names_step (Formula-F.Name name) = name ∷ []
names_step (Formula-F.Not part) = part
names_step (Formula-F.And parts) = lists_joined parts
names_step (Formula-F.Or parts) = lists_joined parts
names_step (Formula-F.Implies premise conclusion) = premise ++ conclusion
names_step (Formula-F.Iff one other) = one ++ other
names_step (Formula-F.AtMost l k) = []
names_step (Formula-F.AtLeast l k) = []
names_step (Formula-F.Equal l k) = []

abbrev pub formula_names : Formula → List Truth
formula_names = fold-Formula (List Truth) names_step

-- each comparison's linear expression with its number, from the left
abbrev pub comparisons_step : Formula-F (List (Linear × ℤ)) → List (Linear × ℤ)
comparisons_step (Formula-F.Name name) = []
comparisons_step (Formula-F.Not part) = part
comparisons_step (Formula-F.And parts) = lists_joined parts
comparisons_step (Formula-F.Or parts) = lists_joined parts
comparisons_step (Formula-F.Implies premise conclusion) = premise ++ conclusion
comparisons_step (Formula-F.Iff one other) = one ++ other
comparisons_step (Formula-F.AtMost l k) = (l, k) ∷ []
comparisons_step (Formula-F.AtLeast l k) = (l, k) ∷ []
comparisons_step (Formula-F.Equal l k) = (l, k) ∷ []

abbrev pub comparisons : Formula → List (Linear × ℤ)
comparisons = fold-Formula (List (Linear × ℤ)) comparisons_step

-- the variables and sums of a linear expression
abbrev pub term_numbers : List (ℤ × Number) → List Number
term_numbers terms = map (λ t. t.1) terms

-- each `and` and `or` has a part, and each linear expression a term
abbrev pub full_step : Formula-F Bool → Bool
full_step (Formula-F.Name name) = true
full_step (Formula-F.Not part) = part
full_step (Formula-F.And parts) = nat_lt 0 (length parts) && list_all (λ part. part) parts
full_step (Formula-F.Or parts) = nat_lt 0 (length parts) && list_all (λ part. part) parts
full_step (Formula-F.Implies premise conclusion) = premise && conclusion
full_step (Formula-F.Iff one other) = one && other
full_step (Formula-F.AtMost l k) = nat_lt 0 (length l.terms)
full_step (Formula-F.AtLeast l k) = nat_lt 0 (length l.terms)
full_step (Formula-F.Equal l k) = nat_lt 0 (length l.terms)

abbrev pub is_full : Formula → Bool
is_full = fold-Formula Bool full_step

-- each name, connective, comparison and term is one node
abbrev pub node_step : Formula-F ℕ → ℕ
node_step (Formula-F.Name name) = 1
node_step (Formula-F.Not part) = 1 + part
node_step (Formula-F.And parts) = 1 + sum parts
node_step (Formula-F.Or parts) = 1 + sum parts
node_step (Formula-F.Implies premise conclusion) = 1 + premise + conclusion
node_step (Formula-F.Iff one other) = 1 + one + other
node_step (Formula-F.AtMost l k) = 1 + length l.terms
node_step (Formula-F.AtLeast l k) = 1 + length l.terms
node_step (Formula-F.Equal l k) = 1 + length l.terms

abbrev pub node_count : Formula → ℕ
node_count = fold-Formula ℕ node_step

-- a term with coefficient 1 is its bare name, another one stands in brackets
abbrev pub term_depth : ℤ × Number → ℕ
term_depth (pos n, x) = if n == 1 then 0 else 1
term_depth (negsuc n, x) = 1

-- `+` with its brackets is written only for two or more terms
abbrev pub linear_depth : List (ℤ × Number) → ℕ
linear_depth [] = 0
linear_depth (t ∷ []) = term_depth t
linear_depth (t ∷ u ∷ terms) = 1 + greatest (map term_depth (t ∷ u ∷ terms))

-- how many brackets are open at once in a formula's canonical text
abbrev pub depth_step : Formula-F ℕ → ℕ
depth_step (Formula-F.Name name) = 0
depth_step (Formula-F.Not part) = 1 + part
depth_step (Formula-F.And parts) = 1 + greatest parts
depth_step (Formula-F.Or parts) = 1 + greatest parts
depth_step (Formula-F.Implies premise conclusion) = 1 + max premise conclusion
depth_step (Formula-F.Iff one other) = 1 + max one other
depth_step (Formula-F.AtMost l k) = 1 + linear_depth l.terms
depth_step (Formula-F.AtLeast l k) = 1 + linear_depth l.terms
depth_step (Formula-F.Equal l k) = 1 + linear_depth l.terms

abbrev pub depth : Formula → ℕ
depth = fold-Formula ℕ depth_step
