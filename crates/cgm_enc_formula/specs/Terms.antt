-- The terms of a row: those of a linear expression that have a coefficient other than 0, by ascending variable.
use Rattle.std.specs.Prelude.{ℕ, ◌+◌, ◌≤◌, nat_lt, Bool, not, if◌then◌else◌, List, [], ◌∷◌, length, map, filter, ℤ, pos, unsigned_abs}
use Rattle.std.specs.List.{All}
use Rattle.std.specs.Ordering.{int_eq}
use Rattle.cgm_atom.specs.declared.constraints.Var.{Var}
use Rattle.cgm_atom.specs.Bounds.{Bounds}
use Rattle.cgm_atom.specs.Limits.{AreTermsOf, IsAbsent, max_measure, measure}
use Rattle.cgm_base.specs.declared.limit.Which.TheVariants as limits
use Rattle.cgm_base.specs.Words.{limit_number}
use Rattle.cgm_formula.specs.declared.formula.Formula.{Formula}
use Rattle.cgm_formula.specs.declared.formula.Linear.{Linear}
use Rattle.cgm_formula.specs.Nodes as nodes
use Rattle.cgm_formula.specs.declared.formula.Number.{Number}
use Rattle.cgm_formula.specs.declared.formula.Number.TheVariants as number
use Rattle.cgm_model.specs.declared.lists.Lists.{Lists}
use Rattle.cgm_model.specs.Formulas.{IsKnownTruth}
use Rattle.cgm_model.specs.TruthVariables.{truth_variables}

-- behind elements and refinements come the variables of the model, then the sums
abbrev pub number_variable : Lists → Number → ℕ
number_variable m (number.Var k) = truth_variables m + k
number_variable m (number.Sum k) = truth_variables m + length m.vars + k

-- how many variables stand for elements, refinements, variables and sums
abbrev pub model_variables : Lists → ℕ
model_variables m = truth_variables m + length m.vars + length m.sums

-- a term before the first that has a greater variable
abbrev pub term_placed : ℤ × Var → List (ℤ × Var) → List (ℤ × Var)
term_placed t [] = t ∷ []
term_placed t (u ∷ terms) = if nat_lt t.1.0 u.1.0 then t ∷ u ∷ terms else u ∷ term_placed t terms

-- the terms placed among others, one after another
abbrev pub all_terms_placed : List (ℤ × Var) → List (ℤ × Var) → List (ℤ × Var)
all_terms_placed so_far [] = so_far
all_terms_placed so_far (t ∷ terms) = all_terms_placed (term_placed t so_far) terms

abbrev pub ascending : List (ℤ × Var) → List (ℤ × Var)
ascending terms = all_terms_placed [] terms

-- a table of coefficients by variable, as terms
abbrev pub as_terms : List (ℕ × ℤ) → List (ℤ × Var)
as_terms entries = map (λ e. (e.1, record { 0 = e.0 })) entries

-- no variable of the terms stands in what is there so far, or twice
abbrev pub AreApart : List (ℤ × Var) → List (ℤ × Var) → Type 0
AreApart so_far [] = Unit {0}
AreApart so_far (t ∷ terms) = IsAbsent t.1.0 so_far × IsAbsent t.1.0 terms × AreApart so_far terms

-- each number's variable with its coefficient
abbrev pub variable_terms : Lists → List (ℤ × Number) → List (ℤ × Var)
variable_terms m terms = map (λ t. (t.0, record { 0 = number_variable m t.1 })) terms

abbrev pub is_zero : ℤ × Var → Bool
is_zero t = int_eq t.0 (pos 0)

-- those of a coefficient other than 0
abbrev pub nonzero : List (ℤ × Var) → List (ℤ × Var)
nonzero terms = filter (λ t. not (is_zero t)) terms

abbrev pub row_terms : Lists → Linear → List (ℤ × Var)
row_terms m l = ascending (nonzero (variable_terms m l.terms))

-- the terms can be those of a row where the variables have these bounds: known, distinct variables, small numbers, a measure within the limit
pub record AreRowTerms (m : Lists) (b : Bounds) (c : Linear × ℤ) : Type 0 where
  pub terms : AreTermsOf (model_variables m) (nonzero (variable_terms m c.0.terms))
  pub coefficients : All (λ t. unsigned_abs t.0 ≤ limit_number limits.Coefficient) c.0.terms
  pub size : unsigned_abs c.1 + measure b (row_terms m c.0) ≤ max_measure

-- the names of the formula are there, and each of its comparisons can become rows
pub record IsEncodableFormula (m : Lists) (b : Bounds) (f : Formula) : Type 0 where
  pub names : All (IsKnownTruth m) (nodes.formula_names f)
  pub comparisons : All (AreRowTerms m b) (nodes.comparisons f)
