-- Induction over formulas: a fact of each kind of formula, given for its parts, holds of every formula.
use Rattle.std.proofs.Common.{List, [], ◌∷◌, ℤ, map, sym, subst}
use Rattle.std.specs.List.{AllByRecursion}
use Rattle.cgm_formula.specs.declared.formula.Truth.{Truth}
use Rattle.cgm_formula.specs.declared.formula.Linear.{Linear}
use Rattle.cgm_formula.specs.declared.formula.Formula.{Formula}
use Rattle.cgm_formula.specs.declared.formula.Formula.TheOpen.{Formula-F}
use Rattle.cgm_formula.specs.declared.formula.Formula.TheViews.{roll-Formula}
use Rattle.cgm_formula.specs.declared.formula.Formula.TheFolds.{ind-Formula, map-Formula}
use Rattle.cgm_formula.specs.declared.formula.Formula.TheVariants.{Name, Not, And, Or, Implies, Iff, AtMost, AtLeast, Equal, rolls-Name, rolls-Not, rolls-And, rolls-Or, rolls-Implies, rolls-Iff, rolls-AtMost, rolls-AtLeast, rolls-Equal}

pub record Cases (P : Formula → Type 0) : Type 0 where
  pub name : (name : Truth) → P (Name name)
  pub negation : (part : Formula) → P part → P (Not part)
  pub conjunction : (parts : List Formula) → AllByRecursion P parts → P (And parts)
  pub disjunction : (parts : List Formula) → AllByRecursion P parts → P (Or parts)
  pub implication : (premise conclusion : Formula) → P premise → P conclusion → P (Implies premise conclusion)
  pub equivalence : (one other : Formula) → P one → P other → P (Iff one other)
  pub at_most : (l : Linear) (k : ℤ) → P (AtMost l k)
  pub at_least : (l : Linear) (k : ℤ) → P (AtLeast l k)
  pub equality : (l : Linear) (k : ℤ) → P (Equal l k)

-- each formula of a list that has its fact beside it
each : (P : Formula → Type 0) (es : List ((f : Formula) × P f)) → AllByRecursion P (map (λ e. e.0) es)
each P [] = tt
each P (e ∷ es) = (e.1, each P es)

abbrev With : (Formula → Type 0) → Type 0
With P = (f : Formula) × P f

layer : (P : Formula → Type 0) → Cases P → (y : Formula-F (With P)) → P (roll-Formula (map-Formula (With P) Formula (λ e. e.0) y))
layer P cases (Formula-F.Name name) = subst P (sym (rolls-Name name)) (cases.name name)
layer P cases (Formula-F.Not part) = subst P (sym (rolls-Not part.0)) (cases.negation part.0 part.1)
layer P cases (Formula-F.And parts) =
    subst P (sym (rolls-And (map (λ e. e.0) parts))) (cases.conjunction (map (λ e. e.0) parts) (each P parts))
layer P cases (Formula-F.Or parts) =
    subst P (sym (rolls-Or (map (λ e. e.0) parts))) (cases.disjunction (map (λ e. e.0) parts) (each P parts))
layer P cases (Formula-F.Implies premise conclusion) =
    subst P (sym (rolls-Implies premise.0 conclusion.0)) (cases.implication premise.0 conclusion.0 premise.1 conclusion.1)
layer P cases (Formula-F.Iff one other) =
    subst P (sym (rolls-Iff one.0 other.0)) (cases.equivalence one.0 other.0 one.1 other.1)
layer P cases (Formula-F.AtMost l k) = subst P (sym (rolls-AtMost l k)) (cases.at_most l k)
layer P cases (Formula-F.AtLeast l k) = subst P (sym (rolls-AtLeast l k)) (cases.at_least l k)
layer P cases (Formula-F.Equal l k) = subst P (sym (rolls-Equal l k)) (cases.equality l k)

pub by_cases : (P : Formula → Type 0) → Cases P → (f : Formula) → P f
by_cases P cases = ind-Formula P (λ x y is. subst (λ z. P (roll-Formula z)) is (layer P cases y))
