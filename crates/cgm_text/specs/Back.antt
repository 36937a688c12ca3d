-- What it says that the written form of a formula is read back after lists: the formula itself, with no fault in its names, in plain words, and not too deep.
use Rattle.std.specs.Prelude.{◌≡◌, ℕ, ℤ, ◌+◌, ◌<◌, ◌≤◌, true, false, List, length, FitsSigned, None, Some}
use Rattle.std.specs.Int.{w64}
use Rattle.std.specs.List.{AllByRecursion}
use Rattle.cgm_formula.specs.declared.formula.Formula.{Formula}
use Rattle.cgm_formula.specs.declared.formula.Linear.{Linear}
use Rattle.cgm_formula.specs.declared.formula.Number.{Number}
use Rattle.cgm_formula.specs.Nodes.{formula_names, comparisons, is_full, depth}
use Rattle.cgm_lex.specs.Lexemes.{Lexeme, word}
use Rattle.cgm_lex.specs.Spelling.{IsPlain}
use Rattle.cgm_model.specs.declared.lists.Lists.{Lists}
use Rattle.cgm_model.specs.declared.lists.Statement.{Statement}
use Rattle.cgm_model.specs.declared.lists.Statement.TheVariants as statements
use Rattle.cgm_model.specs.declared.lists.Thing.{Thing}
use Rattle.cgm_model.specs.declared.lists.Thing.TheVariants as things
use Rattle.cgm_model.specs.Formulas.{IsKnownTruth, IsKnownNumber, formula_of as formula_of_rule}
use Rattle.cgm_model.specs.Name.{is_name}
use Rattle.cgm_model.specs.Named.{thing_named}
use Rattle.cgm_print.specs.Canonical.{element_name, refinement_name, variable_name, sum_name}
use Rattle.cgm_text.specs.Line.{nests_too_deep}
use Rattle.cgm_text.specs.Meaning.{formula_of, statement_of}
use Rattle.cgm_print.specs.Statements.{WrittenStatement, statement_tokens}
use Rattle.cgm_text.specs.Trees.{is_deeper}
use Rattle.cgm_text.specs.Uses.{NameUse, formula_uses, first_name_fault, statement_uses}
use Rattle.cgm_print.specs.Written.{WrittenFormula, spelled}

abbrev pub ArePlain : List Lexeme → Type 0
ArePlain ts = AllByRecursion IsPlain ts

-- there is a thing of this number
abbrev pub IsThingThere : Lists → Thing → Type 0
IsThingThere p (things.Element k) = k < length p.elements
IsThingThere p (things.Refinement k) = k < length p.refinements
IsThingThere p (things.Var k) = k < length p.vars
IsThingThere p (things.Sum k) = k < length p.sums

abbrev pub thing_name : Lists → Thing → List ℕ
thing_name m (things.Element k) = element_name m k
thing_name m (things.Refinement k) = refinement_name m k
thing_name m (things.Var k) = variable_name m k
thing_name m (things.Sum k) = sum_name m k

-- the lists have the names that these other lists give to what is there
pub record Knows (p m : Lists) : Type 0 where
  pub named : (t : Thing) → IsThingThere p t → thing_named p (thing_name m t) ≡ Some t
  pub spelled : (t : Thing) → IsThingThere p t → is_name (thing_name m t) ≡ true

-- a term whose number is there and whose coefficient has 64 bits
abbrev pub IsTerm : Lists → ℤ × Number → Type 0
IsTerm p t = IsKnownNumber p t.1 × FitsSigned w64 t.0

-- names and numbers are there, nothing is empty, and numbers have 64 bits
pub record IsSide (p : Lists) (c : Linear × ℤ) : Type 0 where
  pub terms : AllByRecursion (IsTerm p) c.0.terms
  pub fits : FitsSigned w64 c.1

pub record Given (p : Lists) (f : Formula) : Type 0 where
  pub known : AllByRecursion (IsKnownTruth p) (formula_names f)
  pub sides : AllByRecursion (IsSide p) (comparisons f)
  pub full : is_full f ≡ true

pub record Back (p m : Lists) (f : Formula) (w : WrittenFormula) : Type 0 where
  pub meaning : formula_of p w ≡ f
  pub uses : (after : List NameUse) → first_name_fault p (formula_uses w after) ≡ first_name_fault p after
  pub words : (after : List Lexeme) → ArePlain after → ArePlain (spelled w after)
  pub shallow : (most count : ℕ) (after : List Lexeme) → count + depth f ≤ most → is_deeper most count (spelled w after) ≡ is_deeper most count after

pub record StatementBack (p : Lists) (s : Statement) (w : WrittenStatement) : Type 0 where
  pub meaning : statement_of p w ≡ s
  pub names : first_name_fault p (statement_uses w) ≡ None
  pub words : ArePlain (statement_tokens w)
  pub shallow : nests_too_deep (statement_tokens w) ≡ false

-- what is declared is a word, and numbers have 64 bits
abbrev pub Fitting : Lists → Statement → Type 0
Fitting p (statements.Element e) = IsPlain (word e.name)
Fitting p (statements.Refine r) = IsPlain (word r.name)
Fitting p (statements.Variable v) = IsPlain (word v.name) × (FitsSigned w64 v.lo × FitsSigned w64 v.hi)
Fitting p (statements.Sum x) = IsPlain (word x.name)
Fitting p (statements.Value v) = FitsSigned w64 v.k
Fitting p (statements.Reward w) = FitsSigned w64 w.k
Fitting p (statements.Penalty w) = FitsSigned w64 w.k
Fitting p (statements.Rule r) = Given p (formula_of_rule r)
Fitting p s = Unit {0}

-- the numbers of its comparisons have 64 bits
abbrev pub HasWidth : Statement → Type 0
HasWidth (statements.Rule r) = AllByRecursion (λ c. FitsSigned w64 c.1) (comparisons (formula_of_rule r))
HasWidth s = Unit {0}
