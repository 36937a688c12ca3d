-- The names that a written statement uses, from the left, and what is wrong with the first of them that is unknown or of a wrong kind.
use Rattle.std.specs.Prelude.{◌≡◌, ℕ, Bool, true, false, if◌then◌else◌, List, [], ◌∷◌, map, Option, None, Some}
use Rattle.std.specs.Option.{option_or}
use Rattle.cgm_base.specs.declared.fault.BadKind.{BadKind}
use Rattle.cgm_base.specs.declared.fault.BadKind.TheVariants as kinds
use Rattle.cgm_model.specs.declared.lists.Lists.{Lists}
use Rattle.cgm_model.specs.declared.lists.Quantity.{Quantity}
use Rattle.cgm_model.specs.declared.lists.Thing.{Thing}
use Rattle.cgm_model.specs.declared.lists.Thing.TheVariants as things
use Rattle.cgm_model.specs.Named.{thing_named}
use Rattle.cgm_text.specs.declared.names.Wanted.{Wanted}
use Rattle.cgm_text.specs.declared.names.Wanted.TheVariants as wants
use Rattle.cgm_text.specs.Parsed.{built_in}
use Rattle.cgm_print.specs.declared.words.NameWord.{NameWord}
use Rattle.cgm_print.specs.declared.words.NameWord.TheVariants as name_words
use Rattle.cgm_print.specs.declared.words.PairWord.{PairWord}
use Rattle.cgm_print.specs.declared.words.PairWord.TheVariants as pair_words
use Rattle.cgm_print.specs.Statements.{WrittenStatement, goal, named, refinement, pair, assertion, variable, value, weight, condition, requirement, objective}
use Rattle.cgm_print.specs.Written.{WrittenTerm, plain, scaled, WrittenLinear, single, total, WrittenFormula, name, negation, joined, paired, compared, WrittenFormulas, no_formulas, more_formulas}

-- a name that is used, with what its place wants
pub record NameUse : Type 0 where
  pub wanted : Wanted
  pub used : List ℕ

abbrev pub use_as : Wanted → List ℕ → NameUse
use_as wanted x = record { wanted = wanted; used = x }

abbrev pub term_name : WrittenTerm → List ℕ
term_name (plain x) = x
term_name (scaled k x) = x

-- the names of the terms, before those that follow them
abbrev pub terms_uses : List WrittenTerm → List NameUse → List NameUse
terms_uses [] after = after
terms_uses (term ∷ terms) after = use_as wants.Number (term_name term) ∷ terms_uses terms after

abbrev pub linear_uses : WrittenLinear → List NameUse → List NameUse
linear_uses (single term) after = terms_uses (term ∷ []) after
linear_uses (total term terms) after = terms_uses (term ∷ terms) after

abbrev mutual
  -- the names of a formula, before those that follow it
  pub formula_uses : WrittenFormula → List NameUse → List NameUse
  formula_uses (name x) after = use_as wants.Truth x ∷ after
  formula_uses (negation part) after = formula_uses part after
  formula_uses (joined joint part parts) after = formula_uses part (formulas_uses parts after)
  formula_uses (paired pairing one other) after = formula_uses one (formula_uses other after)
  formula_uses (compared comparison linear k) after = linear_uses linear after

  pub formulas_uses : WrittenFormulas → List NameUse → List NameUse
  formulas_uses no_formulas after = after
  formulas_uses (more_formulas part parts) after = formula_uses part (formulas_uses parts after)

-- the name after such a word is declared or used
abbrev pub named_uses : NameWord → List ℕ → List NameUse
named_uses name_words.Task x = []
named_uses name_words.Assume x = []
named_uses name_words.Sum x = []
named_uses name_words.Interest x = use_as wants.Element x ∷ []

-- what the two names of a statement with this word are
abbrev pub end_of : PairWord → Wanted
end_of pair_words.Contrib = wants.Element
end_of pair_words.Conflict = wants.Element
end_of pair_words.Bind = wants.Refinement
end_of pair_words.Prefer = wants.Truth

-- a word that is no built-in quantity is the name of a variable or sum
abbrev pub quantity_uses : Option Quantity → List ℕ → List NameUse
quantity_uses (Some quantity) x = []
quantity_uses None x = use_as wants.Number x ∷ []

-- the names that a statement uses
abbrev pub statement_uses : WrittenStatement → List NameUse
statement_uses (goal x must) = []
statement_uses (named what x) = named_uses what x
statement_uses (refinement r target first others) = map (use_as wants.Element) (target ∷ first ∷ others)
statement_uses (pair what one other) = use_as (end_of what) one ∷ use_as (end_of what) other ∷ []
statement_uses (assertion x truth) = use_as wants.Element x ∷ []
statement_uses (variable x lo hi) = []
statement_uses (value s x k) = use_as wants.Sum s ∷ use_as wants.Truth x ∷ []
statement_uses (weight what x k) = use_as wants.Element x ∷ []
statement_uses (condition what x f) = use_as wants.Truth x ∷ formula_uses f []
statement_uses (requirement f) = formula_uses f []
statement_uses (objective direction x) = quantity_uses (built_in x) x

-- whether the thing is what is wanted
abbrev pub suits : Wanted → Thing → Bool
suits wants.Element (things.Element k) = true
suits wants.Element (things.Refinement k) = false
suits wants.Element (things.Var k) = false
suits wants.Element (things.Sum k) = false
suits wants.Refinement (things.Element k) = false
suits wants.Refinement (things.Refinement k) = true
suits wants.Refinement (things.Var k) = false
suits wants.Refinement (things.Sum k) = false
suits wants.Truth (things.Element k) = true
suits wants.Truth (things.Refinement k) = true
suits wants.Truth (things.Var k) = false
suits wants.Truth (things.Sum k) = false
suits wants.Number (things.Element k) = false
suits wants.Number (things.Refinement k) = false
suits wants.Number (things.Var k) = true
suits wants.Number (things.Sum k) = true
suits wants.Sum (things.Element k) = false
suits wants.Sum (things.Refinement k) = false
suits wants.Sum (things.Var k) = false
suits wants.Sum (things.Sum k) = true

-- what is wrong with a name that stands for this
abbrev pub thing_fault : Wanted → Option Thing → Option BadKind
thing_fault wanted None = Some kinds.UnknownName
thing_fault wanted (Some thing) = if suits wanted thing then None else Some kinds.WrongKind

-- what is wrong with the first of these names that is unknown after these lists, or of a wrong kind
abbrev pub first_name_fault : Lists → List NameUse → Option BadKind
first_name_fault m [] = None
first_name_fault m (u ∷ uses) = option_or (thing_fault u.wanted (thing_named m u.used)) (first_name_fault m uses)

-- with whatever uses behind these, their own first fault comes first: then the first of those behind
abbrev pub IsFirstNameFault : Lists → (List NameUse → List NameUse) → Option BadKind → Type 0
IsFirstNameFault m before fault =
    (after : List NameUse) → first_name_fault m (before after) ≡ option_or fault (first_name_fault m after)
