-- A statement that few brackets and right names make is proper.
use Rattle.std.proofs.Common.{◌≡◌, ℕ, ◌<◌, Bool, true, false, List, [], ◌∷◌, length, map, codes, None, refl, sym, subst, arith, true≢false}
use Rattle.std.specs.List.{AllByRecursion}
use Rattle.std.specs.Str.{bytes_eq}
use Rattle.std.proofs.lemmas.List.Elements.{All-from_recursion}
use Rattle.cgm_base.specs.declared.limit.Which.TheVariants as limits
use Rattle.cgm_base.specs.Words.{limit_number}
use Rattle.cgm_formula.specs.declared.formula.Formula.{Formula}
use Rattle.cgm_formula.specs.declared.formula.Number.{Number}
use Rattle.cgm_formula.specs.declared.formula.Number.TheVariants as numbers
use Rattle.cgm_formula.specs.declared.formula.Truth.{Truth}
use Rattle.cgm_lex.specs.Lexemes.{Lexeme, word}
use Rattle.cgm_model.specs.declared.lists.Lists.{Lists}
use Rattle.cgm_model.specs.declared.lists.Statement.{Statement}
use Rattle.cgm_model.specs.Formulas.{IsKnownNumber, IsKnownTruth, IsProperFormula, IsProperRule}
use Rattle.cgm_model.specs.Named.{thing_named}
use Rattle.cgm_model.specs.Statement.{IsKnownQuantity, IsProperStatement}
use Rattle.cgm_text.specs.declared.names.Wanted.TheVariants as wants
use Rattle.cgm_print.specs.declared.words.ConditionWord.{ConditionWord}
use Rattle.cgm_print.specs.declared.words.ConditionWord.TheVariants as condition_words
use Rattle.cgm_print.specs.declared.words.NameWord.TheVariants as name_words
use Rattle.cgm_print.specs.declared.words.PairWord.TheVariants as pair_words
use Rattle.cgm_print.specs.declared.words.WeightWord.TheVariants as weight_words
use Rattle.cgm_text.specs.Line.{nests_too_deep}
use Rattle.cgm_text.specs.Meaning.{condition_of, element_named, formula_of, number_named, quantity_of, statement_of, truth_named}
use Rattle.cgm_text.specs.Progress.{MakesStatement}
use Rattle.cgm_print.specs.Statements.{WrittenStatement, goal, named, refinement, pair, assertion, variable, value, weight, condition, requirement, objective, condition_word, statement_tokens}
use Rattle.cgm_text.specs.Uses.{NameUse, use_as, first_name_fault, formula_uses, quantity_uses, statement_uses, thing_fault}
use Rattle.cgm_print.specs.Written.{WrittenFormula, spelled}
use Rattle.cgm_text.proofs.Depths.{shallow_after}
use Rattle.cgm_text.proofs.Known.{first_right, element_known, refinement_known, truth_known, number_known, sum_known, formula_proper}
use Rattle.cgm_text.proofs.Spellings.{chosen}

two_right : (m : Lists) (u v : NameUse) → first_name_fault m (u ∷ v ∷ []) ≡ None → (thing_fault u.wanted (thing_named m u.used) ≡ None) × (thing_fault v.wanted (thing_named m v.used) ≡ None)
two_right m u v e =
    let first = first_right m u (v ∷ []) e in
    (first.0, (first_right m v [] first.1).0)

elements_known : (m : Lists) (xs : List (List ℕ)) → first_name_fault m (map (use_as wants.Element) xs) ≡ None → AllByRecursion (λ k. k < length m.elements) (map (element_named m) xs)
elements_known m [] e = tt
elements_known m (x ∷ xs) e =
    let right = first_right m (use_as wants.Element x) (map (use_as wants.Element) xs) e in
    (element_known m x right.0, elements_known m xs right.1)

condition_proper : (m : Lists) (what : ConditionWord) (x : Truth) (f : Formula) → IsKnownTruth m x → IsProperFormula m f → IsProperRule m (condition_of what x f)
condition_proper m condition_words.Positive x f known proper =
    record { condition = All-from_recursion (IsKnownTruth m) (x ∷ []) (known, tt); formula = proper }
condition_proper m condition_words.Negative x f known proper =
    record { condition = All-from_recursion (IsKnownTruth m) (x ∷ []) (known, tt); formula = proper }

rule_proper : (m : Lists) (what : ConditionWord) (x : List ℕ) (f : WrittenFormula) → first_name_fault m (statement_uses (condition what x f)) ≡ None → nests_too_deep (statement_tokens (condition what x f)) ≡ false → IsProperRule m (condition_of what (truth_named m x) (formula_of m f))
rule_proper m what x f right shallow =
    let limit = limit_number limits.FormulaDepth in
    let rights = first_right m (use_as wants.Truth x) (formula_uses f []) right in
    let rest = shallow_after limit (condition_word what) (word x ∷ spelled f []) shallow in
    let inside = shallow_after limit x (spelled f []) rest in
    condition_proper m what (truth_named m x) (formula_of m f) (truth_known m x rights.0) (formula_proper m f rights.1 inside)

quantity_known : (m : Lists) (x : Number) → IsKnownNumber m x → IsKnownQuantity m (quantity_of None x)
quantity_known m (numbers.Var k) known = known
quantity_known m (numbers.Sum k) known = known

-- by the tests that tell a built-in quantity
quantity_proper : (m : Lists) (x : List ℕ) (a b c d e f : Bool) → first_name_fault m (quantity_uses (chosen a b c d e f) x) ≡ None → IsKnownQuantity m (quantity_of (chosen a b c d e f) (number_named m x))
quantity_proper m x true b c d e f right = tt
quantity_proper m x false true c d e f right = tt
quantity_proper m x false false true d e f right = tt
quantity_proper m x false false false true e f right = tt
quantity_proper m x false false false false true f right = tt
quantity_proper m x false false false false false true right = tt
quantity_proper m x false false false false false false right =
    quantity_known m (number_named m x) (number_known m x (first_right m (use_as wants.Number x) [] right).0)

pub statement_proper : (m : Lists) (w : WrittenStatement) → first_name_fault m (statement_uses w) ≡ None → nests_too_deep (statement_tokens w) ≡ false → IsProperStatement m (statement_of m w)
statement_proper m (goal x must) right shallow = λ _. refl
statement_proper m (named name_words.Task x) right shallow = λ must. absurd (true≢false (sym must))
statement_proper m (named name_words.Assume x) right shallow = λ must. absurd (true≢false (sym must))
statement_proper m (named name_words.Sum x) right shallow = tt
statement_proper m (named name_words.Interest x) right shallow = element_known m x (first_right m (use_as wants.Element x) [] right).0
statement_proper m (refinement r target first others) right shallow =
    let known = elements_known m (target ∷ first ∷ others) right in
    (known.0, omega arith, All-from_recursion (λ k. k < length m.elements) (map (element_named m) (first ∷ others)) known.1)
statement_proper m (pair pair_words.Contrib one other) right shallow =
    let both = two_right m (use_as wants.Element one) (use_as wants.Element other) right in
    (element_known m one both.0, element_known m other both.1)
statement_proper m (pair pair_words.Conflict one other) right shallow =
    let both = two_right m (use_as wants.Element one) (use_as wants.Element other) right in
    (element_known m one both.0, element_known m other both.1)
statement_proper m (pair pair_words.Bind one other) right shallow =
    let both = two_right m (use_as wants.Refinement one) (use_as wants.Refinement other) right in
    (refinement_known m one both.0, refinement_known m other both.1)
statement_proper m (pair pair_words.Prefer one other) right shallow =
    let both = two_right m (use_as wants.Truth one) (use_as wants.Truth other) right in
    (truth_known m one both.0, truth_known m other both.1)
statement_proper m (assertion x truth) right shallow = element_known m x (first_right m (use_as wants.Element x) [] right).0
statement_proper m (variable x lo hi) right shallow = tt
statement_proper m (value t x k) right shallow =
    let both = two_right m (use_as wants.Sum t) (use_as wants.Truth x) right in
    (sum_known m t both.0, truth_known m x both.1)
statement_proper m (weight weight_words.Reward x k) right shallow = element_known m x (first_right m (use_as wants.Element x) [] right).0
statement_proper m (weight weight_words.Penalty x k) right shallow = element_known m x (first_right m (use_as wants.Element x) [] right).0
statement_proper m (condition what x f) right shallow = rule_proper m what x f right shallow
statement_proper m (requirement f) right shallow =
    let inside = shallow_after (limit_number limits.FormulaDepth) (codes "require") (spelled f []) shallow in
    record { condition = All-from_recursion (IsKnownTruth m) [] tt; formula = formula_proper m f right inside }
statement_proper m (objective direction x) right shallow = quantity_proper m x (bytes_eq (codes "weight") x) (bytes_eq (codes "unsat_prefs") x) (bytes_eq (codes "unsat_reqs") x) (bytes_eq (codes "sat_tasks") x) (bytes_eq (codes "familiarity") x) (bytes_eq (codes "effort") x) right

pub made_proper : (m : Lists) (tokens : List Lexeme) (s : Statement) → MakesStatement m tokens s → nests_too_deep tokens ≡ false → IsProperStatement m s
made_proper m tokens s made shallow =
    subst (IsProperStatement m) made.meaning (statement_proper m made.source made.names (subst (λ ts. nests_too_deep ts ≡ false) made.spelled shallow))
