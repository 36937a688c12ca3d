-- Statements: their tokens tell them, and which tokens are those of none.
use Rattle.std.proofs.Common.{◌≡◌, ◌≢◌, ℕ, ℤ, Bool, true, false, List, [], ◌∷◌, ◌++◌, map, codes, get_or, bytes_eq, Option, None, Some, if◌then◌else◌, refl, ap, ◌∙◌, sym, arith}
use Rattle.cgm_base.specs.Printed.{truth_word}
use Rattle.cgm_lex.specs.Lexemes.{Lexeme, colon, number, word}
use Rattle.cgm_print.specs.declared.words.ConditionWord.{ConditionWord}
use Rattle.cgm_print.specs.declared.words.ConditionWord.TheVariants as condition_words
use Rattle.cgm_print.specs.declared.words.Direction.{Direction}
use Rattle.cgm_print.specs.declared.words.Direction.TheVariants as directions
use Rattle.cgm_print.specs.declared.words.NameWord.{NameWord}
use Rattle.cgm_print.specs.declared.words.NameWord.TheVariants as name_words
use Rattle.cgm_print.specs.declared.words.PairWord.{PairWord}
use Rattle.cgm_print.specs.declared.words.PairWord.TheVariants as pair_words
use Rattle.cgm_print.specs.declared.words.Sort.{Sort}
use Rattle.cgm_print.specs.declared.words.Sort.TheVariants as sorts
use Rattle.cgm_print.specs.declared.words.WeightWord.{WeightWord}
use Rattle.cgm_print.specs.declared.words.WeightWord.TheVariants as weight_words
use Rattle.cgm_print.specs.Statements.{WrittenStatement, goal, named, refinement, pair, assertion, variable, value, weight, condition, requirement, objective, sort_word, sort_of, must_tokens, direction_word, body, statement_tokens}
use Rattle.cgm_print.specs.Written.{WrittenFormula, spelled}
use Rattle.cgm_text.proofs.Formulas.{once}
use Rattle.cgm_text.specs.Parsed.{IsNoBody}

-- the sort of statement with this word
abbrev sort_in : List ℕ → Option Sort
sort_in w =
    if bytes_eq w (codes "goal") then Some sorts.Goal
    else if bytes_eq w (codes "task") then Some (sorts.Name name_words.Task)
    else if bytes_eq w (codes "assume") then Some (sorts.Name name_words.Assume)
    else if bytes_eq w (codes "sum") then Some (sorts.Name name_words.Sum)
    else if bytes_eq w (codes "interest") then Some (sorts.Name name_words.Interest)
    else if bytes_eq w (codes "refine") then Some sorts.Refine
    else if bytes_eq w (codes "contrib") then Some (sorts.Pair pair_words.Contrib)
    else if bytes_eq w (codes "conflict") then Some (sorts.Pair pair_words.Conflict)
    else if bytes_eq w (codes "bind") then Some (sorts.Pair pair_words.Bind)
    else if bytes_eq w (codes "prefer") then Some (sorts.Pair pair_words.Prefer)
    else if bytes_eq w (codes "assert") then Some sorts.Assert
    else if bytes_eq w (codes "var") then Some sorts.Var
    else if bytes_eq w (codes "value") then Some sorts.Value
    else if bytes_eq w (codes "reward") then Some (sorts.Weight weight_words.Reward)
    else if bytes_eq w (codes "penalty") then Some (sorts.Weight weight_words.Penalty)
    else if bytes_eq w (codes "pre+") then Some (sorts.Condition condition_words.Positive)
    else if bytes_eq w (codes "pre-") then Some (sorts.Condition condition_words.Negative)
    else if bytes_eq w (codes "require") then Some sorts.Require
    else if bytes_eq w (codes "objective") then Some sorts.Objective
    else None

known : (sort : Sort) → sort_in (sort_word sort) ≡ Some sort
known sorts.Goal = refl
known (sorts.Name name_words.Task) = refl
known (sorts.Name name_words.Assume) = refl
known (sorts.Name name_words.Sum) = refl
known (sorts.Name name_words.Interest) = refl
known sorts.Refine = refl
known (sorts.Pair pair_words.Contrib) = refl
known (sorts.Pair pair_words.Conflict) = refl
known (sorts.Pair pair_words.Bind) = refl
known (sorts.Pair pair_words.Prefer) = refl
known sorts.Assert = refl
known sorts.Var = refl
known sorts.Value = refl
known (sorts.Weight weight_words.Reward) = refl
known (sorts.Weight weight_words.Penalty) = refl
known (sorts.Condition condition_words.Positive) = refl
known (sorts.Condition condition_words.Negative) = refl
known sorts.Require = refl
known sorts.Objective = refl

-- a statement word tells the sort
pub sort_is : (one other : Sort) → sort_word one ≡ sort_word other → one ≡ other
sort_is one other e =
    let same : Some one ≡ Some other = sym (known one) ∙ ap sort_in e ∙ known other in
    cc

truth_is : (one other : Bool) → truth_word one ≡ truth_word other → one ≡ other
truth_is true true e = refl
truth_is true false e = absurd (omega (arith, ap (λ w. get_or w 0 0) e))
truth_is false true e = absurd (omega (arith, ap (λ w. get_or w 0 0) e))
truth_is false false e = refl

must_is : (one other : Bool) → must_tokens one ≡ must_tokens other → one ≡ other
must_is true true e = refl
must_is true false e = cc
must_is false true e = cc
must_is false false e = refl

direction_is : (one other : Direction) → direction_word one ≡ direction_word other → one ≡ other
direction_is directions.Min directions.Min e = refl
direction_is directions.Min directions.Max e = absurd (omega (arith, ap (λ w. get_or w 1 0) e))
direction_is directions.Max directions.Min e = absurd (omega (arith, ap (λ w. get_or w 1 0) e))
direction_is directions.Max directions.Max e = refl

words_are : (xs ys : List (List ℕ)) → map word xs ≡ map word ys → xs ≡ ys
words_are [] [] e = refl
words_are [] (y ∷ ys) e = cc
words_are (x ∷ xs) [] e = cc
words_are (x ∷ xs) (y ∷ ys) e =
    let others : xs ≡ ys = words_are xs ys cc in
    cc

body_once : (s t : WrittenStatement) → sort_of s ≡ sort_of t → body s ≡ body t → s ≡ t
body_once (goal x m) (goal y n) sort e =
    let must : m ≡ n = must_is m n cc in
    cc
body_once (named v x) (named w y) sort e = cc
body_once (refinement r t a xs) (refinement q u b ys) sort e =
    let others : xs ≡ ys = words_are xs ys cc in
    cc
body_once (pair v x a) (pair w y b) sort e = cc
body_once (assertion x m) (assertion y n) sort e =
    let truth : m ≡ n = truth_is m n cc in
    cc
body_once (variable x j k) (variable y l m) sort e = cc
body_once (value s x j) (value t y k) sort e = cc
body_once (weight v x j) (weight w y k) sort e = cc
body_once (condition v x f) (condition w y g) sort e =
    let inside : spelled f [] ≡ spelled g [] = cc in
    let formula = (once f g [] [] inside).0 in
    cc
body_once (requirement f) (requirement g) sort e = ap requirement (once f g [] [] e).0
body_once (objective m x) (objective n y) sort e =
    let direction : m ≡ n = direction_is m n cc in
    cc
body_once s t sort e = cc

-- a written statement with these tokens is the only one
pub statement_once : (s t : WrittenStatement) → statement_tokens s ≡ statement_tokens t → s ≡ t
statement_once s t e =
    let words : sort_word (sort_of s) ≡ sort_word (sort_of t) = cc in
    let bodies : body s ≡ body t = cc in
    body_once s t (sort_is (sort_of s) (sort_of t) words) bodies

pub no_goal : (tokens : List Lexeme) → ((x : List ℕ) (must : Bool) → tokens ≢ word x ∷ must_tokens must) → IsNoBody tokens sorts.Goal
no_goal tokens none (goal x must) sort e = none x must e
no_goal tokens none s sort e = cc

pub no_named : (what : NameWord) (tokens : List Lexeme) → ((x : List ℕ) → tokens ≢ word x ∷ []) → IsNoBody tokens (sorts.Name what)
no_named what tokens none (named v x) sort e = none x e
no_named what tokens none s sort e = cc

pub no_pair : (what : PairWord) (tokens : List Lexeme) → ((x y : List ℕ) → tokens ≢ word x ∷ word y ∷ []) → IsNoBody tokens (sorts.Pair what)
no_pair what tokens none (pair v x y) sort e = none x y e
no_pair what tokens none s sort e = cc

pub no_assertion : (tokens : List Lexeme) → ((x : List ℕ) (truth : Bool) → tokens ≢ word x ∷ word (truth_word truth) ∷ []) → IsNoBody tokens sorts.Assert
no_assertion tokens none (assertion x truth) sort e = none x truth e
no_assertion tokens none s sort e = cc

pub no_variable : (tokens : List Lexeme) → ((x : List ℕ) (j k : ℤ) → tokens ≢ word x ∷ number j ∷ number k ∷ []) → IsNoBody tokens sorts.Var
no_variable tokens none (variable x j k) sort e = none x j k e
no_variable tokens none s sort e = cc

pub no_value : (tokens : List Lexeme) → ((x y : List ℕ) (k : ℤ) → tokens ≢ word x ∷ word y ∷ number k ∷ []) → IsNoBody tokens sorts.Value
no_value tokens none (value x y k) sort e = none x y k e
no_value tokens none s sort e = cc

pub no_weight : (what : WeightWord) (tokens : List Lexeme) → ((x : List ℕ) (k : ℤ) → tokens ≢ word x ∷ number k ∷ []) → IsNoBody tokens (sorts.Weight what)
no_weight what tokens none (weight v x k) sort e = none x k e
no_weight what tokens none s sort e = cc

pub no_objective : (tokens : List Lexeme) → ((direction : Direction) (x : List ℕ) → tokens ≢ word (direction_word direction) ∷ word x ∷ []) → IsNoBody tokens sorts.Objective
no_objective tokens none (objective direction x) sort e = none direction x e
no_objective tokens none s sort e = cc

pub no_requirement : (tokens : List Lexeme) → ((f : WrittenFormula) → tokens ≢ spelled f []) → IsNoBody tokens sorts.Require
no_requirement tokens none (requirement f) sort e = none f e
no_requirement tokens none s sort e = cc

pub no_condition_word : (what : ConditionWord) (tokens : List Lexeme) → ((x : List ℕ) (after : List Lexeme) → tokens ≢ word x ∷ after) → IsNoBody tokens (sorts.Condition what)
no_condition_word what tokens none (condition v x f) sort e = none x (spelled f []) e
no_condition_word what tokens none s sort e = cc

pub no_condition : (what : ConditionWord) (x : List ℕ) (tokens rest : List Lexeme) → tokens ≡ word x ∷ rest → ((f : WrittenFormula) → rest ≢ spelled f []) → IsNoBody tokens (sorts.Condition what)
no_condition what x tokens rest begins none (condition v y f) sort e =
    let same : rest ≡ spelled f [] = cc in
    none f same
no_condition what x tokens rest begins none s sort e = cc

pub no_refinement : (tokens : List Lexeme) → ((r t x : List ℕ) (xs : List (List ℕ)) → tokens ≢ word r ∷ word t ∷ colon ∷ word x ∷ map word xs) → IsNoBody tokens sorts.Refine
no_refinement tokens none (refinement r t x xs) sort e = none r t x xs e
no_refinement tokens none s sort e = cc

-- a formula with tokens after it
pub no_whole_formula : (f : WrittenFormula) (tokens rest : List Lexeme) → tokens ≡ spelled f rest → rest ≢ [] → (g : WrittenFormula) → tokens ≢ spelled g []
no_whole_formula f tokens rest found more g e = more (once f g rest [] (sym found ∙ e)).1

-- words that are followed by what is no word
pub no_words : (xs ys : List (List ℕ)) (rest : List Lexeme) → ((x : List ℕ) (after : List Lexeme) → rest ≢ word x ∷ after) → rest ≢ [] → map word xs ++ rest ≡ map word ys → ⊥
no_words [] [] rest none more e = more e
no_words [] (y ∷ ys) rest none more e = none y (map word ys) e
no_words (x ∷ xs) [] rest none more e = cc
no_words (x ∷ xs) (y ∷ ys) rest none more e = no_words xs ys rest none more cc

-- what follows the statement word is that of no statement of its sort
pub no_statement : (tokens after : List Lexeme) (sort : Sort) → tokens ≡ word (sort_word sort) ∷ after → IsNoBody after sort → (s : WrittenStatement) → tokens ≢ statement_tokens s
no_statement tokens after sort begins none s e =
    let words : sort_word (sort_of s) ≡ sort_word sort = cc in
    let bodies : after ≡ body s = cc in
    none s (sort_is (sort_of s) sort words) bodies
