-- Where each naming variable has the truth of its definition, a formula's literal has the truth of the formula.
use Rattle.std.proofs.Common.{◌≡◌, ℕ, ◌+◌, Bool, true, false, not, ◌||◌, ◌&&◌, List, [], ◌∷◌, ◌++◌, map, length, refl, sym, ap, ◌∙◌, subst, arith}
use Rattle.std.specs.Prelude.{ℤ, int_le}
use Rattle.std.specs.List.{AllByRecursion, list_all, list_any}
use Rattle.std.proofs.lemmas.List.Folds.{list_all-map}
use Rattle.cgm_atom.specs.Bounds.{value_of}
use Rattle.cgm_atom.specs.Literals.{truth_at}
use Rattle.cgm_formula.specs.declared.formula.Formula.{Formula}
use Rattle.cgm_formula.specs.declared.formula.Formula.TheOpen.{Formula-F}
use Rattle.cgm_formula.specs.declared.formula.Formula.TheVariants.{Name, Not, And, Or, Implies, Iff, AtMost, AtLeast, Equal}
use Rattle.cgm_formula.specs.declared.formula.Linear.{Linear}
use Rattle.cgm_formula.specs.declared.formula.Number.{Number}
use Rattle.cgm_formula.specs.declared.formula.Truth.{Truth}
use Rattle.cgm_formula.specs.Truth.{linear_value, same_truth, truth, truth_step}
use Rattle.cgm_formula.proofs.Folds.{fold-AtLeast, fold-AtMost, fold-And, fold-Equal, fold-Iff, fold-Implies, fold-Name, fold-Not, fold-Or}
use Rattle.cgm_formula.proofs.Induction.{by_cases}
use Rattle.cgm_formula.proofs.Truths.{list_any-map, truth-And, truth-Or}
use Rattle.cgm_model.specs.declared.lists.Lists.{Lists}
use Rattle.cgm_model.specs.TruthVariables.{variable_of}
use Rattle.cgm_enc_formula.specs.declared.literals.Literal.{Literal}
use Rattle.cgm_enc_formula.specs.Definitions.{AreDefined, Definition, all_of, any_of, at_least, at_most, definition_true, same_as}
use Rattle.cgm_enc_formula.specs.Literals.{literal_true, opposite}
use Rattle.cgm_enc_formula.specs.Naming.{Named, Naming, defined, naming, naming_step, parts_named}
use Rattle.cgm_enc_formula.specs.Terms.{number_variable, row_terms}
use Rattle.cgm_enc_formula.proofs.LiteralTruths.{opposite-true, or_false}
use Rattle.cgm_enc_formula.proofs.TermSums.{row-sum}

-- ---- definitions in two parts

pub defined_both : (values : List ℤ) (n : ℕ) (xs ys : List Definition) → AreDefined values n (xs ++ ys) → AreDefined values n xs × AreDefined values (n + length xs) ys
defined_both values n [] ys h =
    let here : n ≡ n + 0 = omega arith in
    (tt, subst (λ (k : ℕ). AreDefined values k ys) here h)
defined_both values n (x ∷ xs) ys h =
    let rest = defined_both values (n + 1) xs ys h.1 in
    let there : n + 1 + length xs ≡ n + length (x ∷ xs) = omega arith in
    ((h.0, rest.0), subst (λ (k : ℕ). AreDefined values k ys) there rest.1)

pub both_defined : (values : List ℤ) (n : ℕ) (xs ys : List Definition) → AreDefined values n xs → AreDefined values (n + length xs) ys → AreDefined values n (xs ++ ys)
both_defined values n [] ys h k =
    let here : n + 0 ≡ n = omega arith in
    subst (λ (i : ℕ). AreDefined values i ys) here k
both_defined values n (x ∷ xs) ys h k =
    let there : n + length (x ∷ xs) ≡ n + 1 + length xs = omega arith in
    (h.0, both_defined values (n + 1) xs ys h.1 (subst (λ (i : ℕ). AreDefined values i ys) there k))

-- ---- formulas

module _ (m : Lists) (values : List ℤ) where
  abbrev pub names_at : Truth → Bool
  names_at t = truth_at values (variable_of m t)

  abbrev pub numbers_at : Number → ℤ
  numbers_at x = value_of values (number_variable m x)

  -- the literal has the truth, where the naming variables have those of their definitions
  abbrev IsNamed : Named → ℕ → Bool → Type 0
  IsNamed named n says = AreDefined values n named.definitions → literal_true values named.literal ≡ says

  abbrev pub IsTruth : Formula → Type 0
  IsTruth f = (n : ℕ) → IsNamed (naming m f n) n (truth names_at numbers_at f)

  -- one variable behind the parts
  whole : (n : ℕ) (parts : List Definition) (d : Definition) → AreDefined values n (parts ++ d ∷ []) → AreDefined values n parts × (truth_at values (n + length parts) ≡ definition_true values d)
  whole n parts d h = let both = defined_both values n parts (d ∷ []) h in (both.0, both.1.0)

  -- where the naming of the formula is one, and its truth another
  by_equal : (f : Formula) (step : Naming) (says : Bool) → naming m f ≡ step → truth names_at numbers_at f ≡ says → ((n : ℕ) → IsNamed (step n) n says) → IsTruth f
  by_equal f step says e is h n =
      subst (λ (t : Bool). IsNamed (naming m f n) n t) (sym is)
      (subst (λ (naming_of : Naming). IsNamed (naming_of n) n says) (sym e) (h n))

  parts_true : (parts : List Formula) → AllByRecursion IsTruth parts → (n : ℕ) → AreDefined values n (parts_named (map (naming m) parts) n).definitions → map (literal_true values) (parts_named (map (naming m) parts) n).literals ≡ map (truth names_at numbers_at) parts
  parts_true [] h n defined = refl
  parts_true (part ∷ parts) h n defined =
      let first = naming m part n in
      let next = n + length first.definitions in
      let rest = parts_named (map (naming m) parts) next in
      let both = defined_both values n first.definitions rest.definitions defined in
      ap (λ (t : Bool). t ∷ map (literal_true values) rest.literals) (h.0 n both.0)
      ∙ ap (λ (ts : List Bool). truth names_at numbers_at part ∷ ts) (parts_true parts h.1 next both.1)

  all_true : (parts : List Formula) (ls : List Literal) → map (literal_true values) ls ≡ map (truth names_at numbers_at) parts → list_all (literal_true values) ls ≡ list_all (truth names_at numbers_at) parts
  all_true parts ls e =
      sym (list_all-map (λ (t : Bool). t) (literal_true values) ls)
      ∙ ap (λ (ts : List Bool). list_all (λ (t : Bool). t) ts) e
      ∙ list_all-map (λ (t : Bool). t) (truth names_at numbers_at) parts

  any_true : (parts : List Formula) (ls : List Literal) → map (literal_true values) ls ≡ map (truth names_at numbers_at) parts → list_any (literal_true values) ls ≡ list_any (truth names_at numbers_at) parts
  any_true parts ls e =
      sym (list_any-map (λ (t : Bool). t) (literal_true values) ls)
      ∙ ap (λ (ts : List Bool). list_any (λ (t : Bool). t) ts) e
      ∙ list_any-map (λ (t : Bool). t) (truth names_at numbers_at) parts

  name_true : (name : Truth) → IsTruth (Name name)
  name_true name =
      by_equal (Name name) (naming_step m (Formula-F.Name name)) (names_at name) (fold-Name (naming_step m) name) (fold-Name (truth_step names_at numbers_at) name)
      (λ n h. refl)

  negation_true : (part : Formula) → IsTruth part → IsTruth (Not part)
  negation_true part h =
      by_equal (Not part) (naming_step m (Formula-F.Not (naming m part))) (not (truth names_at numbers_at part)) (fold-Not (naming_step m) part) (fold-Not (truth_step names_at numbers_at) part)
      (λ n defined. opposite-true values (naming m part n).literal ∙ ap (λ (t : Bool). not t) (h n defined))

  conjunction_true : (parts : List Formula) → AllByRecursion IsTruth parts → IsTruth (And parts)
  conjunction_true parts h =
      by_equal (And parts) (naming_step m (Formula-F.And (map (naming m) parts))) (list_all (truth names_at numbers_at) parts) (fold-And (naming_step m) parts) (truth-And names_at numbers_at parts)
      (λ n defined.
      let named = parts_named (map (naming m) parts) n in
      let both = whole n named.definitions (all_of named.literals) defined in
      both.1 ∙ all_true parts named.literals (parts_true parts h n both.0))

  disjunction_true : (parts : List Formula) → AllByRecursion IsTruth parts → IsTruth (Or parts)
  disjunction_true parts h =
      by_equal (Or parts) (naming_step m (Formula-F.Or (map (naming m) parts))) (list_any (truth names_at numbers_at) parts) (fold-Or (naming_step m) parts) (truth-Or names_at numbers_at parts)
      (λ n defined.
      let named = parts_named (map (naming m) parts) n in
      let both = whole n named.definitions (any_of named.literals) defined in
      both.1 ∙ any_true parts named.literals (parts_true parts h n both.0))

  implication_true : (premise conclusion : Formula) → IsTruth premise → IsTruth conclusion → IsTruth (Implies premise conclusion)
  implication_true premise conclusion h k =
      by_equal (Implies premise conclusion) (naming_step m (Formula-F.Implies (naming m premise) (naming m conclusion)))
      (not (truth names_at numbers_at premise) || truth names_at numbers_at conclusion)
      (fold-Implies (naming_step m) premise conclusion) (fold-Implies (truth_step names_at numbers_at) premise conclusion)
      (λ n defined.
      let one = naming m premise n in
      let next = n + length one.definitions in
      let other = naming m conclusion next in
      let both = whole n (one.definitions ++ other.definitions) (any_of (opposite one.literal ∷ other.literal ∷ [])) defined in
      let parts = defined_both values n one.definitions other.definitions both.0 in
      both.1
      ∙ ap (λ (t : Bool). t || (literal_true values other.literal || false)) (opposite-true values one.literal ∙ ap (λ (t : Bool). not t) (h n parts.0))
      ∙ ap (λ (t : Bool). not (truth names_at numbers_at premise) || t) (or_false (literal_true values other.literal) ∙ k next parts.1))

  equivalence_true : (first second : Formula) → IsTruth first → IsTruth second → IsTruth (Iff first second)
  equivalence_true first second h k =
      by_equal (Iff first second) (naming_step m (Formula-F.Iff (naming m first) (naming m second)))
      (same_truth (truth names_at numbers_at first) (truth names_at numbers_at second))
      (fold-Iff (naming_step m) first second) (fold-Iff (truth_step names_at numbers_at) first second)
      (λ n defined.
      let one = naming m first n in
      let next = n + length one.definitions in
      let other = naming m second next in
      let both = whole n (one.definitions ++ other.definitions) (same_as one.literal other.literal) defined in
      let parts = defined_both values n one.definitions other.definitions both.0 in
      both.1
      ∙ ap (λ (t : Bool). same_truth t (literal_true values other.literal)) (h n parts.0)
      ∙ ap (λ (t : Bool). same_truth (truth names_at numbers_at first) t) (k next parts.1))

  at_most_true : (l : Linear) (k : ℤ) → IsTruth (AtMost l k)
  at_most_true l k =
      by_equal (AtMost l k) (naming_step m (Formula-F.AtMost l k)) (int_le (linear_value numbers_at l) k) (fold-AtMost (naming_step m) l k) (fold-AtMost (truth_step names_at numbers_at) l k)
      (λ n defined. (whole n [] (at_most (row_terms m l) k) defined).1 ∙ ap (λ (z : ℤ). int_le z k) (row-sum values m l))

  at_least_true : (l : Linear) (k : ℤ) → IsTruth (AtLeast l k)
  at_least_true l k =
      by_equal (AtLeast l k) (naming_step m (Formula-F.AtLeast l k)) (int_le k (linear_value numbers_at l)) (fold-AtLeast (naming_step m) l k) (fold-AtLeast (truth_step names_at numbers_at) l k)
      (λ n defined. (whole n [] (at_least (row_terms m l) k) defined).1 ∙ ap (λ (z : ℤ). int_le k z) (row-sum values m l))

  and_true : (s t : Bool) → (s && (t && true)) ≡ (s && t)
  and_true s true = refl
  and_true s false = refl

  equality_true : (l : Linear) (k : ℤ) → IsTruth (Equal l k)
  equality_true l k =
      by_equal (Equal l k) (naming_step m (Formula-F.Equal l k)) (int_le (linear_value numbers_at l) k && int_le k (linear_value numbers_at l)) (fold-Equal (naming_step m) l k) (fold-Equal (truth_step names_at numbers_at) l k)
      (λ n defined.
      let most = defined.0 ∙ ap (λ (z : ℤ). int_le z k) (row-sum values m l) in
      let least = defined.1.0 ∙ ap (λ (z : ℤ). int_le k z) (row-sum values m l) in
      let next : n + 2 ≡ n + 1 + 1 = omega arith in
      ap (λ (x : ℕ). truth_at values x) next
      ∙ defined.1.1.0
      ∙ and_true (truth_at values n) (truth_at values (n + 1))
      ∙ ap (λ (t : Bool). t && truth_at values (n + 1)) most
      ∙ ap (λ (t : Bool). int_le (linear_value numbers_at l) k && t) least)

  pub literal_is_truth : (f : Formula) → IsTruth f
  literal_is_truth = by_cases IsTruth (record {
    name = name_true;
    negation = negation_true;
    conjunction = conjunction_true;
    disjunction = disjunction_true;
    implication = implication_true;
    equivalence = equivalence_true;
    at_most = at_most_true;
    at_least = at_least_true;
    equality = equality_true;
  })
