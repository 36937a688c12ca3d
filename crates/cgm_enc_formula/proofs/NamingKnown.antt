-- The definitions of a formula have variables before their own, and its literal is one of them or of the model.
use Rattle.std.proofs.Common.{◌≡◌, ℕ, ◌+◌, ◌<◌, ◌≤◌, List, [], ◌∷◌, ◌++◌, length, get_or, map, sym, subst, arith}
use Rattle.std.specs.Prelude.{ℤ}
use Rattle.std.specs.List.{All, AllByRecursion}
use Rattle.std.proofs.lemmas.List.{length-append}
use Rattle.std.proofs.lemmas.List.Elements.{All-cons, All-head, All-nil, All-tail, All-weaker, recursion_from_All}
use Rattle.std.proofs.lemmas.List.Sums.{AllPass-from_list_all}
use Rattle.cgm_atom.specs.Limits.{AreTermsOf}
use Rattle.cgm_formula.specs.declared.formula.Formula.{Formula}
use Rattle.cgm_formula.specs.declared.formula.Formula.TheOpen.{Formula-F}
use Rattle.cgm_formula.specs.declared.formula.Formula.TheVariants.{Name, Not, And, Or, Implies, Iff, AtMost, AtLeast, Equal}
use Rattle.cgm_formula.specs.declared.formula.Linear.{Linear}
use Rattle.cgm_formula.specs.declared.formula.Truth.{Truth}
use Rattle.cgm_formula.specs.declared.formula.Truth.TheVariants as names
use Rattle.cgm_formula.specs.Nodes.{comparisons, formula_names as names_of}
use Rattle.cgm_formula.proofs.Comparisons.{of_at_least, of_at_most, of_conjunction, of_disjunction, of_equality, of_equivalence, of_implication, of_negation}
use Rattle.cgm_formula.proofs.Folds.{fold-AtLeast, fold-AtMost, fold-And, fold-Equal, fold-Iff, fold-Implies, fold-Name, fold-Not, fold-Or}
use Rattle.cgm_formula.proofs.Induction.{by_cases}
use Rattle.cgm_model.specs.declared.lists.Lists.{Lists}
use Rattle.cgm_model.specs.declared.lists.Rule.{Rule}
use Rattle.cgm_model.specs.Formulas.{IsKnownTruth, formula_of, has_distinct_terms}
use Rattle.cgm_model.specs.TruthVariables.{truth_variables, variable_of}
use Rattle.cgm_model.specs.WellFormed.{IsRule, IsWellFormedModel}
use Rattle.cgm_enc_formula.specs.declared.literals.Literal.{Literal}
use Rattle.cgm_enc_formula.specs.Definitions.{AreDefinitionsFrom, Definition, IsDefinitionOf, all_of, any_of, at_least, at_most, same_as}
use Rattle.cgm_enc_formula.specs.Literals.{opposite, positive}
use Rattle.cgm_enc_formula.specs.Naming.{Named, NamedParts, Naming, naming, naming_step, parts_named}
use Rattle.cgm_enc_formula.specs.Rules.{rule_definitions}
use Rattle.cgm_enc_formula.specs.Terms.{model_variables, nonzero, row_terms, variable_terms}
use Rattle.cgm_enc_formula.proofs.Splits.{name_of_name, names_of_conjunction, names_of_disjunction, names_of_equivalence, names_of_implication, names_of_negation}
use Rattle.cgm_enc_formula.proofs.TermOrders.{row_terms_known, terms_known, terms_wider}
use Rattle.cgm_enc_formula.proofs.WellFormedRules.{each_rule}

pub known_both : (n : ℕ) (xs ys : List Definition) → AreDefinitionsFrom n xs → AreDefinitionsFrom (n + length xs) ys → AreDefinitionsFrom n (xs ++ ys)
known_both n [] ys h k =
    let here : n + 0 ≡ n = omega arith in
    subst (λ (i : ℕ). AreDefinitionsFrom i ys) here k
known_both n (x ∷ xs) ys h k =
    let there : n + length (x ∷ xs) ≡ n + 1 + length xs = omega arith in
    (h.0, known_both (n + 1) xs ys h.1 (subst (λ (i : ℕ). AreDefinitionsFrom i ys) there k))

-- its definitions and its literal are known
pub record IsKnownNamed (n : ℕ) (f : Named) : Type 0 where
  pub definitions : AreDefinitionsFrom n f.definitions
  pub literal : f.literal.variable < n + length f.definitions

-- the same of parts
pub record AreKnownParts (n : ℕ) (fs : NamedParts) : Type 0 where
  pub definitions : AreDefinitionsFrom n fs.definitions
  pub literals : All (λ l. l.variable < n + length fs.definitions) fs.literals

-- one variable behind known parts
whole_known : (n : ℕ) (parts : List Definition) (d : Definition) → AreDefinitionsFrom n parts → IsDefinitionOf (n + length parts) d → IsKnownNamed n (record { definitions = parts ++ d ∷ []; literal = positive (n + length parts) })
whole_known n parts d h k =
    let long = length-append parts (d ∷ []) in
    record { definitions = known_both n parts (d ∷ []) h (k, tt); literal = omega arith }

literals_wider : (count more : ℕ) → count ≤ more → (ls : List Literal) → All (λ l. l.variable < count) ls → All (λ l. l.variable < more) ls
literals_wider count more few ls h = All-weaker (λ (l : Literal). l.variable < count) (λ l. l.variable < more) (λ l k. omega arith) ls h

module _ (m : Lists) where
  abbrev pub HasTerms : Linear × ℤ → Type 0
  HasTerms c = AreTermsOf (model_variables m) (nonzero (variable_terms m c.0.terms))

  abbrev pub IsNameable : Formula → Type 0
  IsNameable f = All (IsKnownTruth m) (names_of f) → All HasTerms (comparisons f) → (n : ℕ) → model_variables m ≤ n → IsKnownNamed n (naming m f n)

  by_step : (f : Formula) (step : Naming) (n : ℕ) → naming m f ≡ step → IsKnownNamed n (step n) → IsKnownNamed n (naming m f n)
  by_step f step n e h = subst (λ (naming_of : Naming). IsKnownNamed n (naming_of n)) (sym e) h

  pub parts_known : (parts : List Formula) → AllByRecursion IsNameable parts → AllByRecursion (λ f. All (IsKnownTruth m) (names_of f)) parts → AllByRecursion (λ f. All HasTerms (comparisons f)) parts → (n : ℕ) → model_variables m ≤ n → AreKnownParts n (parts_named (map (naming m) parts) n)
  parts_known [] h k l n few = record { definitions = tt; literals = All-nil (λ (l : Literal). l.variable < n + 0) }
  parts_known (part ∷ parts) h k l n few =
      let first = naming m part n in
      let next = n + length first.definitions in
      let rest = parts_named (map (naming m) parts) next in
      let one = h.0 k.0 l.0 n few in
      let others = parts_known parts h.1 k.1 l.1 next (omega arith) in
      let long = length-append first.definitions rest.definitions in
      let own = one.literal in
      record {
        definitions = known_both n first.definitions rest.definitions one.definitions others.definitions;
        literals = All-cons (λ (l : Literal). l.variable < n + length (first.definitions ++ rest.definitions)) first.literal rest.literals (omega arith)
            (literals_wider (next + length rest.definitions) (n + length (first.definitions ++ rest.definitions)) (omega arith) rest.literals others.literals);
      }

  pub name_within : (name : Truth) → IsKnownTruth m name → variable_of m name < truth_variables m
  name_within (names.Element k) h = omega arith
  name_within (names.Refinement k) h = omega arith

  name_known : (name : Truth) → IsNameable (Name name)
  name_known name k l n few =
      let within = name_within name (name_of_name (IsKnownTruth m) name k) in
      by_step (Name name) (naming_step m (Formula-F.Name name)) n (fold-Name (naming_step m) name)
      (record { definitions = tt; literal = omega arith })

  negation_known : (part : Formula) → IsNameable part → IsNameable (Not part)
  negation_known part h k l n few =
      let one = h (names_of_negation (IsKnownTruth m) part k) (of_negation HasTerms part l) n few in
      by_step (Not part) (naming_step m (Formula-F.Not (naming m part))) n (fold-Not (naming_step m) part)
      (record { definitions = one.definitions; literal = one.literal })

  conjunction_known : (parts : List Formula) → AllByRecursion IsNameable parts → IsNameable (And parts)
  conjunction_known parts h k l n few =
      let named = parts_named (map (naming m) parts) n in
      let known = parts_known parts h (names_of_conjunction (IsKnownTruth m) parts k) (recursion_from_All (λ f. All HasTerms (comparisons f)) parts (of_conjunction HasTerms parts l)) n few in
      by_step (And parts) (naming_step m (Formula-F.And (map (naming m) parts))) n (fold-And (naming_step m) parts)
      (whole_known n named.definitions (all_of named.literals) known.definitions known.literals)

  disjunction_known : (parts : List Formula) → AllByRecursion IsNameable parts → IsNameable (Or parts)
  disjunction_known parts h k l n few =
      let named = parts_named (map (naming m) parts) n in
      let known = parts_known parts h (names_of_disjunction (IsKnownTruth m) parts k) (recursion_from_All (λ f. All HasTerms (comparisons f)) parts (of_disjunction HasTerms parts l)) n few in
      by_step (Or parts) (naming_step m (Formula-F.Or (map (naming m) parts))) n (fold-Or (naming_step m) parts)
      (whole_known n named.definitions (any_of named.literals) known.definitions known.literals)

  implication_known : (premise conclusion : Formula) → IsNameable premise → IsNameable conclusion → IsNameable (Implies premise conclusion)
  implication_known premise conclusion h i k l n few =
      let ks = names_of_implication (IsKnownTruth m) premise conclusion k in
      let ls = of_implication HasTerms premise conclusion l in
      let one = naming m premise n in
      let next = n + length one.definitions in
      let other = naming m conclusion next in
      let first = h ks.0 ls.0 n few in
      let second = i ks.1 ls.1 next (omega arith) in
      let long = length-append one.definitions other.definitions in
      let own = first.literal in
      let own_too = second.literal in
      let count = n + length (one.definitions ++ other.definitions) in
      by_step (Implies premise conclusion) (naming_step m (Formula-F.Implies (naming m premise) (naming m conclusion))) n (fold-Implies (naming_step m) premise conclusion)
      (whole_known n (one.definitions ++ other.definitions) (any_of (opposite one.literal ∷ other.literal ∷ [])) (known_both n one.definitions other.definitions first.definitions second.definitions)
      (All-cons (λ (l : Literal). l.variable < count) (opposite one.literal) (other.literal ∷ []) (omega arith)
      (All-cons (λ (l : Literal). l.variable < count) other.literal [] (omega arith) (All-nil (λ (l : Literal). l.variable < count)))))

  equivalence_known : (left right : Formula) → IsNameable left → IsNameable right → IsNameable (Iff left right)
  equivalence_known left right h i k l n few =
      let ks = names_of_equivalence (IsKnownTruth m) left right k in
      let ls = of_equivalence HasTerms left right l in
      let one = naming m left n in
      let next = n + length one.definitions in
      let other = naming m right next in
      let first = h ks.0 ls.0 n few in
      let second = i ks.1 ls.1 next (omega arith) in
      let long = length-append one.definitions other.definitions in
      let own = first.literal in
      let own_too = second.literal in
      by_step (Iff left right) (naming_step m (Formula-F.Iff (naming m left) (naming m right))) n (fold-Iff (naming_step m) left right)
      (whole_known n (one.definitions ++ other.definitions) (same_as one.literal other.literal) (known_both n one.definitions other.definitions first.definitions second.definitions) (omega arith, omega arith))

  at_most_known : (l : Linear) (k : ℤ) → IsNameable (AtMost l k)
  at_most_known l k h i n few =
      by_step (AtMost l k) (naming_step m (Formula-F.AtMost l k)) n (fold-AtMost (naming_step m) l k)
      (whole_known n [] (at_most (row_terms m l) k) tt
      (terms_wider (model_variables m) (n + 0) (omega arith) (row_terms m l) (row_terms_known m l (of_at_most HasTerms l k i))))

  at_least_known : (l : Linear) (k : ℤ) → IsNameable (AtLeast l k)
  at_least_known l k h i n few =
      by_step (AtLeast l k) (naming_step m (Formula-F.AtLeast l k)) n (fold-AtLeast (naming_step m) l k)
      (whole_known n [] (at_least (row_terms m l) k) tt
      (terms_wider (model_variables m) (n + 0) (omega arith) (row_terms m l) (row_terms_known m l (of_at_least HasTerms l k i))))

  equality_known : (l : Linear) (k : ℤ) → IsNameable (Equal l k)
  equality_known l k h i n few =
      let terms = row_terms_known m l (of_equality HasTerms l k i) in
      by_step (Equal l k) (naming_step m (Formula-F.Equal l k)) n (fold-Equal (naming_step m) l k)
      (record {
        definitions = (
          terms_wider (model_variables m) n few (row_terms m l) terms,
          (
            terms_wider (model_variables m) (n + 1) (omega arith) (row_terms m l) terms,
            (
              All-cons (λ (l : Literal). l.variable < n + 1 + 1) (positive n) (positive (n + 1) ∷ []) (omega arith)
                  (All-cons (λ (l : Literal). l.variable < n + 1 + 1) (positive (n + 1)) [] (omega arith) (All-nil (λ (l : Literal). l.variable < n + 1 + 1))),
              tt,
            ),
          ),
        );
        literal = omega arith;
      })

  pub naming_known : (f : Formula) → IsNameable f
  naming_known = by_cases IsNameable (record {
    name = name_known;
    negation = negation_known;
    conjunction = conjunction_known;
    disjunction = disjunction_known;
    implication = implication_known;
    equivalence = equivalence_known;
    at_most = at_most_known;
    at_least = at_least_known;
    equality = equality_known;
  })

  -- ---- rules

  -- what is known of a rule's formula
  pub record HasKnownFormula (r : Rule) : Type 0 where
    pub names : All (IsKnownTruth m) (names_of (formula_of r))
    pub terms : All HasTerms (comparisons (formula_of r))

  formula_known : (r : Rule) → IsRule m r → HasKnownFormula r
  formula_known r h = record {
    names = h.proper.formula.names;
    terms = λ k d l. terms_known m _ (h.proper.formula.numbers k d l) (AllPass-from_list_all (λ c. has_distinct_terms c.0) (comparisons (formula_of r)) h.distinct k d l);
  }

  definitions_known : (n : ℕ) (rs : List Rule) → model_variables m ≤ n → All HasKnownFormula rs → AreDefinitionsFrom n (rule_definitions m n rs)
  definitions_known n [] few h = tt
  definitions_known n (r ∷ rs) few h =
      let here = All-head HasKnownFormula r rs h in
      let named = naming m (formula_of r) n in
      let one = naming_known (formula_of r) here.names here.terms n few in
      known_both n named.definitions (rule_definitions m (n + length named.definitions) rs) one.definitions
      (definitions_known (n + length named.definitions) rs (omega arith) (All-tail HasKnownFormula r rs h))

pub rule_formulas_known : (m : Lists) → ∥ IsWellFormedModel m ∥₁ → All (HasKnownFormula m) m.rules
rule_formulas_known m well k d l = formula_known m (get_or m.rules k d) (each_rule m well k d l)

pub rule_definitions_known : (m : Lists) (n : ℕ) → ∥ IsWellFormedModel m ∥₁ → model_variables m ≤ n → AreDefinitionsFrom n (rule_definitions m n m.rules)
rule_definitions_known m n well few = definitions_known m n m.rules few (rule_formulas_known m well)
