-- The steps of naming a formula: parts, then the whole.
use Rattle.std.proofs.Common.{◌≡◌, ℕ, ◌+◌, ◌^◌, ◌<◌, ◌≤◌, List, [], ◌∷◌, ◌++◌, length, get_or, map, replicate, sym, ap, ◌∙◌, subst, arith}
use Rattle.std.specs.Prelude.{ℤ, pos, unsigned_abs}
use Rattle.std.specs.List.{All, AllByRecursion}
use Rattle.std.proofs.lemmas.List.{append_assoc}
use Rattle.std.proofs.lemmas.List.Elements.{All-head, All-tail, All-weaker, All-from_recursion, recursion_from_All}
use Rattle.cgm_atom.specs.declared.constraints.Var.{Var}
use Rattle.cgm_atom.specs.Bounds.{Bounds}
use Rattle.cgm_atom.specs.Instance.{Instance, var_count}
use Rattle.cgm_atom.specs.Limits.{AreTermsOf, max_measure, measure}
use Rattle.cgm_atom.proofs.Growing.{measure-longer}
use Rattle.cgm_formula.specs.declared.formula.Formula.{Formula}
use Rattle.cgm_formula.specs.declared.formula.Formula.TheVariants.{Name, Not, And, Or, Implies, Iff, AtMost, AtLeast, Equal}
use Rattle.cgm_formula.specs.declared.formula.Linear.{Linear}
use Rattle.cgm_formula.specs.declared.formula.Truth.{Truth}
use Rattle.cgm_formula.specs.Nodes.{comparisons, formula_names as names_of}
use Rattle.cgm_formula.proofs.Comparisons.{of_conjunction, of_disjunction, of_equivalence, of_implication, of_negation}
use Rattle.cgm_formula.proofs.Folds.{fold-And, fold-AtLeast, fold-AtMost, fold-Equal, fold-Iff, fold-Implies, fold-Name, fold-Not, fold-Or}
use Rattle.cgm_model.specs.declared.lists.Lists.{Lists}
use Rattle.cgm_model.specs.Formulas.{IsKnownTruth}
use Rattle.cgm_model.specs.TruthVariables.{variable_of}
use Rattle.cgm_enc_formula.specs.declared.literals.Literal.{Literal}
use Rattle.cgm_enc_formula.specs.Building.{HasRoomFor, Part, definition_part, definitions_part, with_part}
use Rattle.cgm_enc_formula.specs.Definitions.{Definition, all_of, any_of, at_least, at_most, same_as}
use Rattle.cgm_enc_formula.specs.Naming.{Named, NamedParts, Naming, defined, equal_definitions, naming, naming_step, parts_named}
use Rattle.cgm_enc_formula.specs.Literals.{opposite, positive}
use Rattle.cgm_enc_formula.specs.Terms.{AreRowTerms, IsEncodableFormula, model_variables, row_terms}
use Rattle.cgm_enc_formula.proofs.NamingKnown.{HasTerms, IsKnownNamed, naming_known, parts_known, IsNameable}
use Rattle.cgm_enc_formula.proofs.Splits.{name_of_name, names_of_conjunction, names_of_disjunction, names_of_equivalence, names_of_implication, names_of_negation}
use Rattle.cgm_enc_formula.proofs.Steps.{IsLeft, definitions_both, first_fits, left_more, one_definition, rest_fits, with-count, with_both}
use Rattle.cgm_enc_formula.proofs.TermOrders.{All-row_terms, row_terms_known, terms_wider}

-- the builder holds the definitions behind what it held
abbrev pub Adds : Instance → List Definition → Instance → Type 0
Adds old ds new = new ≡ with_part old (definitions_part (var_count old) ds)

-- there is room for the definitions
abbrev pub Fits : Instance → List Definition → Type 0
Fits p ds = HasRoomFor p (definitions_part (var_count p) ds)

pub count_after : (old new : Instance) (ds : List Definition) → Adds old ds new → var_count new ≡ var_count old + length ds
count_after old new ds e = ap (λ (p : Instance). var_count p) e ∙ with-count old (definitions_part (var_count old) ds)

-- ---- definitions in two parts

pub front_fits : (p : Instance) (xs ys : List Definition) → Fits p (xs ++ ys) → Fits p xs
front_fits p xs ys h =
    let n = var_count p in
    first_fits p (definitions_part n xs) (definitions_part (n + length xs) ys) (subst (λ (x : Part). HasRoomFor p x) (definitions_both n xs ys) h)

pub back_fits : (old new : Instance) (xs ys : List Definition) → Adds old xs new → Fits old (xs ++ ys) → Fits new ys
back_fits old new xs ys e h =
    let n = var_count old in
    let back = rest_fits old (definitions_part n xs) (definitions_part (n + length xs) ys) (subst (λ (x : Part). HasRoomFor old x) (definitions_both n xs ys) h) in
    subst (λ (k : ℕ). HasRoomFor new (definitions_part k ys)) (sym (count_after old new xs e))
    (subst (λ (p : Instance). HasRoomFor p (definitions_part (n + length xs) ys)) (sym e) back)

pub both_added : (old new last : Instance) (xs ys : List Definition) → Adds old xs new → Adds new ys last → Adds old (xs ++ ys) last
both_added old new last xs ys e is =
    let n = var_count old in
    is
    ∙ ap (λ (k : ℕ). with_part new (definitions_part k ys)) (count_after old new xs e)
    ∙ ap (λ (p : Instance). with_part p (definitions_part (n + length xs) ys)) e
    ∙ with_both old (definitions_part n xs) (definitions_part (n + length xs) ys)
    ∙ ap (λ (x : Part). with_part old x) (sym (definitions_both n xs ys))

-- ---- one definition behind others

pub whole_fits : (old new : Instance) (ds : List Definition) (d : Definition) → Adds old ds new → Fits old (ds ++ d ∷ []) → HasRoomFor new (definition_part (var_count new) d)
whole_fits old new ds d e h =
    subst (λ (x : Part). HasRoomFor new x) (one_definition (var_count new) d) (back_fits old new ds (d ∷ []) e h)

pub whole_added : (old new last : Instance) (ds : List Definition) (d : Definition) → Adds old ds new → last ≡ with_part new (definition_part (var_count new) d) → Adds old (ds ++ d ∷ []) last
whole_added old new last ds d e is =
    both_added old new last ds (d ∷ []) e (is ∙ ap (λ (x : Part). with_part new x) (sym (one_definition (var_count new) d)))

-- ---- behind more variables

-- a comparison can become rows behind a part too
pub comparison_after : (m : Lists) (old new : Instance) (part : Part) (c : Linear × ℤ) → new ≡ with_part old part → length old.bounds.upper ≡ length old.bounds.lower → model_variables m ≤ var_count old → AreRowTerms m old.bounds c → AreRowTerms m new.bounds c
comparison_after m old new part c e same few h =
    let own = row_terms m c.0 in
    let known = terms_wider (model_variables m) (var_count old) few own (row_terms_known m c.0 h.terms) in
    let still : measure (with_part old part).bounds own ≡ measure old.bounds own = measure-longer old.bounds (replicate part.names (pos 0)) (replicate part.names (pos 1)) own same known in
    record {
      terms = h.terms;
      coefficients = h.coefficients;
      size =
          subst (λ (p : Instance). unsigned_abs c.1 + measure p.bounds own ≤ max_measure) (sym e)
          (subst (λ (n : ℕ). unsigned_abs c.1 + n ≤ max_measure) (sym still) h.size);
    }

pub encodable_after : (m : Lists) (f : Formula) (old new : Instance) (part : Part) → new ≡ with_part old part → length old.bounds.upper ≡ length old.bounds.lower → model_variables m ≤ var_count old → IsEncodableFormula m old.bounds f → IsEncodableFormula m new.bounds f
encodable_after m f old new part e same few h = record {
  names = h.names;
  comparisons = λ k d l. comparison_after m old new part (get_or (comparisons f) k d) e same few (h.comparisons k d l);
}

-- ---- formulas

module _ (m : Lists) where
  pub formula_named : {b : Bounds} (f : Formula) (n : ℕ) → IsEncodableFormula m b f → model_variables m ≤ n → IsKnownNamed n (naming m f n)
  formula_named f n h few = naming_known m f h.names (λ k d l. (h.comparisons k d l).terms) n few

  -- a formula's literal is known behind its definitions
  pub literal_within : {b : Bounds} (f : Formula) (old new : Instance) → IsEncodableFormula m b f → model_variables m ≤ var_count old → Adds old (naming m f (var_count old)).definitions new → (naming m f (var_count old)).literal.variable < var_count new
  literal_within f old new h few e =
      let known = (formula_named f (var_count old) h few).literal in
      let count = count_after old new (naming m f (var_count old)).definitions e in
      omega arith

  -- ---- what is known of a formula is known of its parts

  pub encodable_name : (b : Bounds) (name : Truth) → IsEncodableFormula m b (Name name) → IsKnownTruth m name
  encodable_name b name h = name_of_name (IsKnownTruth m) name h.names

  pub encodable_negation : (b : Bounds) (part : Formula) → IsEncodableFormula m b (Not part) → IsEncodableFormula m b part
  encodable_negation b part h = record {
    names = names_of_negation (IsKnownTruth m) part h.names;
    comparisons = of_negation (AreRowTerms m b) part h.comparisons;
  }

  parts_encodable : (b : Bounds) (parts : List Formula) → AllByRecursion (λ f. All (IsKnownTruth m) (names_of f)) parts → All (λ f. All (AreRowTerms m b) (comparisons f)) parts → All (IsEncodableFormula m b) parts
  parts_encodable b parts h k i d l = record {
    names = All-from_recursion (λ f. All (IsKnownTruth m) (names_of f)) parts h i d l;
    comparisons = k i d l;
  }

  pub encodable_conjunction : (b : Bounds) (parts : List Formula) → IsEncodableFormula m b (And parts) → All (IsEncodableFormula m b) parts
  encodable_conjunction b parts h =
      parts_encodable b parts (names_of_conjunction (IsKnownTruth m) parts h.names) (of_conjunction (AreRowTerms m b) parts h.comparisons)

  pub encodable_disjunction : (b : Bounds) (parts : List Formula) → IsEncodableFormula m b (Or parts) → All (IsEncodableFormula m b) parts
  encodable_disjunction b parts h =
      parts_encodable b parts (names_of_disjunction (IsKnownTruth m) parts h.names) (of_disjunction (AreRowTerms m b) parts h.comparisons)

  pub encodable_implication : (b : Bounds) (premise conclusion : Formula) → IsEncodableFormula m b (Implies premise conclusion) → IsEncodableFormula m b premise × IsEncodableFormula m b conclusion
  encodable_implication b premise conclusion h =
      let names = names_of_implication (IsKnownTruth m) premise conclusion h.names in
      let cs = of_implication (AreRowTerms m b) premise conclusion h.comparisons in
      (record { names = names.0; comparisons = cs.0 }, record { names = names.1; comparisons = cs.1 })

  pub encodable_equivalence : (b : Bounds) (one other : Formula) → IsEncodableFormula m b (Iff one other) → IsEncodableFormula m b one × IsEncodableFormula m b other
  encodable_equivalence b one other h =
      let names = names_of_equivalence (IsKnownTruth m) one other h.names in
      let cs = of_equivalence (AreRowTerms m b) one other h.comparisons in
      (record { names = names.0; comparisons = cs.0 }, record { names = names.1; comparisons = cs.1 })

  -- ---- the naming of each kind of formula

  abbrev pub all_named : List Formula → ℕ → Named
  all_named parts n = defined n (parts_named (map (naming m) parts) n).definitions (all_of (parts_named (map (naming m) parts) n).literals)

  abbrev pub any_named : List Formula → ℕ → Named
  any_named parts n = defined n (parts_named (map (naming m) parts) n).definitions (any_of (parts_named (map (naming m) parts) n).literals)

  pub naming-Not : (f part : Formula) (n : ℕ) → f ≡ Not part → naming m f n ≡ record { definitions = (naming m part n).definitions; literal = opposite (naming m part n).literal }
  naming-Not f part n e = ap (λ (x : Formula). naming m x n) e ∙ ap (λ (x : Naming). x n) (fold-Not (naming_step m) part)

  pub naming-And : (f : Formula) (parts : List Formula) (n : ℕ) → f ≡ And parts → naming m f n ≡ all_named parts n
  naming-And f parts n e = ap (λ (x : Formula). naming m x n) e ∙ ap (λ (x : Naming). x n) (fold-And (naming_step m) parts)

  pub naming-Or : (f : Formula) (parts : List Formula) (n : ℕ) → f ≡ Or parts → naming m f n ≡ any_named parts n
  naming-Or f parts n e = ap (λ (x : Formula). naming m x n) e ∙ ap (λ (x : Naming). x n) (fold-Or (naming_step m) parts)

  pub naming-Name : (f : Formula) (name : Truth) (n : ℕ) → f ≡ Name name → naming m f n ≡ record { definitions = []; literal = positive (variable_of m name) }
  naming-Name f name n e = ap (λ (x : Formula). naming m x n) e ∙ ap (λ (x : Naming). x n) (fold-Name (naming_step m) name)

  pub naming-AtMost : (f : Formula) (l : Linear) (k : ℤ) (n : ℕ) → f ≡ AtMost l k → naming m f n ≡ defined n [] (at_most (row_terms m l) k)
  naming-AtMost f l k n e = ap (λ (x : Formula). naming m x n) e ∙ ap (λ (x : Naming). x n) (fold-AtMost (naming_step m) l k)

  pub naming-AtLeast : (f : Formula) (l : Linear) (k : ℤ) (n : ℕ) → f ≡ AtLeast l k → naming m f n ≡ defined n [] (at_least (row_terms m l) k)
  naming-AtLeast f l k n e = ap (λ (x : Formula). naming m x n) e ∙ ap (λ (x : Naming). x n) (fold-AtLeast (naming_step m) l k)

  pub naming-Equal : (f : Formula) (l : Linear) (k : ℤ) (n : ℕ) → f ≡ Equal l k → naming m f n ≡ record { definitions = equal_definitions m l k n; literal = positive (n + 2) }
  naming-Equal f l k n e = ap (λ (x : Formula). naming m x n) e ∙ ap (λ (x : Naming). x n) (fold-Equal (naming_step m) l k)

  -- ---- two formulas, one after the other

  abbrev pub second_naming : Formula → Formula → ℕ → Named
  second_naming one other n = naming m other (n + length (naming m one n).definitions)

  abbrev pub two_definitions : Formula → Formula → ℕ → List Definition
  two_definitions one other n = (naming m one n).definitions ++ (second_naming one other n).definitions

  pub second_at : (one other : Formula) (old new : Instance) → Adds old (naming m one (var_count old)).definitions new → second_naming one other (var_count old) ≡ naming m other (var_count new)
  second_at one other old new e = ap (λ (k : ℕ). naming m other k) (sym (count_after old new (naming m one (var_count old)).definitions e))

  pub first_of_two : (one other : Formula) (d : Definition) (p : Instance) → Fits p (two_definitions one other (var_count p) ++ d ∷ []) → Fits p (naming m one (var_count p)).definitions
  first_of_two one other d p h =
      front_fits p (naming m one (var_count p)).definitions (second_naming one other (var_count p)).definitions
      (front_fits p (two_definitions one other (var_count p)) (d ∷ []) h)

  pub second_of_two : (one other : Formula) (d : Definition) (old new : Instance) → Adds old (naming m one (var_count old)).definitions new → Fits old (two_definitions one other (var_count old) ++ d ∷ []) → Fits new (naming m other (var_count new)).definitions
  second_of_two one other d old new e h =
      let n = var_count old in
      subst (λ (x : Named). Fits new x.definitions) (second_at one other old new e)
      (back_fits old new (naming m one n).definitions (second_naming one other n).definitions e (front_fits old (two_definitions one other n) (d ∷ []) h))

  pub two_added : (one other : Formula) (old new last : Instance) → Adds old (naming m one (var_count old)).definitions new → Adds new (naming m other (var_count new)).definitions last → Adds old (two_definitions one other (var_count old)) last
  two_added one other old new last e is =
      let n = var_count old in
      both_added old new last (naming m one n).definitions (second_naming one other n).definitions e
      (subst (λ (x : Named). Adds new x.definitions last) (sym (second_at one other old new e)) is)

  abbrev pub implies_definition : Formula → Formula → ℕ → Definition
  implies_definition one other n = any_of (opposite (naming m one n).literal ∷ (second_naming one other n).literal ∷ [])

  abbrev pub iff_definition : Formula → Formula → ℕ → Definition
  iff_definition one other n = same_as (naming m one n).literal (second_naming one other n).literal

  pub naming-Implies : (f one other : Formula) (n : ℕ) → f ≡ Implies one other → naming m f n ≡ defined n (two_definitions one other n) (implies_definition one other n)
  naming-Implies f one other n e = ap (λ (x : Formula). naming m x n) e ∙ ap (λ (x : Naming). x n) (fold-Implies (naming_step m) one other)

  pub naming-Iff : (f one other : Formula) (n : ℕ) → f ≡ Iff one other → naming m f n ≡ defined n (two_definitions one other n) (iff_definition one other n)
  naming-Iff f one other n e = ap (λ (x : Formula). naming m x n) e ∙ ap (λ (x : Naming). x n) (fold-Iff (naming_step m) one other)

  -- ---- a list of formulas

  abbrev pub parts_at : List Formula → ℕ → NamedParts
  parts_at parts n = parts_named (map (naming m) parts) n

  -- the literals of a list of formulas are known behind their definitions
  pub literals_within : {b : Bounds} (parts : List Formula) (old new : Instance) → All (IsEncodableFormula m b) parts → model_variables m ≤ var_count old → Adds old (parts_at parts (var_count old)).definitions new → All (λ l. l.variable < var_count new) (parts_at parts (var_count old)).literals
  literals_within parts old new h few e =
      let n = var_count old in
      let known = parts_known m parts (recursion_from_All (IsNameable m) parts (λ k d l. naming_known m (get_or parts k d)))
      (recursion_from_All (λ f. All (IsKnownTruth m) (names_of f)) parts (λ k d l. (h k d l).names))
      (recursion_from_All (λ f. All (HasTerms m) (comparisons f)) parts (λ k d l i x w. ((h k d l).comparisons i x w).terms)) n few in
      let count = count_after old new (parts_at parts n).definitions e in
      All-weaker (λ (l : Literal). l.variable < n + length (parts_at parts n).definitions) (λ l. l.variable < var_count new) (λ l w. omega arith)
      (parts_at parts n).literals known.literals

  -- the parts before the rest are named, and the rest is left
  pub record AreNamed (old : Instance) (all : List Formula) (new : Instance) (ls : List Literal) (rest : List Formula) : Type 0 where
    pub known : All (IsEncodableFormula m new.bounds) rest
    pub variables : model_variables m ≤ var_count new
    pub left : IsLeft old (definitions_part (var_count old) (parts_at all (var_count old)).definitions) new (definitions_part (var_count new) (parts_at rest (var_count new)).definitions)
    pub literals : ls ++ (parts_at rest (var_count new)).literals ≡ (parts_at all (var_count old)).literals

  pub next_known : (old p : Instance) (all : List Formula) (ls : List Literal) (part : Formula) (rest : List Formula) → AreNamed old all p ls (part ∷ rest) → IsEncodableFormula m p.bounds part
  next_known old p all ls part rest far = All-head (IsEncodableFormula m p.bounds) part rest far.known

  pub next_fits : (old p : Instance) (all : List Formula) (ls : List Literal) (part : Formula) (rest : List Formula) → AreNamed old all p ls (part ∷ rest) → Fits p (naming m part (var_count p)).definitions
  next_fits old p all ls part rest far =
      let n = var_count p in
      let first = (naming m part n).definitions in
      front_fits p first (parts_at rest (n + length first)).definitions far.left.room

  pub named_more : (old p q : Instance) (all : List Formula) (ls : List Literal) (l : Literal) (part : Formula) (rest : List Formula) → AreNamed old all p ls (part ∷ rest) → length p.bounds.upper ≡ length p.bounds.lower → Adds p (naming m part (var_count p)).definitions q → l ≡ (naming m part (var_count p)).literal → AreNamed old all q (ls ++ l ∷ []) rest
  named_more old p q all ls l part rest far same e is =
      let n = var_count p in
      let first = naming m part n in
      let next = n + length first.definitions in
      let count : var_count q ≡ next = count_after p q first.definitions e in
      let few = far.variables in
      let more = (parts_at rest next).definitions in
      let left = left_more old p q (definitions_part (var_count old) (parts_at all (var_count old)).definitions) (definitions_part n first.definitions)
      (definitions_part next more) (definitions_part n (first.definitions ++ more)) (definitions_both n first.definitions more) far.left e in
      record {
        known = λ k d w. encodable_after m (get_or rest k d) p q (definitions_part n first.definitions) e same few (All-tail (IsEncodableFormula m p.bounds) part rest far.known k d w);
        variables = omega arith;
        left = subst (λ (k : ℕ). IsLeft old (definitions_part (var_count old) (parts_at all (var_count old)).definitions) q (definitions_part k (parts_at rest k).definitions)) (sym count) left;
        literals =
            append_assoc ls (l ∷ []) (parts_at rest (var_count q)).literals
            ∙ ap (λ (k : ℕ). ls ++ l ∷ (parts_at rest k).literals) count
            ∙ ap (λ (x : Literal). ls ++ x ∷ (parts_at rest next).literals) is
            ∙ far.literals;
      }

-- ---- comparisons

pub row_terms_fit : (m : Lists) (p : Instance) (l : Linear) (k : ℤ) (terms : List (ℤ × Var)) → terms ≡ row_terms m l → model_variables m ≤ var_count p → AreRowTerms m p.bounds (l, k) → AreTermsOf (var_count p) terms
row_terms_fit m p l k terms e few h =
    subst (λ (ts : List (ℤ × Var)). AreTermsOf (var_count p) ts) (sym e)
    (terms_wider (model_variables m) (var_count p) few (row_terms m l) (row_terms_known m l h.terms))

pub row_terms_small : (m : Lists) (b : Bounds) (l : Linear) (k : ℤ) (terms : List (ℤ × Var)) → terms ≡ row_terms m l → AreRowTerms m b (l, k) → All (λ t. unsigned_abs t.0 < 2 ^ 63) terms
row_terms_small m b l k terms e h =
    subst (λ (ts : List (ℤ × Var)). All (λ t. unsigned_abs t.0 < 2 ^ 63) ts) (sym e)
    (All-row_terms (λ c. unsigned_abs c < 2 ^ 63) m l (λ i d within. (let small = h.coefficients i d within in omega arith)))

-- the size of a row of these terms, with the number as it is passed
pub row_within : (m : Lists) (p : Instance) (l : Linear) (k passed : ℤ) (terms : List (ℤ × Var)) → passed ≡ k → terms ≡ row_terms m l → AreRowTerms m p.bounds (l, k) → unsigned_abs passed + measure p.bounds terms ≤ max_measure
row_within m p l k passed terms same e h =
    subst (λ (z : ℤ). unsigned_abs z + measure p.bounds terms ≤ max_measure) (sym same)
    (subst (λ (ts : List (ℤ × Var)). unsigned_abs k + measure p.bounds ts ≤ max_measure) (sym e) h.size)
