-- The values of naming variables by their definitions are the truths of the nodes that they stand for.
use Rattle.std.proofs.Common.{◌≡◌, ℕ, ◌+◌, ◌<◌, ◌≤◌, Bool, true, false, not, ◌&&◌, ◌||◌, List, [], ◌∷◌, ◌++◌, length, map, refl, sym, ap, ◌∙◌, subst, arith}
use Rattle.std.specs.Prelude.{ℤ, pos, int_le}
use Rattle.std.specs.List.{All, AllByRecursion, list_all, list_any}
use Rattle.std.proofs.lemmas.List.{append-nil, append_assoc, get_or_push, length_push, map-append}
use Rattle.std.proofs.lemmas.List.Elements.{All-cons, All-nil, All-weaker, recursion_from_All}
use Rattle.std.proofs.lemmas.List.Folds.{list_all-map}
use Rattle.cgm_atom.specs.Bounds.{value_of}
use Rattle.cgm_atom.specs.Literals.{bit, truth_at}
use Rattle.cgm_formula.specs.declared.formula.Formula.{Formula}
use Rattle.cgm_formula.specs.declared.formula.Formula.TheOpen.{Formula-F}
use Rattle.cgm_formula.specs.declared.formula.Formula.TheVariants.{Name, Not, And, Or, Implies, Iff, AtMost, AtLeast, Equal}
use Rattle.cgm_formula.specs.declared.formula.Linear.{Linear}
use Rattle.cgm_formula.specs.declared.formula.Number.{Number}
use Rattle.cgm_formula.specs.declared.formula.Number.TheVariants as number
use Rattle.cgm_formula.specs.declared.formula.Truth.{Truth}
use Rattle.cgm_formula.specs.declared.formula.Truth.TheVariants as truths
use Rattle.cgm_formula.specs.Nodes.{comparisons, comparisons_step, formula_names as names_of, names_step}
use Rattle.cgm_formula.specs.Truth.{linear_value, same_truth, truth, truth_step}
use Rattle.cgm_formula.proofs.Comparisons.{of_conjunction, of_disjunction, of_equality, of_equivalence, of_implication, of_negation}
use Rattle.cgm_formula.proofs.Folds.{fold-And, fold-AtLeast, fold-AtMost, fold-Equal, fold-Iff, fold-Implies, fold-Name, fold-Not, fold-Or}
use Rattle.cgm_formula.proofs.Induction.{by_cases}
use Rattle.cgm_formula.proofs.Truths.{list_any-map, truth-And, truth-Or}
use Rattle.cgm_model.specs.declared.lists.Lists.{Lists}
use Rattle.cgm_model.specs.Formulas.{IsKnownNumber, IsKnownTruth}
use Rattle.cgm_model.specs.TruthVariables.{variable_of}
use Rattle.cgm_enc_formula.specs.Definitions.{AreDefined, AreDefinitionsFrom, Definition, all_of, any_of, at_least, at_most, definition_true, same_as}
use Rattle.cgm_enc_formula.specs.Laws.{extended}
use Rattle.cgm_enc_formula.specs.Literals.{literal_true, opposite, positive}
use Rattle.cgm_enc_formula.specs.Naming.{Named, Naming, defined, naming, naming_step, parts_named}
use Rattle.cgm_enc_formula.specs.NamingValues.{Told, all_truths, telling, told, told_step}
use Rattle.cgm_enc_formula.specs.Terms.{model_variables, number_variable, row_terms}
use Rattle.cgm_enc_formula.proofs.Agreement.{truth_agrees}
use Rattle.cgm_enc_formula.proofs.Extending.{extended_defined, extended_keeps}
use Rattle.cgm_enc_formula.proofs.NamingKnown.{HasTerms, naming_known}
use Rattle.cgm_enc_formula.proofs.NamingTruths.{literal_is_truth, names_at, numbers_at}
use Rattle.cgm_enc_formula.proofs.Splits.{names_of_conjunction, names_of_disjunction, names_of_equivalence, names_of_implication, names_of_negation}

-- ---- what a formula says is its truth

module _ (names : Truth → Bool) (numbers : Number → ℤ) where
  abbrev Says : Formula → Type 0
  Says f = (told names numbers f).says ≡ truth names numbers f

  each_says : (parts : List Formula) → AllByRecursion Says parts → map (λ (part : Told). part.says) (map (told names numbers) parts) ≡ map (truth names numbers) parts
  each_says [] h = refl
  each_says (part ∷ parts) h =
      ap (λ (t : Bool). t ∷ map (λ (p : Told). p.says) (map (told names numbers) parts)) h.0
      ∙ ap (λ (ts : List Bool). truth names numbers part ∷ ts) (each_says parts h.1)

  conjunction_says : (parts : List Formula) → AllByRecursion Says parts → Says (And parts)
  conjunction_says parts h =
      ap (λ (t : Told). t.says) (fold-And (told_step names numbers) parts)
      ∙ sym (list_all-map (λ (t : Bool). t) (λ (part : Told). part.says) (map (told names numbers) parts))
      ∙ ap (λ (ts : List Bool). list_all (λ (t : Bool). t) ts) (each_says parts h)
      ∙ list_all-map (λ (t : Bool). t) (truth names numbers) parts
      ∙ sym (truth-And names numbers parts)

  disjunction_says : (parts : List Formula) → AllByRecursion Says parts → Says (Or parts)
  disjunction_says parts h =
      ap (λ (t : Told). t.says) (fold-Or (told_step names numbers) parts)
      ∙ sym (list_any-map (λ (t : Bool). t) (λ (part : Told). part.says) (map (told names numbers) parts))
      ∙ ap (λ (ts : List Bool). list_any (λ (t : Bool). t) ts) (each_says parts h)
      ∙ list_any-map (λ (t : Bool). t) (truth names numbers) parts
      ∙ sym (truth-Or names numbers parts)

  pub says_truth : (f : Formula) → Says f
  says_truth = by_cases Says (record {
    name = λ name. ap (λ (t : Told). t.says) (fold-Name (told_step names numbers) name) ∙ sym (fold-Name (truth_step names numbers) name);
    negation = λ part h.
        ap (λ (t : Told). t.says) (fold-Not (told_step names numbers) part)
        ∙ ap (λ (t : Bool). not t) h
        ∙ sym (fold-Not (truth_step names numbers) part);
    conjunction = conjunction_says;
    disjunction = disjunction_says;
    implication = λ premise conclusion h k.
        ap (λ (t : Told). t.says) (fold-Implies (told_step names numbers) premise conclusion)
        ∙ ap (λ (t : Bool). not t || (told names numbers conclusion).says) h
        ∙ ap (λ (t : Bool). not (truth names numbers premise) || t) k
        ∙ sym (fold-Implies (truth_step names numbers) premise conclusion);
    equivalence = λ one other h k.
        ap (λ (t : Told). t.says) (fold-Iff (told_step names numbers) one other)
        ∙ ap (λ (t : Bool). same_truth t (told names numbers other).says) h
        ∙ ap (λ (t : Bool). same_truth (truth names numbers one) t) k
        ∙ sym (fold-Iff (truth_step names numbers) one other);
    at_most = λ l k. ap (λ (t : Told). t.says) (fold-AtMost (told_step names numbers) l k) ∙ sym (fold-AtMost (truth_step names numbers) l k);
    at_least = λ l k. ap (λ (t : Told). t.says) (fold-AtLeast (told_step names numbers) l k) ∙ sym (fold-AtLeast (truth_step names numbers) l k);
    equality = λ l k. ap (λ (t : Told). t.says) (fold-Equal (told_step names numbers) l k) ∙ sym (fold-Equal (truth_step names numbers) l k);
  })

-- ---- values by definitions

pub extended_append : (values : List ℤ) (xs ys : List Definition) → extended values (xs ++ ys) ≡ extended (extended values xs) ys
extended_append values [] ys = refl
extended_append values (x ∷ xs) ys = extended_append (values ++ bit (definition_true values x) ∷ []) xs ys

pub extended_length : (values : List ℤ) (ds : List Definition) → length (extended values ds) ≡ length values + length ds
extended_length values [] = omega arith
extended_length values (d ∷ ds) =
    let z = bit (definition_true values d) in
    let one = length_push values z in
    let rest = extended_length (values ++ z ∷ []) ds in
    omega arith

bit_truth : (t : Bool) → int_le (pos 1) (bit t) ≡ t
bit_truth true = refl
bit_truth false = refl

more_bits : (values : List ℤ) (ts : List Bool) (t : Bool) → (values ++ map bit ts) ++ bit t ∷ [] ≡ values ++ map bit (ts ++ t ∷ [])
more_bits values ts t =
    append_assoc values (map bit ts) (bit t ∷ []) ∙ ap (λ (zs : List ℤ). values ++ zs) (sym (map-append bit ts (t ∷ [])))

both_bits : (values : List ℤ) (ts us : List Bool) → (values ++ map bit ts) ++ map bit us ≡ values ++ map bit (ts ++ us)
both_bits values ts us =
    append_assoc values (map bit ts) (map bit us) ∙ ap (λ (zs : List ℤ). values ++ zs) (sym (map-append bit ts us))

module _ (m : Lists) (names : Truth → Bool) (numbers : Number → ℤ) where
  -- the values of the model's variables are these truths and numbers
  pub record Reads (values : List ℤ) : Type 0 where
    pub long : model_variables m ≤ length values
    pub names_are : (t : Truth) → IsKnownTruth m t → truth_at values (variable_of m t) ≡ names t
    pub numbers_are : (x : Number) → IsKnownNumber m x → value_of values (number_variable m x) ≡ numbers x

  abbrev pub KnowsTerms : Linear × ℤ → Type 0
  KnowsTerms c = HasTerms m c × All (λ t. IsKnownNumber m t.1) c.0.terms

  -- the names of the formula are there, and its comparisons have terms
  pub record IsReadable (f : Formula) : Type 0 where
    pub names_known : All (IsKnownTruth m) (names_of f)
    pub terms_known : All KnowsTerms (comparisons f)

  abbrev says : Formula → Told
  says f = told names numbers f

  name_within : (t : Truth) → IsKnownTruth m t → variable_of m t < model_variables m
  name_within (truths.Element k) l = omega arith
  name_within (truths.Refinement k) l = omega arith

  number_within : (x : Number) → IsKnownNumber m x → number_variable m x < model_variables m
  number_within (number.Var k) l = omega arith
  number_within (number.Sum k) l = omega arith

  reads_extended : (values : List ℤ) (ds : List Definition) → Reads values → Reads (extended values ds)
  reads_extended values ds reads =
      let long = reads.long in
      let longer = extended_length values ds in
      record {
        long = omega arith;
        names_are = λ t known.
            let within = name_within t known in
            ap (λ (z : ℤ). int_le (pos 1) z) (extended_keeps values ds (variable_of m t) (omega arith)) ∙ reads.names_are t known;
        numbers_are = λ x known.
            let within = number_within x known in
            extended_keeps values ds (number_variable m x) (omega arith) ∙ reads.numbers_are x known;
      }

  -- the last variable of a formula has the formula's truth
  last : (f : Formula) (values : List ℤ) (ds : List Definition) (d : Definition) → Reads values → IsReadable f → naming m f (length values) ≡ record { definitions = ds ++ d ∷ []; literal = positive (length values + length ds) } → definition_true (extended values ds) d ≡ truth names numbers f
  last f values ds d reads readable is =
      let n = length values in
      let before = extended values ds in
      let t = definition_true before d in
      let all = extended values (ds ++ d ∷ []) in
      let terms : All (HasTerms m) (comparisons f) = All-weaker KnowsTerms (HasTerms m) (λ c h. h.0) (comparisons f) readable.terms_known in
      let known : AreDefinitionsFrom n (ds ++ d ∷ []) =
      subst (λ (named : Named). AreDefinitionsFrom n named.definitions) is (naming_known m f readable.names_known terms n reads.long).definitions in
      let named : AreDefined all n (naming m f n).definitions =
      subst (λ (named : Named). AreDefined all n named.definitions) (sym is) (extended_defined values (ds ++ d ∷ []) known) in
      let long : length before ≡ n + length ds = extended_length values ds in
      let at : value_of all (n + length ds) ≡ bit t =
      ap (λ (vs : List ℤ). value_of vs (n + length ds)) (extended_append values ds (d ∷ []))
      ∙ get_or_push before (bit t) (pos 0) (n + length ds) long in
      let own : truth_at all (n + length ds) ≡ t = ap (λ (z : ℤ). int_le (pos 1) z) at ∙ bit_truth t in
      let says_so : literal_true all (naming m f n).literal ≡ truth (names_at m all) (numbers_at m all) f = literal_is_truth m all f n named in
      let later = reads_extended values (ds ++ d ∷ []) reads in
      sym own
      ∙ ap (λ (named : Named). literal_true all named.literal) (sym is)
      ∙ says_so
      ∙ truth_agrees (names_at m all) names (numbers_at m all) numbers f
      (All-weaker (IsKnownTruth m) (λ x. names_at m all x ≡ names x) (λ x h. later.names_are x h) (names_of f) readable.names_known)
      (All-weaker KnowsTerms (λ c. All (λ t. numbers_at m all t.1 ≡ numbers t.1) c.0.terms)
      (λ c h. All-weaker (λ t. IsKnownNumber m t.1) (λ t. numbers_at m all t.1 ≡ numbers t.1) (λ t k. later.numbers_are t.1 k) c.0.terms h.1)
      (comparisons f) readable.terms_known)

  -- ---- by the kind of formula

  abbrev pub IsTold : Formula → Type 0
  IsTold f = (values : List ℤ) → Reads values → IsReadable f → extended values (naming m f (length values)).definitions ≡ values ++ map bit (says f).truths

  by_steps : (f : Formula) (values : List ℤ) (named : Named) (t : Told) → naming m f (length values) ≡ named → says f ≡ t → extended values named.definitions ≡ values ++ map bit t.truths → extended values (naming m f (length values)).definitions ≡ values ++ map bit (says f).truths
  by_steps f values named t e g h =
      ap (λ (x : Named). extended values x.definitions) e ∙ h ∙ ap (λ (x : Told). values ++ map bit x.truths) (sym g)

  -- a node behind its parts
  whole : (f : Formula) (values : List ℤ) (ds : List Definition) (d : Definition) (ts : List Bool) (t : Bool) → Reads values → IsReadable f → naming m f (length values) ≡ defined (length values) ds d → says f ≡ telling ts t → extended values ds ≡ values ++ map bit ts → extended values (naming m f (length values)).definitions ≡ values ++ map bit (says f).truths
  whole f values ds d ts t reads readable e g h =
      let own : definition_true (extended values ds) d ≡ t =
      last f values ds d reads readable e ∙ sym (says_truth names numbers f) ∙ ap (λ (x : Told). x.says) g in
      by_steps f values (defined (length values) ds d) (telling ts t) e g
      (extended_append values ds (d ∷ [])
      ∙ ap (λ (b : Bool). extended values ds ++ bit b ∷ []) own
      ∙ ap (λ (vs : List ℤ). vs ++ bit t ∷ []) h
      ∙ more_bits values ts t)

  -- one formula after another
  pub two : (f : Formula) (values : List ℤ) (rest : ℕ → List Definition) (us : List Bool) → IsTold f → Reads values → IsReadable f → ((more : List ℤ) → Reads more → extended more (rest (length more)) ≡ more ++ map bit us) → extended values ((naming m f (length values)).definitions ++ rest (length values + length (naming m f (length values)).definitions)) ≡ values ++ map bit ((says f).truths ++ us)
  two f values rest us h reads readable k =
      let ds = (naming m f (length values)).definitions in
      let before = extended values ds in
      let long : length values + length ds ≡ length before = sym (extended_length values ds) in
      extended_append values ds (rest (length values + length ds))
      ∙ ap (λ (n : ℕ). extended before (rest n)) long
      ∙ k before (reads_extended values ds reads)
      ∙ ap (λ (vs : List ℤ). vs ++ map bit us) (h values reads readable)
      ∙ both_bits values (says f).truths us

  abbrev named_parts : List Formula → ℕ → List Definition
  named_parts parts n = (parts_named (map (naming m) parts) n).definitions

  parts_told : (parts : List Formula) → AllByRecursion IsTold parts → AllByRecursion IsReadable parts → (values : List ℤ) → Reads values → extended values (named_parts parts (length values)) ≡ values ++ map bit (all_truths (map says parts))
  parts_told [] h k values reads = sym (append-nil values)
  parts_told (part ∷ parts) h k values reads =
      two part values (named_parts parts) (all_truths (map says parts)) h.0 reads k.0 (parts_told parts h.1 k.1)

  readable_each : (parts : List Formula) → AllByRecursion (λ f. All (IsKnownTruth m) (names_of f)) parts → AllByRecursion (λ f. All KnowsTerms (comparisons f)) parts → AllByRecursion IsReadable parts
  readable_each [] h k = tt
  readable_each (part ∷ parts) h k = (record { names_known = h.0; terms_known = k.0 }, readable_each parts h.1 k.1)

  name_told : (name : Truth) → IsTold (Name name)
  name_told name values reads readable =
      by_steps (Name name) values (naming_step m (Formula-F.Name name) (length values)) (told_step names numbers (Formula-F.Name name))
      (ap (λ (step : Naming). step (length values)) (fold-Name (naming_step m) name)) (fold-Name (told_step names numbers) name)
      (sym (append-nil values))

  negation_told : (part : Formula) → IsTold part → IsTold (Not part)
  negation_told part h values reads readable =
      by_steps (Not part) values (naming_step m (Formula-F.Not (naming m part)) (length values)) (told_step names numbers (Formula-F.Not (says part)))
      (ap (λ (step : Naming). step (length values)) (fold-Not (naming_step m) part)) (fold-Not (told_step names numbers) part)
      (h values reads (record {
        names_known = names_of_negation (IsKnownTruth m) part readable.names_known;
        terms_known = of_negation KnowsTerms part readable.terms_known;
      }))

  conjunction_told : (parts : List Formula) → AllByRecursion IsTold parts → IsTold (And parts)
  conjunction_told parts h values reads readable =
      let n = length values in
      let named = parts_named (map (naming m) parts) n in
      whole (And parts) values named.definitions (all_of named.literals) (all_truths (map says parts)) (list_all (λ part. part.says) (map says parts)) reads readable
      (ap (λ (step : Naming). step n) (fold-And (naming_step m) parts)) (fold-And (told_step names numbers) parts)
      (parts_told parts h (readable_each parts (names_of_conjunction (IsKnownTruth m) parts readable.names_known) (recursion_from_All (λ f. All KnowsTerms (comparisons f)) parts (of_conjunction KnowsTerms parts readable.terms_known))) values reads)

  disjunction_told : (parts : List Formula) → AllByRecursion IsTold parts → IsTold (Or parts)
  disjunction_told parts h values reads readable =
      let n = length values in
      let named = parts_named (map (naming m) parts) n in
      whole (Or parts) values named.definitions (any_of named.literals) (all_truths (map says parts)) (list_any (λ part. part.says) (map says parts)) reads readable
      (ap (λ (step : Naming). step n) (fold-Or (naming_step m) parts)) (fold-Or (told_step names numbers) parts)
      (parts_told parts h (readable_each parts (names_of_disjunction (IsKnownTruth m) parts readable.names_known) (recursion_from_All (λ f. All KnowsTerms (comparisons f)) parts (of_disjunction KnowsTerms parts readable.terms_known))) values reads)

  abbrev definitions_of : Formula → ℕ → List Definition
  definitions_of f n = (naming m f n).definitions

  implication_told : (premise conclusion : Formula) → IsTold premise → IsTold conclusion → IsTold (Implies premise conclusion)
  implication_told premise conclusion h k values reads readable =
      let n = length values in
      let one = naming m premise n in
      let other = naming m conclusion (n + length one.definitions) in
      let ks = names_of_implication (IsKnownTruth m) premise conclusion readable.names_known in
      let ls = of_implication KnowsTerms premise conclusion readable.terms_known in
      whole (Implies premise conclusion) values (one.definitions ++ other.definitions) (any_of (opposite one.literal ∷ other.literal ∷ []))
      ((says premise).truths ++ (says conclusion).truths) (not (says premise).says || (says conclusion).says) reads readable
      (ap (λ (step : Naming). step n) (fold-Implies (naming_step m) premise conclusion)) (fold-Implies (told_step names numbers) premise conclusion)
      (two premise values (definitions_of conclusion) (says conclusion).truths h reads (record { names_known = ks.0; terms_known = ls.0 })
      (λ more r. k more r (record { names_known = ks.1; terms_known = ls.1 })))

  equivalence_told : (first second : Formula) → IsTold first → IsTold second → IsTold (Iff first second)
  equivalence_told first second h k values reads readable =
      let n = length values in
      let one = naming m first n in
      let other = naming m second (n + length one.definitions) in
      let ks = names_of_equivalence (IsKnownTruth m) first second readable.names_known in
      let ls = of_equivalence KnowsTerms first second readable.terms_known in
      whole (Iff first second) values (one.definitions ++ other.definitions) (same_as one.literal other.literal)
      ((says first).truths ++ (says second).truths) (same_truth (says first).says (says second).says) reads readable
      (ap (λ (step : Naming). step n) (fold-Iff (naming_step m) first second)) (fold-Iff (told_step names numbers) first second)
      (two first values (definitions_of second) (says second).truths h reads (record { names_known = ks.0; terms_known = ls.0 })
      (λ more r. k more r (record { names_known = ks.1; terms_known = ls.1 })))

  at_most_told : (l : Linear) (k : ℤ) → IsTold (AtMost l k)
  at_most_told l k values reads readable =
      whole (AtMost l k) values [] (at_most (row_terms m l) k) [] (int_le (linear_value numbers l) k) reads readable
      (ap (λ (step : Naming). step (length values)) (fold-AtMost (naming_step m) l k)) (fold-AtMost (told_step names numbers) l k)
      (sym (append-nil values))

  at_least_told : (l : Linear) (k : ℤ) → IsTold (AtLeast l k)
  at_least_told l k values reads readable =
      whole (AtLeast l k) values [] (at_least (row_terms m l) k) [] (int_le k (linear_value numbers l)) reads readable
      (ap (λ (step : Naming). step (length values)) (fold-AtLeast (naming_step m) l k)) (fold-AtLeast (told_step names numbers) l k)
      (sym (append-nil values))

  readable_most : (l : Linear) (k : ℤ) → IsReadable (Equal l k) → IsReadable (AtMost l k)
  readable_most l k readable = record {
    names_known = subst (All (IsKnownTruth m)) (sym (fold-AtMost names_step l k)) (All-nil (IsKnownTruth m));
    terms_known = subst (All KnowsTerms) (sym (fold-AtMost comparisons_step l k)) (All-cons KnowsTerms (l, k) [] (of_equality KnowsTerms l k readable.terms_known) (All-nil KnowsTerms));
  }

  readable_least : (l : Linear) (k : ℤ) → IsReadable (Equal l k) → IsReadable (AtLeast l k)
  readable_least l k readable = record {
    names_known = subst (All (IsKnownTruth m)) (sym (fold-AtLeast names_step l k)) (All-nil (IsKnownTruth m));
    terms_known = subst (All KnowsTerms) (sym (fold-AtLeast comparisons_step l k)) (All-cons KnowsTerms (l, k) [] (of_equality KnowsTerms l k readable.terms_known) (All-nil KnowsTerms));
  }

  equality_told : (l : Linear) (k : ℤ) → IsTold (Equal l k)
  equality_told l k values reads readable =
      let n = length values in
      let most = at_most (row_terms m l) k in
      let least = at_least (row_terms m l) k in
      let is_most = int_le (linear_value numbers l) k in
      let is_least = int_le k (linear_value numbers l) in
      let one = values ++ bit (definition_true values most) ∷ [] in
      let first : definition_true values most ≡ is_most =
      last (AtMost l k) values [] most reads (readable_most l k readable) (ap (λ (step : Naming). step n) (fold-AtMost (naming_step m) l k))
      ∙ fold-AtMost (truth_step names numbers) l k in
      let second : definition_true one least ≡ is_least =
      last (AtLeast l k) one [] least (reads_extended values (most ∷ []) reads) (readable_least l k readable) (ap (λ (step : Naming). step (length one)) (fold-AtLeast (naming_step m) l k))
      ∙ fold-AtLeast (truth_step names numbers) l k in
      let parts : extended values (most ∷ least ∷ []) ≡ values ++ map bit (is_most ∷ is_least ∷ []) =
      ap (λ (b : Bool). one ++ bit b ∷ []) second
      ∙ ap (λ (b : Bool). (values ++ bit b ∷ []) ++ bit is_least ∷ []) first
      ∙ append_assoc values (bit is_most ∷ []) (bit is_least ∷ []) in
      whole (Equal l k) values (most ∷ least ∷ []) (all_of (positive n ∷ positive (n + 1) ∷ [])) (is_most ∷ is_least ∷ []) (is_most && is_least) reads readable
      (ap (λ (step : Naming). step n) (fold-Equal (naming_step m) l k)) (fold-Equal (told_step names numbers) l k)
      parts

  pub formulas_told : (f : Formula) → IsTold f
  formulas_told = by_cases IsTold (record {
    name = name_told;
    negation = negation_told;
    conjunction = conjunction_told;
    disjunction = disjunction_told;
    implication = implication_told;
    equivalence = equivalence_told;
    at_most = at_most_told;
    at_least = at_least_told;
    equality = equality_told;
  })
