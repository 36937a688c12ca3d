-- Readings that agree on the names and numbers of a formula give it the same truth.
use Rattle.std.proofs.Common.{◌≡◌, Bool, not, ◌||◌, ◌&&◌, List, [], ◌∷◌, map, refl, sym, ap, ◌∙◌}
use Rattle.std.specs.Prelude.{ℤ, ◌+ℤ◌, ◌*ℤ◌, int_le}
use Rattle.std.specs.List.{All, AllByRecursion, list_all, list_any}
use Rattle.std.proofs.lemmas.List.Elements.{All-head, All-tail, recursion_from_All}
use Rattle.cgm_formula.specs.declared.formula.Formula.{Formula}
use Rattle.cgm_formula.specs.declared.formula.Formula.TheVariants.{And, Or, Implies, Iff}
use Rattle.cgm_formula.specs.declared.formula.Linear.{Linear}
use Rattle.cgm_formula.specs.declared.formula.Number.{Number}
use Rattle.cgm_formula.specs.declared.formula.Truth.{Truth}
use Rattle.cgm_formula.specs.Nodes.{comparisons, formula_names as names_of}
use Rattle.cgm_formula.specs.Truth.{same_truth, total, truth, truth_step}
use Rattle.cgm_formula.proofs.Comparisons.{of_at_least, of_at_most, of_conjunction, of_disjunction, of_equality, of_equivalence, of_implication, of_negation}
use Rattle.cgm_formula.proofs.Folds.{fold-AtLeast, fold-AtMost, fold-Equal, fold-Iff, fold-Implies, fold-Name, fold-Not}
use Rattle.cgm_formula.proofs.Induction.{by_cases}
use Rattle.cgm_formula.proofs.Truths.{truth-And, truth-Or}
use Rattle.cgm_enc_formula.proofs.Splits.{name_of_name, names_of_conjunction, names_of_disjunction, names_of_equivalence, names_of_implication, names_of_negation}

module _ (names others : Truth → Bool) (numbers values : Number → ℤ) where
  abbrev SameName : Truth → Type 0
  SameName t = names t ≡ others t

  abbrev SameTerms : Linear × ℤ → Type 0
  SameTerms c = All (λ t. numbers t.1 ≡ values t.1) c.0.terms

  abbrev Agree : Formula → Type 0
  Agree f = All SameName (names_of f) → All SameTerms (comparisons f) → truth names numbers f ≡ truth others values f

  total_agree : (terms : List (ℤ × Number)) → All (λ t. numbers t.1 ≡ values t.1) terms → total numbers terms ≡ total values terms
  total_agree [] h = refl
  total_agree (t ∷ terms) h =
      ap (λ (z : ℤ). (t.0 *ℤ z) +ℤ total numbers terms) (All-head (λ t. numbers t.1 ≡ values t.1) t terms h)
      ∙ ap (λ (z : ℤ). (t.0 *ℤ values t.1) +ℤ z) (total_agree terms (All-tail (λ t. numbers t.1 ≡ values t.1) t terms h))

  each_agree : (parts : List Formula) → AllByRecursion Agree parts → AllByRecursion (λ f. All SameName (names_of f)) parts → AllByRecursion (λ f. All SameTerms (comparisons f)) parts → map (truth names numbers) parts ≡ map (truth others values) parts
  each_agree [] h k l = refl
  each_agree (part ∷ parts) h k l =
      ap (λ (t : Bool). t ∷ map (truth names numbers) parts) (h.0 k.0 l.0)
      ∙ ap (λ (ts : List Bool). truth others values part ∷ ts) (each_agree parts h.1 k.1 l.1)

  all_of_each : (f : Formula → Bool) (parts : List Formula) → list_all f parts ≡ list_all (λ (t : Bool). t) (map f parts)
  all_of_each f [] = refl
  all_of_each f (part ∷ parts) = ap (λ (t : Bool). f part && t) (all_of_each f parts)

  any_of_each : (f : Formula → Bool) (parts : List Formula) → list_any f parts ≡ list_any (λ (t : Bool). t) (map f parts)
  any_of_each f [] = refl
  any_of_each f (part ∷ parts) = ap (λ (t : Bool). f part || t) (any_of_each f parts)

  conjunction_agrees : (parts : List Formula) → AllByRecursion Agree parts → Agree (And parts)
  conjunction_agrees parts h k l =
      truth-And names numbers parts
      ∙ all_of_each (truth names numbers) parts
      ∙ ap (λ (ts : List Bool). list_all (λ (t : Bool). t) ts)
      (each_agree parts h (names_of_conjunction SameName parts k) (recursion_from_All (λ f. All SameTerms (comparisons f)) parts (of_conjunction SameTerms parts l)))
      ∙ sym (all_of_each (truth others values) parts)
      ∙ sym (truth-And others values parts)

  disjunction_agrees : (parts : List Formula) → AllByRecursion Agree parts → Agree (Or parts)
  disjunction_agrees parts h k l =
      truth-Or names numbers parts
      ∙ any_of_each (truth names numbers) parts
      ∙ ap (λ (ts : List Bool). list_any (λ (t : Bool). t) ts)
      (each_agree parts h (names_of_disjunction SameName parts k) (recursion_from_All (λ f. All SameTerms (comparisons f)) parts (of_disjunction SameTerms parts l)))
      ∙ sym (any_of_each (truth others values) parts)
      ∙ sym (truth-Or others values parts)

  implication_agrees : (premise conclusion : Formula) → Agree premise → Agree conclusion → Agree (Implies premise conclusion)
  implication_agrees premise conclusion h i k l =
      let ks = names_of_implication SameName premise conclusion k in
      let ls = of_implication SameTerms premise conclusion l in
      fold-Implies (truth_step names numbers) premise conclusion
      ∙ ap (λ (t : Bool). not t || truth names numbers conclusion) (h ks.0 ls.0)
      ∙ ap (λ (t : Bool). not (truth others values premise) || t) (i ks.1 ls.1)
      ∙ sym (fold-Implies (truth_step others values) premise conclusion)

  equivalence_agrees : (one other : Formula) → Agree one → Agree other → Agree (Iff one other)
  equivalence_agrees one other h i k l =
      let ks = names_of_equivalence SameName one other k in
      let ls = of_equivalence SameTerms one other l in
      fold-Iff (truth_step names numbers) one other
      ∙ ap (λ (t : Bool). same_truth t (truth names numbers other)) (h ks.0 ls.0)
      ∙ ap (λ (t : Bool). same_truth (truth others values one) t) (i ks.1 ls.1)
      ∙ sym (fold-Iff (truth_step others values) one other)

  pub truth_agrees : (f : Formula) → Agree f
  truth_agrees = by_cases Agree (record {
    name = λ name k l. fold-Name (truth_step names numbers) name ∙ name_of_name SameName name k ∙ sym (fold-Name (truth_step others values) name);
    negation = λ part h k l.
        fold-Not (truth_step names numbers) part
        ∙ ap (λ (t : Bool). not t) (h (names_of_negation SameName part k) (of_negation SameTerms part l))
        ∙ sym (fold-Not (truth_step others values) part);
    conjunction = conjunction_agrees;
    disjunction = disjunction_agrees;
    implication = implication_agrees;
    equivalence = equivalence_agrees;
    at_most = λ l k h i.
        fold-AtMost (truth_step names numbers) l k
        ∙ ap (λ (z : ℤ). int_le z k) (total_agree l.terms (of_at_most SameTerms l k i))
        ∙ sym (fold-AtMost (truth_step others values) l k);
    at_least = λ l k h i.
        fold-AtLeast (truth_step names numbers) l k
        ∙ ap (λ (z : ℤ). int_le k z) (total_agree l.terms (of_at_least SameTerms l k i))
        ∙ sym (fold-AtLeast (truth_step others values) l k);
    equality = λ l k h i.
        fold-Equal (truth_step names numbers) l k
        ∙ ap (λ (z : ℤ). int_le z k && int_le k z) (total_agree l.terms (of_equality SameTerms l k i))
        ∙ sym (fold-Equal (truth_step others values) l k);
  })
