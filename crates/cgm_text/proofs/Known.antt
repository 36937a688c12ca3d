-- Names that are right stand for what is there, so that a statement with such names is proper.
use Rattle.std.proofs.Common.{◌≡◌, ℕ, ◌<◌, ℤ, Bool, true, false, ◌&&◌, List, [], ◌∷◌, ◌++◌, length, map, nat_lt, Option, None, Some, refl, sym, ◌∙◌, subst, arith}
use Rattle.std.specs.List.{All, AllByRecursion, list_all}
use Rattle.std.specs.Option.{option_or}
use Rattle.std.proofs.lemmas.Bool.Decides.{nat_tests}
use Rattle.std.proofs.lemmas.List.{length-map}
use Rattle.std.proofs.lemmas.List.Elements.{All-from_recursion}
use Rattle.std.proofs.lemmas.Option.{slice_get_within}
use Rattle.cgm_base.specs.declared.fault.BadKind.{BadKind}
use Rattle.cgm_base.specs.declared.limit.Which.TheVariants as limits
use Rattle.cgm_base.specs.Words.{limit_number}
use Rattle.cgm_formula.specs.declared.formula.Formula.{Formula}
use Rattle.cgm_formula.specs.declared.formula.Linear.{Linear}
use Rattle.cgm_formula.specs.declared.formula.Number.{Number}
use Rattle.cgm_formula.specs.Nodes.{formula_names, names_step, comparisons, comparisons_step, is_full, full_step, lists_joined as concatenated}
use Rattle.cgm_formula.proofs.Folds.{fold-Name, fold-Not, fold-And, fold-Or, fold-Implies, fold-Iff, fold-AtMost, fold-AtLeast, fold-Equal}
use Rattle.cgm_model.specs.declared.lists.Element.{Element}
use Rattle.cgm_model.specs.declared.lists.Lists.{Lists}
use Rattle.cgm_model.specs.declared.lists.Refinement.{Refinement}
use Rattle.cgm_model.specs.declared.lists.Sum.{Sum}
use Rattle.cgm_model.specs.declared.lists.Thing.{Thing}
use Rattle.cgm_model.specs.declared.lists.Thing.TheVariants as things
use Rattle.cgm_model.specs.declared.lists.Variable.{Variable}
use Rattle.cgm_model.specs.Formulas.{IsKnownTruth, IsKnownNumber, IsProperFormula}
use Rattle.cgm_model.specs.Named.{thing_named, element_names, refinement_names, sum_names, variable_names}
use Rattle.cgm_model.proofs.Lookups.{named-from_thing_named}
use Rattle.cgm_text.specs.declared.names.Wanted.TheVariants as wants
use Rattle.cgm_print.specs.declared.words.Comparison.{Comparison}
use Rattle.cgm_print.specs.declared.words.Comparison.TheVariants as comparison_words
use Rattle.cgm_print.specs.declared.words.Joint.{Joint}
use Rattle.cgm_print.specs.declared.words.Joint.TheVariants as joints
use Rattle.cgm_print.specs.declared.words.Pairing.{Pairing}
use Rattle.cgm_print.specs.declared.words.Pairing.TheVariants as pairings
use Rattle.cgm_text.specs.Meaning.{element_named, refinement_named, truth_named, truth_of, number_named, statement_of_number, element_of, refinement_of, sum_named, sum_of, term_of, linear_of, formula_of, each_formula_of, joined_as, paired_as, compared_as}
use Rattle.cgm_text.specs.Trees.{is_deeper}
use Rattle.cgm_text.specs.Uses.{NameUse, use_as, term_name, terms_uses, linear_uses, formula_uses, formulas_uses, thing_fault, first_name_fault}
use Rattle.cgm_print.specs.Written.{WrittenTerm, plain, scaled, WrittenLinear, single, total, WrittenFormula, name, negation, joined, paired, compared, WrittenFormulas, no_formulas, more_formulas, spelled}
use Rattle.cgm_text.proofs.Depths.{depth_is_few}

-- faults

or_none : (a b : Option BadKind) → option_or a b ≡ None → (a ≡ None) × (b ≡ None)
or_none None b e = (refl, e)
or_none (Some kind) b e = cc

pub first_right : (m : Lists) (u : NameUse) (us : List NameUse) → first_name_fault m (u ∷ us) ≡ None → (thing_fault u.wanted (thing_named m u.used) ≡ None) × (first_name_fault m us ≡ None)
first_right m u us e = or_none (thing_fault u.wanted (thing_named m u.used)) (first_name_fault m us) e

-- things

element_within : (m : Lists) (x : List ℕ) (k : ℕ) → thing_named m x ≡ Some (things.Element k) → k < length m.elements
element_within m x k e =
    let named = named-from_thing_named m x (things.Element k) e in
    let within = slice_get_within (element_names m) k x named in
    omega (arith, within, length-map m.elements (λ (y : Element). y.name))

refinement_within : (m : Lists) (x : List ℕ) (k : ℕ) → thing_named m x ≡ Some (things.Refinement k) → k < length m.refinements
refinement_within m x k e =
    let named = named-from_thing_named m x (things.Refinement k) e in
    let within = slice_get_within (refinement_names m) k x named in
    omega (arith, within, length-map m.refinements (λ (y : Refinement). y.name))

variable_within : (m : Lists) (x : List ℕ) (k : ℕ) → thing_named m x ≡ Some (things.Var k) → k < length m.vars
variable_within m x k e =
    let named = named-from_thing_named m x (things.Var k) e in
    let within = slice_get_within (variable_names m) k x named in
    omega (arith, within, length-map m.vars (λ (y : Variable). y.name))

sum_within : (m : Lists) (x : List ℕ) (k : ℕ) → thing_named m x ≡ Some (things.Sum k) → k < length m.sums
sum_within m x k e =
    let named = named-from_thing_named m x (things.Sum k) e in
    let within = slice_get_within (sum_names m) k x named in
    omega (arith, within, length-map m.sums (λ (y : Sum). y.name))

element_right : (m : Lists) (x : List ℕ) (o : Option Thing) → thing_named m x ≡ o → thing_fault wants.Element o ≡ None → element_of o < length m.elements
element_right m x None e f = cc
element_right m x (Some (things.Element k)) e f = element_within m x k e
element_right m x (Some (things.Refinement k)) e f = cc
element_right m x (Some (things.Var k)) e f = cc
element_right m x (Some (things.Sum k)) e f = cc

pub element_known : (m : Lists) (x : List ℕ) → thing_fault wants.Element (thing_named m x) ≡ None → element_named m x < length m.elements
element_known m x f = element_right m x (thing_named m x) refl f

refinement_right : (m : Lists) (x : List ℕ) (o : Option Thing) → thing_named m x ≡ o → thing_fault wants.Refinement o ≡ None → refinement_of o < length m.refinements
refinement_right m x None e f = cc
refinement_right m x (Some (things.Element k)) e f = cc
refinement_right m x (Some (things.Refinement k)) e f = refinement_within m x k e
refinement_right m x (Some (things.Var k)) e f = cc
refinement_right m x (Some (things.Sum k)) e f = cc

pub refinement_known : (m : Lists) (x : List ℕ) → thing_fault wants.Refinement (thing_named m x) ≡ None → refinement_named m x < length m.refinements
refinement_known m x f = refinement_right m x (thing_named m x) refl f

truth_right : (m : Lists) (x : List ℕ) (o : Option Thing) → thing_named m x ≡ o → thing_fault wants.Truth o ≡ None → IsKnownTruth m (truth_of o)
truth_right m x None e f = cc
truth_right m x (Some (things.Element k)) e f = element_within m x k e
truth_right m x (Some (things.Refinement k)) e f = refinement_within m x k e
truth_right m x (Some (things.Var k)) e f = cc
truth_right m x (Some (things.Sum k)) e f = cc

pub truth_known : (m : Lists) (x : List ℕ) → thing_fault wants.Truth (thing_named m x) ≡ None → IsKnownTruth m (truth_named m x)
truth_known m x f = truth_right m x (thing_named m x) refl f

number_right : (m : Lists) (x : List ℕ) (o : Option Thing) → thing_named m x ≡ o → thing_fault wants.Number o ≡ None → IsKnownNumber m (statement_of_number o)
number_right m x None e f = cc
number_right m x (Some (things.Element k)) e f = cc
number_right m x (Some (things.Refinement k)) e f = cc
number_right m x (Some (things.Var k)) e f = variable_within m x k e
number_right m x (Some (things.Sum k)) e f = sum_within m x k e

pub number_known : (m : Lists) (x : List ℕ) → thing_fault wants.Number (thing_named m x) ≡ None → IsKnownNumber m (number_named m x)
number_known m x f = number_right m x (thing_named m x) refl f

sum_right : (m : Lists) (x : List ℕ) (o : Option Thing) → thing_named m x ≡ o → thing_fault wants.Sum o ≡ None → sum_of o < length m.sums
sum_right m x None e f = cc
sum_right m x (Some (things.Element k)) e f = cc
sum_right m x (Some (things.Refinement k)) e f = cc
sum_right m x (Some (things.Var k)) e f = cc
sum_right m x (Some (things.Sum k)) e f = sum_within m x k e

pub sum_known : (m : Lists) (x : List ℕ) → thing_fault wants.Sum (thing_named m x) ≡ None → sum_named m x < length m.sums
sum_known m x f = sum_right m x (thing_named m x) refl f

-- formulas

abbrev TermIsKnown : Lists → ℤ × Number → Type 0
TermIsKnown m t = IsKnownNumber m t.1

abbrev SideIsKnown : Lists → Linear × ℤ → Type 0
SideIsKnown m c = All (TermIsKnown m) c.0.terms

-- names and numbers are there, and nothing is empty
record IsGood (m : Lists) (f : Formula) : Type 0 where
  truths_known : AllByRecursion (IsKnownTruth m) (formula_names f)
  sides_known : AllByRecursion (SideIsKnown m) (comparisons f)
  full : is_full f ≡ true

record AreGood (m : Lists) (fs : List Formula) : Type 0 where
  truths_known : AllByRecursion (IsKnownTruth m) (concatenated (map formula_names fs))
  sides_known : AllByRecursion (SideIsKnown m) (concatenated (map comparisons fs))
  full : list_all (λ (part : Bool). part) (map is_full fs) ≡ true

both : {X : Type 0} (P : X → Type 0) (xs ys : List X) → AllByRecursion P xs → AllByRecursion P ys → AllByRecursion P (xs ++ ys)
both P [] ys a b = b
both P (x ∷ xs) ys a b = (a.0, both P xs ys a.1 b)

and_true : (a b : Bool) → a ≡ true → b ≡ true → (a && b) ≡ true
and_true a b e f = rw e f

there_more : {X : Type 0} (x : X) (xs : List X) → nat_lt 0 (length (x ∷ xs)) ≡ true
there_more x xs = grind (arith, nat_tests)

good_more : (m : Lists) (f : Formula) (fs : List Formula) → IsGood m f → AreGood m fs → AreGood m (f ∷ fs)
good_more m f fs good are = record {
  truths_known = both (IsKnownTruth m) (formula_names f) (concatenated (map formula_names fs)) good.truths_known are.truths_known;
  sides_known = both (SideIsKnown m) (comparisons f) (concatenated (map comparisons fs)) good.sides_known are.sides_known;
  full = and_true (is_full f) (list_all (λ (part : Bool). part) (map is_full fs)) good.full are.full;
}

good_joined : (m : Lists) (joint : Joint) (f : Formula) (fs : List Formula) → AreGood m (f ∷ fs) → IsGood m (joined_as joint (f ∷ fs))
good_joined m joints.And f fs are = record {
  truths_known = subst (AllByRecursion (IsKnownTruth m)) (sym (fold-And names_step (f ∷ fs))) are.truths_known;
  sides_known = subst (AllByRecursion (SideIsKnown m)) (sym (fold-And comparisons_step (f ∷ fs))) are.sides_known;
  full = fold-And full_step (f ∷ fs) ∙ and_true (nat_lt 0 (length (is_full f ∷ map is_full fs))) (list_all (λ (part : Bool). part) (is_full f ∷ map is_full fs)) (there_more (is_full f) (map is_full fs)) are.full;
}
good_joined m joints.Or f fs are = record {
  truths_known = subst (AllByRecursion (IsKnownTruth m)) (sym (fold-Or names_step (f ∷ fs))) are.truths_known;
  sides_known = subst (AllByRecursion (SideIsKnown m)) (sym (fold-Or comparisons_step (f ∷ fs))) are.sides_known;
  full = fold-Or full_step (f ∷ fs) ∙ and_true (nat_lt 0 (length (is_full f ∷ map is_full fs))) (list_all (λ (part : Bool). part) (is_full f ∷ map is_full fs)) (there_more (is_full f) (map is_full fs)) are.full;
}

good_paired : (m : Lists) (pairing : Pairing) (f g : Formula) → IsGood m f → IsGood m g → IsGood m (paired_as pairing f g)
good_paired m pairings.Implies f g one other = record {
  truths_known = subst (AllByRecursion (IsKnownTruth m)) (sym (fold-Implies names_step f g)) (both (IsKnownTruth m) (formula_names f) (formula_names g) one.truths_known other.truths_known);
  sides_known = subst (AllByRecursion (SideIsKnown m)) (sym (fold-Implies comparisons_step f g)) (both (SideIsKnown m) (comparisons f) (comparisons g) one.sides_known other.sides_known);
  full = fold-Implies full_step f g ∙ and_true (is_full f) (is_full g) one.full other.full;
}
good_paired m pairings.Iff f g one other = record {
  truths_known = subst (AllByRecursion (IsKnownTruth m)) (sym (fold-Iff names_step f g)) (both (IsKnownTruth m) (formula_names f) (formula_names g) one.truths_known other.truths_known);
  sides_known = subst (AllByRecursion (SideIsKnown m)) (sym (fold-Iff comparisons_step f g)) (both (SideIsKnown m) (comparisons f) (comparisons g) one.sides_known other.sides_known);
  full = fold-Iff full_step f g ∙ and_true (is_full f) (is_full g) one.full other.full;
}

good_compared : (m : Lists) (comparison : Comparison) (l : Linear) (k : ℤ) → All (TermIsKnown m) l.terms → nat_lt 0 (length l.terms) ≡ true → IsGood m (compared_as comparison l k)
good_compared m comparison_words.AtMost l k known there = record {
  truths_known = subst (AllByRecursion (IsKnownTruth m)) (sym (fold-AtMost names_step l k)) tt;
  sides_known = subst (AllByRecursion (SideIsKnown m)) (sym (fold-AtMost comparisons_step l k)) (known, tt);
  full = fold-AtMost full_step l k ∙ there;
}
good_compared m comparison_words.AtLeast l k known there = record {
  truths_known = subst (AllByRecursion (IsKnownTruth m)) (sym (fold-AtLeast names_step l k)) tt;
  sides_known = subst (AllByRecursion (SideIsKnown m)) (sym (fold-AtLeast comparisons_step l k)) (known, tt);
  full = fold-AtLeast full_step l k ∙ there;
}
good_compared m comparison_words.Equal l k known there = record {
  truths_known = subst (AllByRecursion (IsKnownTruth m)) (sym (fold-Equal names_step l k)) tt;
  sides_known = subst (AllByRecursion (SideIsKnown m)) (sym (fold-Equal comparisons_step l k)) (known, tt);
  full = fold-Equal full_step l k ∙ there;
}

term_known : (m : Lists) (t : WrittenTerm) → thing_fault wants.Number (thing_named m (term_name t)) ≡ None → TermIsKnown m (term_of m t)
term_known m (plain x) f = number_known m x f
term_known m (scaled k x) f = number_known m x f

terms_known : (m : Lists) (ts : List WrittenTerm) (after : List NameUse) → first_name_fault m (terms_uses ts after) ≡ None → AllByRecursion (TermIsKnown m) (map (term_of m) ts) × (first_name_fault m after ≡ None)
terms_known m [] after e = (tt, e)
terms_known m (t ∷ ts) after e =
    let right = first_right m (use_as wants.Number (term_name t)) (terms_uses ts after) e in
    let others = terms_known m ts after right.1 in
    ((term_known m t right.0, others.0), others.1)

linear_known : (m : Lists) (l : WrittenLinear) (after : List NameUse) → first_name_fault m (linear_uses l after) ≡ None → AllByRecursion (TermIsKnown m) (linear_of m l).terms × (first_name_fault m after ≡ None)
linear_known m (single t) after e = terms_known m (t ∷ []) after e
linear_known m (total t ts) after e = terms_known m (t ∷ ts) after e

linear_there : (m : Lists) (l : WrittenLinear) → nat_lt 0 (length (linear_of m l).terms) ≡ true
linear_there m (single t) = there_more (term_of m t) []
linear_there m (total t ts) = there_more (term_of m t) (map (term_of m) ts)

mutual
  formula_good : (m : Lists) (f : WrittenFormula) (after : List NameUse) → first_name_fault m (formula_uses f after) ≡ None → IsGood m (formula_of m f) × (first_name_fault m after ≡ None)
  formula_good m (name x) after e =
      let right = first_right m (use_as wants.Truth x) after e in (
        record {
          truths_known = subst (AllByRecursion (IsKnownTruth m)) (sym (fold-Name names_step (truth_named m x))) (truth_known m x right.0, tt);
          sides_known = subst (AllByRecursion (SideIsKnown m)) (sym (fold-Name comparisons_step (truth_named m x))) tt;
          full = fold-Name full_step (truth_named m x);
        },
        right.1,
      )
  formula_good m (negation part) after e =
      let inside = formula_good m part after e in (
        record {
          truths_known = subst (AllByRecursion (IsKnownTruth m)) (sym (fold-Not names_step (formula_of m part))) inside.0.truths_known;
          sides_known = subst (AllByRecursion (SideIsKnown m)) (sym (fold-Not comparisons_step (formula_of m part))) inside.0.sides_known;
          full = fold-Not full_step (formula_of m part) ∙ inside.0.full;
        },
        inside.1,
      )
  formula_good m (joined joint part parts) after e =
      let first = formula_good m part (formulas_uses parts after) e in
      let others = formulas_good m parts after first.1 in
      (good_joined m joint (formula_of m part) (each_formula_of m parts) (good_more m (formula_of m part) (each_formula_of m parts) first.0 others.0), others.1)
  formula_good m (paired pairing one other) after e =
      let first = formula_good m one (formula_uses other after) e in
      let second = formula_good m other after first.1 in
      (good_paired m pairing (formula_of m one) (formula_of m other) first.0 second.0, second.1)
  formula_good m (compared comparison linear k) after e =
      let side = linear_known m linear after e in
      (good_compared m comparison (linear_of m linear) k (All-from_recursion (TermIsKnown m) (linear_of m linear).terms side.0) (linear_there m linear), side.1)

  formulas_good : (m : Lists) (fs : WrittenFormulas) (after : List NameUse) → first_name_fault m (formulas_uses fs after) ≡ None → AreGood m (each_formula_of m fs) × (first_name_fault m after ≡ None)
  formulas_good m no_formulas after e = (record { truths_known = tt; sides_known = tt; full = refl }, e)
  formulas_good m (more_formulas part parts) after e =
      let first = formula_good m part (formulas_uses parts after) e in
      let others = formulas_good m parts after first.1 in
      (good_more m (formula_of m part) (each_formula_of m parts) first.0 others.0, others.1)

pub formula_proper : (m : Lists) (f : WrittenFormula) → first_name_fault m (formula_uses f []) ≡ None → is_deeper (limit_number limits.FormulaDepth) 0 (spelled f []) ≡ false → IsProperFormula m (formula_of m f)
formula_proper m f right shallow =
    let good = (formula_good m f [] right).0 in
    record {
      names = All-from_recursion (IsKnownTruth m) (formula_names (formula_of m f)) good.truths_known;
      numbers = All-from_recursion (SideIsKnown m) (comparisons (formula_of m f)) good.sides_known;
      full = good.full;
      depth = depth_is_few m (limit_number limits.FormulaDepth) f shallow;
    }
