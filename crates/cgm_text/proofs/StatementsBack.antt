-- The written form of a statement, read back after lists that know its names, is the statement.
use Rattle.std.proofs.Common.{◌≡◌, ℕ, ◌<◌, ◌≤◌, Bool, true, false, List, [], ◌∷◌, length, map, codes, FitsSigned, None, refl, sym, ap, ◌∙◌, subst, arith, w64}
use Rattle.std.specs.List.{AllByRecursion}
use Rattle.std.proofs.lemmas.List.Elements.{recursion_from_All}
use Rattle.cgm_base.specs.declared.limit.Which.TheVariants as limits
use Rattle.cgm_base.specs.Words.{limit_number}
use Rattle.cgm_base.specs.Printed.{truth_word}
use Rattle.cgm_formula.specs.declared.formula.Formula.{Formula}
use Rattle.cgm_formula.specs.declared.formula.Number.{Number}
use Rattle.cgm_formula.specs.declared.formula.Number.TheVariants as numbers_of
use Rattle.cgm_formula.specs.declared.formula.Truth.{Truth}
use Rattle.cgm_formula.specs.Nodes.{depth}
use Rattle.cgm_lex.specs.Lexemes.{Lexeme, opening, closing, colon, number, word}
use Rattle.cgm_lex.specs.Spelling.{IsPlain}
use Rattle.cgm_model.specs.declared.lists.Edge.{Edge}
use Rattle.cgm_model.specs.declared.lists.ElementKind.{ElementKind}
use Rattle.cgm_model.specs.declared.lists.ElementKind.TheVariants as element_kinds
use Rattle.cgm_model.specs.declared.lists.Lists.{Lists}
use Rattle.cgm_model.specs.declared.lists.Objective.{Objective}
use Rattle.cgm_model.specs.declared.lists.Preference.{Preference}
use Rattle.cgm_model.specs.declared.lists.Quantity.{Quantity}
use Rattle.cgm_model.specs.declared.lists.Quantity.TheVariants as quantities
use Rattle.cgm_model.specs.declared.lists.Rule.{Rule}
use Rattle.cgm_model.specs.declared.lists.Rule.TheVariants as rules_of
use Rattle.cgm_model.specs.declared.lists.Statement.{Statement}
use Rattle.cgm_model.specs.declared.lists.Statement.TheVariants as statements
use Rattle.cgm_model.specs.declared.lists.SumValue.{SumValue}
use Rattle.cgm_model.specs.declared.lists.Thing.{Thing}
use Rattle.cgm_model.specs.declared.lists.Thing.TheVariants as things
use Rattle.cgm_model.specs.declared.lists.Weighing.{Weighing}
use Rattle.cgm_model.specs.Formulas.{IsKnownNumber, IsKnownTruth, formula_of as formula_of_rule}
use Rattle.cgm_model.specs.Name.{is_name}
use Rattle.cgm_model.specs.Named.{thing_named}
use Rattle.cgm_model.specs.Statement.{IsEdgeOf, IsKnownQuantity, IsProperStatement}
use Rattle.cgm_text.specs.declared.names.Wanted.TheVariants as wants
use Rattle.cgm_print.specs.declared.words.ConditionWord.{ConditionWord}
use Rattle.cgm_print.specs.declared.words.ConditionWord.TheVariants as condition_words
use Rattle.cgm_print.specs.declared.words.PairWord.{PairWord}
use Rattle.cgm_print.specs.declared.words.PairWord.TheVariants as pair_words
use Rattle.cgm_print.specs.declared.words.WeightWord.{WeightWord}
use Rattle.cgm_print.specs.declared.words.WeightWord.TheVariants as weight_words
use Rattle.cgm_text.specs.Back.{ArePlain, IsThingThere, thing_name, Knows, Given, Back, StatementBack, Fitting}
use Rattle.cgm_print.specs.Canonical.{direction_of, element_name, number_name, quantity_name, refinement_name, sum_name, truth_name, written, written_element, written_formula, written_refinement, written_rule}
use Rattle.cgm_text.specs.Line.{nests_too_deep}
use Rattle.cgm_text.specs.Meaning.{element_named, element_of, is_max, number_named, quantity_named, quantity_of, refinement_named, refinement_of, sum_of, truth_named, formula_of, statement_of, condition_of, statement_of_weight}
use Rattle.cgm_print.specs.Statements.{condition, condition_word, direction_word, objective, pair, pair_word, requirement, value, weight, weight_word}
use Rattle.cgm_text.specs.Trees.{is_deeper}
use Rattle.cgm_text.specs.Uses.{end_of, first_name_fault, formula_uses, quantity_uses, thing_fault, use_as}
use Rattle.cgm_print.specs.Written.{spelled}
use Rattle.cgm_text.proofs.Spellings.{name_free}
use Rattle.cgm_text.proofs.WrittenBack.{formula_back, number_meaning, number_use, pass, passes, thing_plain, truth_meaning, truth_plain, truth_use}
use Rattle.cgm_text.specs.Parsed.{built_in}

-- ---- tokens without brackets

abbrev all_flat : List Lexeme → Bool
all_flat [] = true
all_flat (opening ∷ ts) = false
all_flat (closing ∷ ts) = false
all_flat (colon ∷ ts) = all_flat ts
all_flat (number k ∷ ts) = all_flat ts
all_flat (word x ∷ ts) = all_flat ts

flat : (ts : List Lexeme) → all_flat ts ≡ true → nests_too_deep ts ≡ false
flat [] e = refl
flat (opening ∷ ts) e = cc
flat (closing ∷ ts) e = cc
flat (colon ∷ ts) e = pass (limit_number limits.FormulaDepth) 0 colon ts (omega arith) ∙ flat ts e
flat (number k ∷ ts) e = pass (limit_number limits.FormulaDepth) 0 (number k) ts (omega arith) ∙ flat ts e
flat (word x ∷ ts) e = pass (limit_number limits.FormulaDepth) 0 (word x) ts (omega arith) ∙ flat ts e

words_flat : (xs : List (List ℕ)) → all_flat (map word xs) ≡ true
words_flat [] = refl
words_flat (x ∷ xs) = words_flat xs

after_word : (x : List ℕ) (rest : List Lexeme) → is_deeper (limit_number limits.FormulaDepth) 0 rest ≡ false → is_deeper (limit_number limits.FormulaDepth) 0 (word x ∷ rest) ≡ false
after_word x rest e = pass (limit_number limits.FormulaDepth) 0 (word x) rest (omega arith) ∙ e

-- ---- elements

element_back : (p : Lists) (x : List ℕ) (kind : ElementKind) (must : Bool) → (must ≡ true → kind ≡ element_kinds.Goal) → IsPlain (word x) → StatementBack p (statements.Element (record { name = x; kind = kind; must = must })) (written_element x kind must)
element_back p x element_kinds.Goal true proper plain_ = record {
  meaning = refl;
  names = refl;
  words = ((omega arith, (refl, refl)), (plain_, ((omega arith, (refl, refl)), tt)));
  shallow = flat (word (codes "goal") ∷ word x ∷ word (codes "must") ∷ []) refl;
}
element_back p x element_kinds.Goal false proper plain_ = record {
  meaning = refl;
  names = refl;
  words = ((omega arith, (refl, refl)), (plain_, tt));
  shallow = flat (word (codes "goal") ∷ word x ∷ []) refl;
}
element_back p x element_kinds.Task true proper plain_ = let e = proper refl in cc
element_back p x element_kinds.Task false proper plain_ = record {
  meaning = refl;
  names = refl;
  words = ((omega arith, (refl, refl)), (plain_, tt));
  shallow = flat (word (codes "task") ∷ word x ∷ []) refl;
}
element_back p x element_kinds.Assume true proper plain_ = let e = proper refl in cc
element_back p x element_kinds.Assume false proper plain_ = record {
  meaning = refl;
  names = refl;
  words = ((omega arith, (refl, refl)), (plain_, tt));
  shallow = flat (word (codes "assume") ∷ word x ∷ []) refl;
}

-- ---- names of elements and refinements

element_meaning : (p m : Lists) → Knows p m → (k : ℕ) → k < length p.elements → element_named p (element_name m k) ≡ k
element_meaning p m kn k h = ap element_of (kn.named (things.Element k) h)

refinement_meaning : (p m : Lists) → Knows p m → (k : ℕ) → k < length p.refinements → refinement_named p (refinement_name m k) ≡ k
refinement_meaning p m kn k h = ap refinement_of (kn.named (things.Refinement k) h)

element_use : (p m : Lists) → Knows p m → (k : ℕ) → k < length p.elements → thing_fault wants.Element (thing_named p (element_name m k)) ≡ None
element_use p m kn k h = ap (thing_fault wants.Element) (kn.named (things.Element k) h)

refinement_use : (p m : Lists) → Knows p m → (k : ℕ) → k < length p.refinements → thing_fault wants.Refinement (thing_named p (refinement_name m k)) ≡ None
refinement_use p m kn k h = ap (thing_fault wants.Refinement) (kn.named (things.Refinement k) h)

KnownElement : Lists → ℕ → Type 0
KnownElement p k = k < length p.elements

known_by : (p : Lists) (ks : List ℕ) → AllByRecursion (λ source. source < length p.elements) ks → AllByRecursion (KnownElement p) ks
unfolding KnownElement
known_by p ks known = known

two : (x y : ℕ) (xs ys : List ℕ) → x ≡ y → xs ≡ ys → x ∷ xs ≡ y ∷ ys
two x y xs ys e f = cc

sources_meaning : (p m : Lists) → Knows p m → (ks : List ℕ) → AllByRecursion (KnownElement p) ks → map (element_named p) (map (element_name m) ks) ≡ ks
unfolding KnownElement
sources_meaning p m kn [] known = refl
sources_meaning p m kn (k ∷ ks) known =
    two (element_named p (element_name m k)) k (map (element_named p) (map (element_name m) ks)) ks (element_meaning p m kn k known.0) (sources_meaning p m kn ks known.1)

sources_use : (p m : Lists) → Knows p m → (ks : List ℕ) → AllByRecursion (KnownElement p) ks → first_name_fault p (map (use_as wants.Element) (map (element_name m) ks)) ≡ None
unfolding KnownElement
sources_use p m kn [] known = refl
sources_use p m kn (k ∷ ks) known =
    passes p (use_as wants.Element (element_name m k)) (map (use_as wants.Element) (map (element_name m) ks)) (element_use p m kn k known.0) ∙ sources_use p m kn ks known.1

sources_words : (p m : Lists) → Knows p m → (ks : List ℕ) → AllByRecursion (KnownElement p) ks → ArePlain (map word (map (element_name m) ks))
unfolding KnownElement
sources_words p m kn [] known = tt
sources_words p m kn (k ∷ ks) known = (thing_plain p m kn (things.Element k) known.0, sources_words p m kn ks known.1)

refinement_back : (p m : Lists) → Knows p m → (x : List ℕ) (target : ℕ) (ks : List ℕ) → IsPlain (word x) → target < length p.elements → 0 < length ks → AllByRecursion (KnownElement p) ks
    → StatementBack p (statements.Refine (record { name = x; target = target; sources = ks })) (written_refinement x (element_name m target) (map (element_name m) ks))
refinement_back p m kn x target [] plain_ h some known = absurd (omega arith)
refinement_back p m kn x target (k ∷ ks) plain_ h some known =
    let t = element_name m target in
    let ns = map (element_name m) (k ∷ ks) in
    let meaning : statement_of p (written_refinement x t ns) ≡ statements.Refine (record { name = x; target = target; sources = k ∷ ks }) =
    ap (λ (at : ℕ). statements.Refine (record { name = x; target = at; sources = map (element_named p) ns })) (element_meaning p m kn target h)
    ∙ ap (λ (is : List ℕ). statements.Refine (record { name = x; target = target; sources = is })) (sources_meaning p m kn (k ∷ ks) known) in
    record {
      meaning = meaning;
      names = passes p (use_as wants.Element t) (map (use_as wants.Element) ns) (element_use p m kn target h) ∙ sources_use p m kn (k ∷ ks) known;
      words = ((omega arith, (refl, refl)), (plain_, (thing_plain p m kn (things.Element target) h, (tt, sources_words p m kn (k ∷ ks) known))));
      shallow = flat (word (codes "refine") ∷ word x ∷ word t ∷ colon ∷ map word ns) (words_flat ns);
    }

-- ---- rules

condition_back : (p m : Lists) → Knows p m → (what : ConditionWord) (x : Truth) (f : Formula) → IsKnownTruth p x → Given p f → depth f ≤ limit_number limits.FormulaDepth → IsPlain (word (condition_word what))
    → StatementBack p (statements.Rule (condition_of what x f)) (condition what (truth_name m x) (written_formula m f))
condition_back p m kn what x f known given few plain_ =
    let b : Back p m f (written_formula m f) = formula_back p m kn f given in
    let n = truth_name m x in
    let w = written_formula m f in
    record {
      meaning = ap (λ (y : Truth). statements.Rule (condition_of what y (formula_of p w))) (truth_meaning p m kn x known) ∙ ap (λ (g : Formula). statements.Rule (condition_of what x g)) b.meaning;
      names = passes p (use_as wants.Truth n) (formula_uses w []) (truth_use p m kn x known) ∙ b.uses [];
      words = (plain_, (truth_plain p m kn x known, b.words [] tt));
      shallow = after_word (condition_word what) (word n ∷ spelled w []) (after_word n (spelled w []) (b.shallow (limit_number limits.FormulaDepth) 0 [] (omega (arith, few))));
    }

requirement_back : (p m : Lists) → Knows p m → (f : Formula) → Given p f → depth f ≤ limit_number limits.FormulaDepth → StatementBack p (statements.Rule (rules_of.Require f)) (requirement (written_formula m f))
requirement_back p m kn f given few =
    let b : Back p m f (written_formula m f) = formula_back p m kn f given in
    let w = written_formula m f in
    record {
      meaning = ap (λ (g : Formula). statements.Rule (rules_of.Require g)) b.meaning;
      names = b.uses [];
      words = ((omega arith, (refl, refl)), b.words [] tt);
      shallow = after_word (codes "require") (spelled w []) (b.shallow (limit_number limits.FormulaDepth) 0 [] (omega (arith, few)));
    }

rule_back : (p m : Lists) → Knows p m → (r : Rule) → IsProperStatement p (statements.Rule r) → Given p (formula_of_rule r) → StatementBack p (statements.Rule r) (written_rule m r)
rule_back p m kn (rules_of.Positive x f) proper given =
    condition_back p m kn condition_words.Positive x f (recursion_from_All (IsKnownTruth p) (x ∷ []) proper.condition).0 given proper.formula.depth (omega arith, (refl, refl))
rule_back p m kn (rules_of.Negative x f) proper given =
    condition_back p m kn condition_words.Negative x f (recursion_from_All (IsKnownTruth p) (x ∷ []) proper.condition).0 given proper.formula.depth (omega arith, (refl, refl))
rule_back p m kn (rules_of.Require f) proper given = requirement_back p m kn f given proper.formula.depth

-- ---- pairs

elements_back : (p m : Lists) → Knows p m → (what : PairWord) (say : Edge → Statement) (e : Edge) → IsEdgeOf (length p.elements) e → end_of what ≡ wants.Element → IsPlain (word (pair_word what))
    → ((a b : ℕ) → a ≡ e.from → b ≡ e.to → say (record { from = a; to = b }) ≡ say e)
    → statement_of p (pair what (element_name m e.from) (element_name m e.to)) ≡ say (record { from = element_named p (element_name m e.from); to = element_named p (element_name m e.to) })
    → StatementBack p (say e) (pair what (element_name m e.from) (element_name m e.to))
elements_back p m kn what say e known ends plain_ same meaning =
    let one = element_name m e.from in
    let other = element_name m e.to in
    let fault_one : thing_fault (end_of what) (thing_named p one) ≡ None = rw ends (element_use p m kn e.from known.0) in
    let fault_other : thing_fault (end_of what) (thing_named p other) ≡ None = rw ends (element_use p m kn e.to known.1) in
    record {
      meaning = meaning ∙ same (element_named p one) (element_named p other) (element_meaning p m kn e.from known.0) (element_meaning p m kn e.to known.1);
      names = passes p (use_as (end_of what) one) (use_as (end_of what) other ∷ []) fault_one ∙ passes p (use_as (end_of what) other) [] fault_other;
      words = (plain_, (thing_plain p m kn (things.Element e.from) known.0, (thing_plain p m kn (things.Element e.to) known.1, tt)));
      shallow = flat (word (pair_word what) ∷ word one ∷ word other ∷ []) refl;
    }

binding_back : (p m : Lists) → Knows p m → (e : Edge) → IsEdgeOf (length p.refinements) e → StatementBack p (statements.Bind e) (pair pair_words.Bind (refinement_name m e.from) (refinement_name m e.to))
binding_back p m kn e known =
    let one = refinement_name m e.from in
    let other = refinement_name m e.to in
    record {
      meaning = ap (λ (a : ℕ). statements.Bind (record { from = a; to = refinement_named p other })) (refinement_meaning p m kn e.from known.0) ∙ ap (λ (b : ℕ). statements.Bind (record { from = e.from; to = b })) (refinement_meaning p m kn e.to known.1);
      names = passes p (use_as wants.Refinement one) (use_as wants.Refinement other ∷ []) (refinement_use p m kn e.from known.0) ∙ passes p (use_as wants.Refinement other) [] (refinement_use p m kn e.to known.1);
      words = ((omega arith, (refl, refl)), (thing_plain p m kn (things.Refinement e.from) known.0, (thing_plain p m kn (things.Refinement e.to) known.1, tt)));
      shallow = flat (word (codes "bind") ∷ word one ∷ word other ∷ []) refl;
    }

preference_back : (p m : Lists) → Knows p m → (x : Preference) → IsKnownTruth p x.better → IsKnownTruth p x.worse → StatementBack p (statements.Prefer x) (pair pair_words.Prefer (truth_name m x.better) (truth_name m x.worse))
preference_back p m kn x known_one known_other =
    let one = truth_name m x.better in
    let other = truth_name m x.worse in
    record {
      meaning = ap (λ (a : Truth). statements.Prefer (record { better = a; worse = truth_named p other })) (truth_meaning p m kn x.better known_one) ∙ ap (λ (b : Truth). statements.Prefer (record { better = x.better; worse = b })) (truth_meaning p m kn x.worse known_other);
      names = passes p (use_as wants.Truth one) (use_as wants.Truth other ∷ []) (truth_use p m kn x.better known_one) ∙ passes p (use_as wants.Truth other) [] (truth_use p m kn x.worse known_other);
      words = ((omega arith, (refl, refl)), (truth_plain p m kn x.better known_one, (truth_plain p m kn x.worse known_other, tt)));
      shallow = flat (word (codes "prefer") ∷ word one ∷ word other ∷ []) refl;
    }

-- ---- numbers of sums, rewards and penalties

value_back : (p m : Lists) → Knows p m → (v : SumValue) → v.sum < length p.sums → IsKnownTruth p v.of → FitsSigned w64 v.k → StatementBack p (statements.Value v) (value (sum_name m v.sum) (truth_name m v.of) v.k)
value_back p m kn v there known fits =
    let total = sum_name m v.sum in
    let of_what = truth_name m v.of in
    let sum_is = kn.named (things.Sum v.sum) there in
    record {
      meaning = ap (λ (a : ℕ). statements.Value (record { sum = a; of = truth_named p of_what; k = v.k })) (ap sum_of sum_is) ∙ ap (λ (x : Truth). statements.Value (record { sum = v.sum; of = x; k = v.k })) (truth_meaning p m kn v.of known);
      names = passes p (use_as wants.Sum total) (use_as wants.Truth of_what ∷ []) (ap (thing_fault wants.Sum) sum_is) ∙ passes p (use_as wants.Truth of_what) [] (truth_use p m kn v.of known);
      words = ((omega arith, (refl, refl)), (thing_plain p m kn (things.Sum v.sum) there, (truth_plain p m kn v.of known, (fits, tt))));
      shallow = flat (word (codes "value") ∷ word total ∷ word of_what ∷ number v.k ∷ []) refl;
    }

weight_back : (p m : Lists) → Knows p m → (what : WeightWord) (w : Weighing) → w.element < length p.elements → FitsSigned w64 w.k → IsPlain (word (weight_word what)) → StatementBack p (statement_of_weight what w) (weight what (element_name m w.element) w.k)
weight_back p m kn what w there fits plain_ =
    let x = element_name m w.element in
    record {
      meaning = ap (λ (a : ℕ). statement_of_weight what (record { element = a; k = w.k })) (element_meaning p m kn w.element there);
      names = passes p (use_as wants.Element x) [] (element_use p m kn w.element there);
      words = (plain_, (thing_plain p m kn (things.Element w.element) there, (fits, tt)));
      shallow = flat (word (weight_word what) ∷ word x ∷ number w.k ∷ []) refl;
    }

-- ---- objectives

record QuantityBack (p : Lists) (q : Quantity) (x : List ℕ) : Type 0 where
  meaning : quantity_named p x ≡ q
  names : first_name_fault p (quantity_uses (built_in x) x) ≡ None
  plain_word : IsPlain (word x)

number_back : (p m : Lists) → Knows p m → (x : Number) (t : Thing) → IsKnownNumber p x → IsThingThere p t → number_name m x ≡ thing_name m t → QuantityBack p (quantity_of None x) (number_name m x)
number_back p m kn x t known there same =
    let n = number_name m x in
    let free : built_in n ≡ None = name_free n (ap is_name same ∙ kn.spelled t there) in
    record {
      meaning = ap (λ o. quantity_of o (number_named p n)) free ∙ ap (quantity_of None) (number_meaning p m kn x known);
      names = ap (λ o. first_name_fault p (quantity_uses o n)) free ∙ passes p (use_as wants.Number n) [] (number_use p m kn x known);
      plain_word = subst (λ (y : List ℕ). IsPlain (word y)) (sym same) (thing_plain p m kn t there);
    }

quantity_back : (p m : Lists) → Knows p m → (q : Quantity) → IsKnownQuantity p q → QuantityBack p q (quantity_name m q)
quantity_back p m kn (quantities.Var k) known = number_back p m kn (numbers_of.Var k) (things.Var k) known known refl
quantity_back p m kn (quantities.Sum k) known = number_back p m kn (numbers_of.Sum k) (things.Sum k) known known refl
quantity_back p m kn quantities.Weight known = record { meaning = refl; names = refl; plain_word = (omega arith, (refl, refl)) }
quantity_back p m kn quantities.UnsatPrefs known = record { meaning = refl; names = refl; plain_word = (omega arith, (refl, refl)) }
quantity_back p m kn quantities.UnsatReqs known = record { meaning = refl; names = refl; plain_word = (omega arith, (refl, refl)) }
quantity_back p m kn quantities.SatTasks known = record { meaning = refl; names = refl; plain_word = (omega arith, (refl, refl)) }
quantity_back p m kn quantities.Familiarity known = record { meaning = refl; names = refl; plain_word = (omega arith, (refl, refl)) }
quantity_back p m kn quantities.Effort known = record { meaning = refl; names = refl; plain_word = (omega arith, (refl, refl)) }

direction_plain : (max : Bool) → IsPlain (word (direction_word (direction_of max)))
direction_plain true = (omega arith, (refl, refl))
direction_plain false = (omega arith, (refl, refl))

direction_meaning : (max : Bool) → is_max (direction_of max) ≡ max
direction_meaning true = refl
direction_meaning false = refl

objective_back : (p m : Lists) → Knows p m → (o : Objective) → IsKnownQuantity p o.of → StatementBack p (statements.Objective o) (objective (direction_of o.max) (quantity_name m o.of))
objective_back p m kn o known =
    let x = quantity_name m o.of in
    let back = quantity_back p m kn o.of known in
    record {
      meaning = ap (λ (b : Bool). statements.Objective (record { max = b; of = quantity_named p x })) (direction_meaning o.max) ∙ ap (λ (q : Quantity). statements.Objective (record { max = o.max; of = q })) back.meaning;
      names = back.names;
      words = ((omega arith, (refl, refl)), (direction_plain o.max, (back.plain_word, tt)));
      shallow = flat (word (codes "objective") ∷ word (direction_word (direction_of o.max)) ∷ word x ∷ []) refl;
    }

-- ---- truth values

truth_shallow : (x : List ℕ) (truth : Bool) → is_deeper (limit_number limits.FormulaDepth) 0 (word (codes "assert") ∷ word x ∷ word (truth_word truth) ∷ []) ≡ false
truth_shallow x truth = flat (word (codes "assert") ∷ word x ∷ word (truth_word truth) ∷ []) refl

truth_plain_word : (truth : Bool) → IsPlain (word (truth_word truth))
truth_plain_word true = (omega arith, (refl, refl))
truth_plain_word false = (omega arith, (refl, refl))

-- ---- each statement

pub statement_back : (p m : Lists) → Knows p m → (s : Statement) → IsProperStatement p s → Fitting p s → StatementBack p s (written m s)
statement_back p m kn (statements.Element e) proper fits = element_back p e.name e.kind e.must proper fits
statement_back p m kn (statements.Refine r) proper fits =
    refinement_back p m kn r.name r.target r.sources fits proper.0 proper.1 (known_by p r.sources (recursion_from_All (λ source. source < length p.elements) r.sources proper.2))
statement_back p m kn (statements.Variable v) proper fits = record {
  meaning = refl;
  names = refl;
  words = ((omega arith, (refl, refl)), (fits.0, (fits.1.0, (fits.1.1, tt))));
  shallow = flat (word (codes "var") ∷ word v.name ∷ number v.lo ∷ number v.hi ∷ []) refl;
}
statement_back p m kn (statements.Sum x) proper fits = record {
  meaning = refl;
  names = refl;
  words = ((omega arith, (refl, refl)), (fits, tt));
  shallow = flat (word (codes "sum") ∷ word x.name ∷ []) refl;
}
statement_back p m kn (statements.Contrib e) proper fits =
    elements_back p m kn pair_words.Contrib (λ (x : Edge). statements.Contrib x) e proper refl (omega arith, (refl, refl))
    (λ a b f g. ap (λ (k : ℕ). statements.Contrib (record { from = k; to = b })) f ∙ ap (λ (k : ℕ). statements.Contrib (record { from = e.from; to = k })) g) refl
statement_back p m kn (statements.Conflict e) proper fits =
    elements_back p m kn pair_words.Conflict (λ (x : Edge). statements.Conflict x) e proper refl (omega arith, (refl, refl))
    (λ a b f g. ap (λ (k : ℕ). statements.Conflict (record { from = k; to = b })) f ∙ ap (λ (k : ℕ). statements.Conflict (record { from = e.from; to = k })) g) refl
statement_back p m kn (statements.Bind e) proper fits = binding_back p m kn e proper
statement_back p m kn (statements.Assert a) proper fits = record {
  meaning = ap (λ (k : ℕ). statements.Assert (record { element = k; truth = a.truth })) (element_meaning p m kn a.element proper);
  names = passes p (use_as wants.Element (element_name m a.element)) [] (element_use p m kn a.element proper);
  words = ((omega arith, (refl, refl)), (thing_plain p m kn (things.Element a.element) proper, (truth_plain_word a.truth, tt)));
  shallow = truth_shallow (element_name m a.element) a.truth;
}
statement_back p m kn (statements.Value v) proper fits = value_back p m kn v proper.0 proper.1 fits
statement_back p m kn (statements.Reward w) proper fits = weight_back p m kn weight_words.Reward w proper fits (omega arith, (refl, refl))
statement_back p m kn (statements.Penalty w) proper fits = weight_back p m kn weight_words.Penalty w proper fits (omega arith, (refl, refl))
statement_back p m kn (statements.Prefer x) proper fits = preference_back p m kn x proper.0 proper.1
statement_back p m kn (statements.Rule r) proper fits = rule_back p m kn r proper fits
statement_back p m kn (statements.Interest k) proper fits = record {
  meaning = ap (λ (e : ℕ). statements.Interest e) (element_meaning p m kn k proper);
  names = passes p (use_as wants.Element (element_name m k)) [] (element_use p m kn k proper);
  words = ((omega arith, (refl, refl)), (thing_plain p m kn (things.Element k) proper, tt));
  shallow = flat (word (codes "interest") ∷ word (element_name m k) ∷ []) refl;
}
statement_back p m kn (statements.Objective o) proper fits = objective_back p m kn o proper
