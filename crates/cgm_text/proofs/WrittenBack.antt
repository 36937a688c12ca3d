-- The written form of a formula, read back after lists that know its names, is the formula.
use Rattle.std.proofs.Common.{◌≡◌, ◌≢◌, ℕ, ◌+◌, ◌-◌, ◌==◌, ◌≤◌, ℤ, pos, negsuc, max, Bool, true, false, ◌&&◌, nat_lt, List, [], ◌∷◌, ◌++◌, length, map, codes, FitsSigned, None, refl, sym, ap, ◌∙◌, subst, arith, true≢false, w64}
use Rattle.std.specs.List.{AllByRecursion, list_all}
use Rattle.std.specs.Ordering.{int_eq}
use Rattle.std.proofs.lemmas.Bool.{and_parts, eqb-true}
use Rattle.std.proofs.lemmas.Bool.Decides.{nat_tests, Decides-int_eq}
use Rattle.std.proofs.lemmas.Int.{clamps}
use Rattle.cgm_formula.specs.declared.formula.Formula.{Formula}
use Rattle.cgm_formula.specs.declared.formula.Formula.TheVariants as formulas
use Rattle.cgm_formula.specs.declared.formula.Linear.{Linear}
use Rattle.cgm_formula.specs.declared.formula.Number.{Number}
use Rattle.cgm_formula.specs.declared.formula.Number.TheVariants as numbers_of
use Rattle.cgm_formula.specs.declared.formula.Truth.{Truth}
use Rattle.cgm_formula.specs.declared.formula.Truth.TheVariants as truths
use Rattle.cgm_formula.specs.Nodes.{formula_names, names_step, comparisons, comparisons_step, is_full, full_step, depth, depth_step, greatest, linear_depth, term_depth, lists_joined as concatenated}
use Rattle.cgm_formula.proofs.Comparisons.{split}
use Rattle.cgm_formula.proofs.Folds.{fold-Name, fold-Not, fold-And, fold-Or, fold-Implies, fold-Iff, fold-AtMost, fold-AtLeast, fold-Equal}
use Rattle.cgm_formula.proofs.Induction.{by_cases}
use Rattle.cgm_lex.specs.Lexemes.{Lexeme, opening, closing, number, word}
use Rattle.cgm_lex.specs.Spelling.{IsPlain}
use Rattle.cgm_model.specs.declared.lists.Lists.{Lists}
use Rattle.cgm_model.specs.declared.lists.Thing.{Thing}
use Rattle.cgm_model.specs.declared.lists.Thing.TheVariants as things
use Rattle.cgm_model.specs.Formulas.{IsKnownTruth, IsKnownNumber}
use Rattle.cgm_model.specs.Named.{thing_named}
use Rattle.cgm_text.specs.declared.names.Wanted.TheVariants as wants
use Rattle.cgm_print.specs.declared.words.Comparison.{Comparison}
use Rattle.cgm_print.specs.declared.words.Comparison.TheVariants as comparison_words
use Rattle.cgm_print.specs.declared.words.Joint.{Joint}
use Rattle.cgm_print.specs.declared.words.Joint.TheVariants as joints
use Rattle.cgm_print.specs.declared.words.Pairing.{Pairing}
use Rattle.cgm_print.specs.declared.words.Pairing.TheVariants as pairings
use Rattle.cgm_text.specs.Back.{ArePlain, IsThingThere, thing_name, Knows, IsTerm, IsSide, Given, Back}
use Rattle.cgm_print.specs.Canonical.{truth_name, number_name, written_term, written_linear, written_step, written_formula}
use Rattle.cgm_text.specs.Meaning.{truth_named, truth_of, number_named, statement_of_number, term_of, linear_of, linear_with, formula_of, each_formula_of, joined_as, paired_as, compared_as}
use Rattle.cgm_text.specs.Trees.{count_after, is_deeper}
use Rattle.cgm_text.specs.Uses.{NameUse, use_as, term_name, terms_uses, linear_uses, formula_uses, formulas_uses, thing_fault, first_name_fault}
use Rattle.cgm_print.specs.Written.{WrittenTerm, plain, scaled, WrittenLinear, WrittenFormula, name, negation, joined, paired, compared, WrittenFormulas, more_formulas, joint_word, pairing_word, comparison_word, spelled_term, spelled_terms, spelled_linear, spelled, spelled_each, formulas_of}
use Rattle.cgm_text.proofs.Spellings.{name_plain}

-- ---- names

pub thing_plain : (p m : Lists) → Knows p m → (t : Thing) → IsThingThere p t → IsPlain (word (thing_name m t))
thing_plain p m kn t h = name_plain (thing_name m t) (kn.spelled t h)

pub truth_meaning : (p m : Lists) → Knows p m → (x : Truth) → IsKnownTruth p x → truth_named p (truth_name m x) ≡ x
truth_meaning p m kn (truths.Element k) h = ap truth_of (kn.named (things.Element k) h)
truth_meaning p m kn (truths.Refinement k) h = ap truth_of (kn.named (things.Refinement k) h)

pub truth_use : (p m : Lists) → Knows p m → (x : Truth) → IsKnownTruth p x → thing_fault wants.Truth (thing_named p (truth_name m x)) ≡ None
truth_use p m kn (truths.Element k) h = ap (thing_fault wants.Truth) (kn.named (things.Element k) h)
truth_use p m kn (truths.Refinement k) h = ap (thing_fault wants.Truth) (kn.named (things.Refinement k) h)

pub truth_plain : (p m : Lists) → Knows p m → (x : Truth) → IsKnownTruth p x → IsPlain (word (truth_name m x))
truth_plain p m kn (truths.Element k) h = thing_plain p m kn (things.Element k) h
truth_plain p m kn (truths.Refinement k) h = thing_plain p m kn (things.Refinement k) h

pub number_meaning : (p m : Lists) → Knows p m → (x : Number) → IsKnownNumber p x → number_named p (number_name m x) ≡ x
number_meaning p m kn (numbers_of.Var k) h = ap statement_of_number (kn.named (things.Var k) h)
number_meaning p m kn (numbers_of.Sum k) h = ap statement_of_number (kn.named (things.Sum k) h)

pub number_use : (p m : Lists) → Knows p m → (x : Number) → IsKnownNumber p x → thing_fault wants.Number (thing_named p (number_name m x)) ≡ None
number_use p m kn (numbers_of.Var k) h = ap (thing_fault wants.Number) (kn.named (things.Var k) h)
number_use p m kn (numbers_of.Sum k) h = ap (thing_fault wants.Number) (kn.named (things.Sum k) h)

number_plain : (p m : Lists) → Knows p m → (x : Number) → IsKnownNumber p x → IsPlain (word (number_name m x))
number_plain p m kn (numbers_of.Var k) h = thing_plain p m kn (things.Var k) h
number_plain p m kn (numbers_of.Sum k) h = thing_plain p m kn (things.Sum k) h

-- a name that is right adds no fault
pub passes : (p : Lists) (u : NameUse) (us : List NameUse) → thing_fault u.wanted (thing_named p u.used) ≡ None → first_name_fault p (u ∷ us) ≡ first_name_fault p us
passes p u us e = rw e refl

-- ---- brackets

not_less : (most next : ℕ) → next ≤ most → nat_lt most next ≡ false
not_less most next h = grind (arith, nat_tests)

pub pass : (most count : ℕ) (t : Lexeme) (rest : List Lexeme) → count_after t count ≤ most → is_deeper most count (t ∷ rest) ≡ is_deeper most (count_after t count) rest
pass most count t rest h = rw (not_less most (count_after t count) h) refl

one_less : (count : ℕ) → (count + 1) - 1 ≡ count
one_less count = omega arith

open_step : (most count : ℕ) (w : List ℕ) (rest : List Lexeme) → count + 1 ≤ most → is_deeper most count (opening ∷ word w ∷ rest) ≡ is_deeper most (count + 1) rest
open_step most count w rest h = pass most count opening (word w ∷ rest) h ∙ pass most (count + 1) (word w) rest h

close_step : (most count : ℕ) (rest : List Lexeme) → count ≤ most → is_deeper most (count + 1) (closing ∷ rest) ≡ is_deeper most count rest
close_step most count rest h =
    pass most (count + 1) closing rest (omega (arith, h)) ∙ ap (λ (c : ℕ). is_deeper most c rest) (one_less count)

-- ---- terms

record TermBack (p m : Lists) (k : ℤ) (x : Number) (w : WrittenTerm) : Type 0 where
  meaning : term_of p w ≡ (k, x)
  use_right : thing_fault wants.Number (thing_named p (term_name w)) ≡ None
  words : (after : List Lexeme) → ArePlain after → ArePlain (spelled_term w after)
  shallow : (most count : ℕ) (after : List Lexeme) → count + term_depth (k, x) ≤ most → is_deeper most count (spelled_term w after) ≡ is_deeper most count after

depth_by : (n : ℕ) (x : Number) (one : Bool) → (n == 1) ≡ one → pos n ≢ pos 1 → term_depth (pos n, x) ≡ 1
depth_by n x true e h = absurd (h (ap pos (eqb-true n 1 e)))
depth_by n x false e h = rw e refl

depth_scaled : (k : ℤ) (x : Number) → k ≢ pos 1 → term_depth (k, x) ≡ 1
depth_scaled (pos n) x h = depth_by n x (n == 1) refl h
depth_scaled (negsuc n) x h = refl

pairs : {X Y : Type 0} (a b : X) (c d : Y) → a ≡ b → c ≡ d → ◌≡◌ {A = X × Y} (a, c) (b, d)
pairs a b c d e f = cc

term_plain : (p m : Lists) → Knows p m → (k : ℤ) (x : Number) → IsKnownNumber p x → k ≡ pos 1 → TermBack p m k x (plain (number_name m x))
term_plain p m kn k x h e = record {
  meaning = pairs (pos 1) k (number_named p (number_name m x)) x (sym e) (number_meaning p m kn x h);
  use_right = number_use p m kn x h;
  words = λ after later. (number_plain p m kn x h, later);
  shallow = λ most count after few. pass most count (word (number_name m x)) after (omega (arith, few));
}

term_scaled : (p m : Lists) → Knows p m → (k : ℤ) (x : Number) → IsKnownNumber p x → FitsSigned w64 k → k ≢ pos 1 → TermBack p m k x (scaled k (number_name m x))
term_scaled p m kn k x h fits e =
    let n = number_name m x in
    let deep = depth_scaled k x e in
    record {
      meaning = pairs k k (number_named p n) x refl (number_meaning p m kn x h);
      use_right = number_use p m kn x h;
      words = λ after later. (tt, ((omega arith, (refl, refl)), (fits, (number_plain p m kn x h, (tt, later)))));
      shallow = λ most count after few.
          open_step most count (codes "*") (number k ∷ word n ∷ closing ∷ after) (omega (arith, deep, few))
          ∙ pass most (count + 1) (number k) (word n ∷ closing ∷ after) (omega (arith, deep, few))
          ∙ pass most (count + 1) (word n) (closing ∷ after) (omega (arith, deep, few))
          ∙ close_step most count after (omega (arith, deep, few));
    }

term_by : (p m : Lists) → Knows p m → (k : ℤ) (x : Number) → IsKnownNumber p x → FitsSigned w64 k → (one : Bool) → int_eq k (pos 1) ≡ one → TermBack p m k x (written_term m (k, x))
term_by p m kn k x h fits true e = rw e (term_plain p m kn k x h ((Decides-int_eq k (pos 1)).0 e))
term_by p m kn k x h fits false e =
    rw e (term_scaled p m kn k x h fits (λ same. true≢false (sym ((Decides-int_eq k (pos 1)).1 same) ∙ e)))

term_back : (p m : Lists) → Knows p m → (t : ℤ × Number) → IsTerm p t → TermBack p m t.0 t.1 (written_term m t)
term_back p m kn t given = term_by p m kn t.0 t.1 given.0 given.1 (int_eq t.0 (pos 1)) refl

record TermsBack (p m : Lists) (ts : List (ℤ × Number)) (ws : List WrittenTerm) : Type 0 where
  meaning : map (term_of p) ws ≡ ts
  uses : (after : List NameUse) → first_name_fault p (terms_uses ws after) ≡ first_name_fault p after
  words : (after : List Lexeme) → ArePlain after → ArePlain (spelled_terms ws after)
  shallow : (most count : ℕ) (after : List Lexeme) → count + greatest (map term_depth ts) ≤ most → is_deeper most count (spelled_terms ws after) ≡ is_deeper most count after

two : {X : Type 0} (x y : X) (xs ys : List X) → x ≡ y → xs ≡ ys → x ∷ xs ≡ y ∷ ys
two x y xs ys e f = cc

terms_more : (p m : Lists) (t : ℤ × Number) (ts : List (ℤ × Number)) (w : WrittenTerm) (ws : List WrittenTerm) → TermBack p m t.0 t.1 w → TermsBack p m ts ws → TermsBack p m (t ∷ ts) (w ∷ ws)
terms_more p m t ts w ws one more = record {
  meaning = two (term_of p w) t (map (term_of p) ws) ts one.meaning more.meaning;
  uses = λ after. passes p (use_as wants.Number (term_name w)) (terms_uses ws after) one.use_right ∙ more.uses after;
  words = λ after later. one.words (spelled_terms ws after) (more.words after later);
  shallow = λ most count after few.
      one.shallow most count (spelled_terms ws after) (omega (arith, clamps, few)) ∙ more.shallow most count after (omega (arith, clamps, few));
}

terms_back : (p m : Lists) → Knows p m → (ts : List (ℤ × Number)) → AllByRecursion (IsTerm p) ts → TermsBack p m ts (map (written_term m) ts)
terms_back p m kn [] given = record { meaning = refl; uses = λ after. refl; words = λ after later. later; shallow = λ most count after few. refl }
terms_back p m kn (t ∷ ts) given =
    terms_more p m t ts (written_term m t) (map (written_term m) ts) (term_back p m kn t given.0) (terms_back p m kn ts given.1)

record LinearBack (p m : Lists) (ts : List (ℤ × Number)) (w : WrittenLinear) : Type 0 where
  meaning : linear_of p w ≡ linear_with ts
  uses : (after : List NameUse) → first_name_fault p (linear_uses w after) ≡ first_name_fault p after
  words : (after : List Lexeme) → ArePlain after → ArePlain (spelled_linear w after)
  shallow : (most count : ℕ) (after : List Lexeme) → count + linear_depth ts ≤ most → is_deeper most count (spelled_linear w after) ≡ is_deeper most count after

linear_back : (p m : Lists) → Knows p m → (ts : List (ℤ × Number)) → AllByRecursion (IsTerm p) ts → nat_lt 0 (length ts) ≡ true → LinearBack p m ts (written_linear m ts)
linear_back p m kn [] given full = cc
linear_back p m kn (t ∷ []) given full =
    let one = term_back p m kn t given.0 in
    record {
      meaning = ap (λ (u : ℤ × Number). linear_with (u ∷ [])) one.meaning;
      uses = λ after. passes p (use_as wants.Number (term_name (written_term m t))) after one.use_right;
      words = one.words;
      shallow = one.shallow;
    }
linear_back p m kn (t ∷ u ∷ ts) given full =
    let all = terms_back p m kn (t ∷ u ∷ ts) given in
    let ws = map (written_term m) (t ∷ u ∷ ts) in
    record {
      meaning = ap linear_with all.meaning;
      uses = all.uses;
      words = λ after later. (tt, ((omega arith, (refl, refl)), all.words (closing ∷ after) (tt, later)));
      shallow = λ most count after few.
          open_step most count (codes "+") (spelled_terms ws (closing ∷ after)) (omega (arith, few))
          ∙ all.shallow most (count + 1) (closing ∷ after) (omega (arith, few))
          ∙ close_step most count after (omega (arith, few));
    }

-- ---- formulas

record Givens (p : Lists) (fs : List Formula) : Type 0 where
  known : AllByRecursion (IsKnownTruth p) (concatenated (map formula_names fs))
  sides : AllByRecursion (IsSide p) (concatenated (map comparisons fs))
  full : list_all (λ (part : Bool). part) (map is_full fs) ≡ true

record Backs (p m : Lists) (fs : List Formula) (ws : WrittenFormulas) : Type 0 where
  meaning : each_formula_of p ws ≡ fs
  uses : (after : List NameUse) → first_name_fault p (formulas_uses ws after) ≡ first_name_fault p after
  words : (after : List Lexeme) → ArePlain after → ArePlain (spelled_each ws after)
  shallow : (most count : ℕ) (after : List Lexeme) → count + greatest (map depth fs) ≤ most → is_deeper most count (spelled_each ws after) ≡ is_deeper most count after

Goes : Lists → Lists → Formula → Type 0
Goes p m f = Given p f → Back p m f (written_formula m f)

backs_more : (p m : Lists) (f : Formula) (fs : List Formula) (w : WrittenFormula) (ws : WrittenFormulas) → Back p m f w → Backs p m fs ws → Backs p m (f ∷ fs) (more_formulas w ws)
backs_more p m f fs w ws one more = record {
  meaning = two (formula_of p w) f (each_formula_of p ws) fs one.meaning more.meaning;
  uses = λ after. one.uses (formulas_uses ws after) ∙ more.uses after;
  words = λ after later. one.words (spelled_each ws after) (more.words after later);
  shallow = λ most count after few.
      one.shallow most count (spelled_each ws after) (omega (arith, clamps, few)) ∙ more.shallow most count after (omega (arith, clamps, few));
}

given_first : (p : Lists) (f : Formula) (fs : List Formula) → Givens p (f ∷ fs) → Given p f
given_first p f fs g = record {
  known = (split (IsKnownTruth p) (formula_names f) (concatenated (map formula_names fs)) g.known).0;
  sides = (split (IsSide p) (comparisons f) (concatenated (map comparisons fs)) g.sides).0;
  full = (and_parts (is_full f) (list_all (λ (part : Bool). part) (map is_full fs)) g.full).0;
}

given_others : (p : Lists) (f : Formula) (fs : List Formula) → Givens p (f ∷ fs) → Givens p fs
given_others p f fs g = record {
  known = (split (IsKnownTruth p) (formula_names f) (concatenated (map formula_names fs)) g.known).1;
  sides = (split (IsSide p) (comparisons f) (concatenated (map comparisons fs)) g.sides).1;
  full = (and_parts (is_full f) (list_all (λ (part : Bool). part) (map is_full fs)) g.full).1;
}

backs : (p m : Lists) (fs : List Formula) → AllByRecursion (Goes p m) fs → Givens p fs → Backs p m fs (formulas_of (map (written_formula m) fs))
unfolding Goes
backs p m [] all g = record { meaning = refl; uses = λ after. refl; words = λ after later. later; shallow = λ most count after few. refl }
backs p m (f ∷ fs) all g =
    backs_more p m f fs (written_formula m f) (formulas_of (map (written_formula m) fs)) (all.0 (given_first p f fs g)) (backs p m fs all.1 (given_others p f fs g))

depth_joined : (joint : Joint) (parts : List Formula) → depth (joined_as joint parts) ≡ 1 + greatest (map depth parts)
depth_joined joints.And parts = fold-And depth_step parts
depth_joined joints.Or parts = fold-Or depth_step parts

joint_plain : (joint : Joint) → IsPlain (word (joint_word joint))
joint_plain joints.And = (omega arith, (refl, refl))
joint_plain joints.Or = (omega arith, (refl, refl))

joint_back : (p m : Lists) (joint : Joint) (part : Formula) (parts : List Formula) → AllByRecursion (Goes p m) (part ∷ parts) → Givens p (part ∷ parts) → Back p m (joined_as joint (part ∷ parts)) (joined joint (written_formula m part) (formulas_of (map (written_formula m) parts)))
joint_back p m joint part parts all g =
    let bs = backs p m (part ∷ parts) all g in
    let w = written_formula m part in
    let ws = formulas_of (map (written_formula m) parts) in
    let deep = depth_joined joint (part ∷ parts) in
    record {
      meaning = ap (joined_as joint) bs.meaning;
      uses = bs.uses;
      words = λ after later. (tt, (joint_plain joint, bs.words (closing ∷ after) (tt, later)));
      shallow = λ most count after few.
          open_step most count (joint_word joint) (spelled w (spelled_each ws (closing ∷ after))) (omega (arith, deep, few))
          ∙ bs.shallow most (count + 1) (closing ∷ after) (omega (arith, deep, few))
          ∙ close_step most count after (omega (arith, deep, few));
    }

depth_paired : (pairing : Pairing) (one other : Formula) → depth (paired_as pairing one other) ≡ 1 + max (depth one) (depth other)
depth_paired pairings.Implies one other = fold-Implies depth_step one other
depth_paired pairings.Iff one other = fold-Iff depth_step one other

pairing_plain : (pairing : Pairing) → IsPlain (word (pairing_word pairing))
pairing_plain pairings.Implies = (omega arith, (refl, refl))
pairing_plain pairings.Iff = (omega arith, (refl, refl))

pair_back : (p m : Lists) (pairing : Pairing) (one other : Formula) (v w : WrittenFormula) → Back p m one v → Back p m other w → Back p m (paired_as pairing one other) (paired pairing v w)
pair_back p m pairing one other v w a b =
    let deep = depth_paired pairing one other in
    record {
      meaning = ap (λ (f : Formula). paired_as pairing f (formula_of p w)) a.meaning ∙ ap (paired_as pairing one) b.meaning;
      uses = λ after. a.uses (formula_uses w after) ∙ b.uses after;
      words = λ after later. (tt, (pairing_plain pairing, a.words (spelled w (closing ∷ after)) (b.words (closing ∷ after) (tt, later))));
      shallow = λ most count after few.
          open_step most count (pairing_word pairing) (spelled v (spelled w (closing ∷ after))) (omega (arith, deep, few))
          ∙ a.shallow most (count + 1) (spelled w (closing ∷ after)) (omega (arith, clamps, deep, few))
          ∙ b.shallow most (count + 1) (closing ∷ after) (omega (arith, clamps, deep, few))
          ∙ close_step most count after (omega (arith, deep, few));
    }

depth_compared : (comparison : Comparison) (l : Linear) (k : ℤ) → depth (compared_as comparison l k) ≡ 1 + linear_depth l.terms
depth_compared comparison_words.AtMost l k = fold-AtMost depth_step l k
depth_compared comparison_words.AtLeast l k = fold-AtLeast depth_step l k
depth_compared comparison_words.Equal l k = fold-Equal depth_step l k

comparison_plain : (comparison : Comparison) → IsPlain (word (comparison_word comparison))
comparison_plain comparison_words.AtMost = (omega arith, (refl, refl))
comparison_plain comparison_words.AtLeast = (omega arith, (refl, refl))
comparison_plain comparison_words.Equal = (omega arith, (refl, refl))

comparison_back : (p m : Lists) → Knows p m → (comparison : Comparison) (l : Linear) (k : ℤ) → AllByRecursion (IsSide p) ((l, k) ∷ []) → nat_lt 0 (length l.terms) ≡ true → Back p m (compared_as comparison l k) (compared comparison (written_linear m l.terms) k)
comparison_back p m kn comparison l k sides full =
    let side = sides.0 in
    let back = linear_back p m kn l.terms side.terms full in
    let w = written_linear m l.terms in
    let deep = depth_compared comparison l k in
    record {
      meaning = ap (λ (linear : Linear). compared_as comparison linear k) back.meaning;
      uses = back.uses;
      words = λ after later. (tt, (comparison_plain comparison, back.words (number k ∷ closing ∷ after) (side.fits, (tt, later))));
      shallow = λ most count after few.
          open_step most count (comparison_word comparison) (spelled_linear w (number k ∷ closing ∷ after)) (omega (arith, deep, few))
          ∙ back.shallow most (count + 1) (number k ∷ closing ∷ after) (omega (arith, deep, few))
          ∙ pass most (count + 1) (number k) (closing ∷ after) (omega (arith, deep, few))
          ∙ close_step most count after (omega (arith, deep, few));
    }

-- ---- case by case

name_goes : (p m : Lists) → Knows p m → (x : Truth) → Goes p m (formulas.Name x)
unfolding Goes
name_goes p m kn x g =
    let known = subst (AllByRecursion (IsKnownTruth p)) (fold-Name names_step x) g.known in
    let deep = fold-Name depth_step x in
    let n = truth_name m x in
    let back : Back p m (formulas.Name x) (name n) = record {
      meaning = ap (λ (y : Truth). formulas.Name y) (truth_meaning p m kn x known.0);
      uses = λ after. passes p (use_as wants.Truth n) after (truth_use p m kn x known.0);
      words = λ after later. (truth_plain p m kn x known.0, later);
      shallow = λ most count after few. pass most count (word n) after (omega (arith, few));
    } in
    subst (Back p m (formulas.Name x)) (sym (fold-Name (written_step m) x)) back

negation_goes : (p m : Lists) (part : Formula) → Goes p m part → Goes p m (formulas.Not part)
unfolding Goes
negation_goes p m part goes g =
    let b : Back p m part (written_formula m part) = goes (record {
      known = subst (AllByRecursion (IsKnownTruth p)) (fold-Not names_step part) g.known;
      sides = subst (AllByRecursion (IsSide p)) (fold-Not comparisons_step part) g.sides;
      full = sym (fold-Not full_step part) ∙ g.full;
    }) in
    let w = written_formula m part in
    let deep : depth (formulas.Not part) ≡ 1 + depth part = fold-Not depth_step part in
    let back : Back p m (formulas.Not part) (negation w) = record {
      meaning = ap (λ (f : Formula). formulas.Not f) b.meaning;
      uses = b.uses;
      words = λ after later. (tt, ((omega arith, (refl, refl)), b.words (closing ∷ after) (tt, later)));
      shallow = λ most count after few.
          open_step most count (codes "not") (spelled w (closing ∷ after)) (omega (arith, deep, few))
          ∙ b.shallow most (count + 1) (closing ∷ after) (omega (arith, deep, few))
          ∙ close_step most count after (omega (arith, deep, few));
    } in
    subst (Back p m (formulas.Not part)) (sym (fold-Not (written_step m) part)) back

conjunction_goes : (p m : Lists) (parts : List Formula) → AllByRecursion (Goes p m) parts → Goes p m (formulas.And parts)
unfolding Goes
conjunction_goes p m [] all g = let e = sym (fold-And full_step []) ∙ g.full in cc
conjunction_goes p m (part ∷ parts) all g =
    subst (Back p m (formulas.And (part ∷ parts))) (sym (fold-And (written_step m) (part ∷ parts)))
    (joint_back p m joints.And part parts all (record {
      known = subst (AllByRecursion (IsKnownTruth p)) (fold-And names_step (part ∷ parts)) g.known;
      sides = subst (AllByRecursion (IsSide p)) (fold-And comparisons_step (part ∷ parts)) g.sides;
      full = (and_parts (nat_lt 0 (length (map is_full (part ∷ parts)))) (list_all (λ (one : Bool). one) (map is_full (part ∷ parts))) (sym (fold-And full_step (part ∷ parts)) ∙ g.full)).1;
    }))

disjunction_goes : (p m : Lists) (parts : List Formula) → AllByRecursion (Goes p m) parts → Goes p m (formulas.Or parts)
unfolding Goes
disjunction_goes p m [] all g = let e = sym (fold-Or full_step []) ∙ g.full in cc
disjunction_goes p m (part ∷ parts) all g =
    subst (Back p m (formulas.Or (part ∷ parts))) (sym (fold-Or (written_step m) (part ∷ parts)))
    (joint_back p m joints.Or part parts all (record {
      known = subst (AllByRecursion (IsKnownTruth p)) (fold-Or names_step (part ∷ parts)) g.known;
      sides = subst (AllByRecursion (IsSide p)) (fold-Or comparisons_step (part ∷ parts)) g.sides;
      full = (and_parts (nat_lt 0 (length (map is_full (part ∷ parts)))) (list_all (λ (one : Bool). one) (map is_full (part ∷ parts))) (sym (fold-Or full_step (part ∷ parts)) ∙ g.full)).1;
    }))

-- what is given of two parts
given_both : (p : Lists) (one other : Formula) → AllByRecursion (IsKnownTruth p) (formula_names one ++ formula_names other) → AllByRecursion (IsSide p) (comparisons one ++ comparisons other) → (is_full one && is_full other) ≡ true → Given p one × Given p other
given_both p one other known sides full =
    let k = split (IsKnownTruth p) (formula_names one) (formula_names other) known in
    let s = split (IsSide p) (comparisons one) (comparisons other) sides in
    let f = and_parts (is_full one) (is_full other) full in
    (record { known = k.0; sides = s.0; full = f.0 }, record { known = k.1; sides = s.1; full = f.1 })

implication_goes : (p m : Lists) (one other : Formula) → Goes p m one → Goes p m other → Goes p m (formulas.Implies one other)
unfolding Goes
implication_goes p m one other a b g =
    let given = given_both p one other (subst (AllByRecursion (IsKnownTruth p)) (fold-Implies names_step one other) g.known) (subst (AllByRecursion (IsSide p)) (fold-Implies comparisons_step one other) g.sides) (sym (fold-Implies full_step one other) ∙ g.full) in
    subst (Back p m (formulas.Implies one other)) (sym (fold-Implies (written_step m) one other))
    (pair_back p m pairings.Implies one other (written_formula m one) (written_formula m other) (a given.0) (b given.1))

equivalence_goes : (p m : Lists) (one other : Formula) → Goes p m one → Goes p m other → Goes p m (formulas.Iff one other)
unfolding Goes
equivalence_goes p m one other a b g =
    let given = given_both p one other (subst (AllByRecursion (IsKnownTruth p)) (fold-Iff names_step one other) g.known) (subst (AllByRecursion (IsSide p)) (fold-Iff comparisons_step one other) g.sides) (sym (fold-Iff full_step one other) ∙ g.full) in
    subst (Back p m (formulas.Iff one other)) (sym (fold-Iff (written_step m) one other))
    (pair_back p m pairings.Iff one other (written_formula m one) (written_formula m other) (a given.0) (b given.1))

at_most_goes : (p m : Lists) → Knows p m → (l : Linear) (k : ℤ) → Goes p m (formulas.AtMost l k)
unfolding Goes
at_most_goes p m kn l k g =
    subst (Back p m (formulas.AtMost l k)) (sym (fold-AtMost (written_step m) l k))
    (comparison_back p m kn comparison_words.AtMost l k (subst (AllByRecursion (IsSide p)) (fold-AtMost comparisons_step l k) g.sides) (sym (fold-AtMost full_step l k) ∙ g.full))

at_least_goes : (p m : Lists) → Knows p m → (l : Linear) (k : ℤ) → Goes p m (formulas.AtLeast l k)
unfolding Goes
at_least_goes p m kn l k g =
    subst (Back p m (formulas.AtLeast l k)) (sym (fold-AtLeast (written_step m) l k))
    (comparison_back p m kn comparison_words.AtLeast l k (subst (AllByRecursion (IsSide p)) (fold-AtLeast comparisons_step l k) g.sides) (sym (fold-AtLeast full_step l k) ∙ g.full))

equality_goes : (p m : Lists) → Knows p m → (l : Linear) (k : ℤ) → Goes p m (formulas.Equal l k)
unfolding Goes
equality_goes p m kn l k g =
    subst (Back p m (formulas.Equal l k)) (sym (fold-Equal (written_step m) l k))
    (comparison_back p m kn comparison_words.Equal l k (subst (AllByRecursion (IsSide p)) (fold-Equal comparisons_step l k) g.sides) (sym (fold-Equal full_step l k) ∙ g.full))

goes : (p m : Lists) → Knows p m → (f : Formula) → Goes p m f
goes p m kn f = by_cases (Goes p m) (record {
  name = name_goes p m kn;
  negation = negation_goes p m;
  conjunction = conjunction_goes p m;
  disjunction = disjunction_goes p m;
  implication = implication_goes p m;
  equivalence = equivalence_goes p m;
  at_most = at_most_goes p m kn;
  at_least = at_least_goes p m kn;
  equality = equality_goes p m kn;
}) f

pub formula_back : (p m : Lists) → Knows p m → (f : Formula) → Given p f → Back p m f (written_formula m f)
unfolding Goes
formula_back p m kn f given = goes p m kn f given
