-- Where few brackets are open at once in a formula's tokens, few are in its canonical text.
use Rattle.std.proofs.Common.{◌≡◌, ℕ, ◌+◌, ◌-◌, ◌≤◌, ℤ, pos, negsuc, max, Bool, true, false, nat_lt, ◌==◌, List, [], ◌∷◌, map, codes, if◌then◌else◌, refl, sym, subst, arith, true≢false}
use Rattle.std.proofs.lemmas.Bool.Decides.{nat_tests}
use Rattle.std.proofs.lemmas.Int.{clamps}
use Rattle.cgm_formula.specs.declared.formula.Formula.{Formula}
use Rattle.cgm_formula.specs.declared.formula.Linear.{Linear}
use Rattle.cgm_formula.specs.declared.formula.Number.{Number}
use Rattle.cgm_formula.specs.Nodes.{depth, depth_step, greatest, linear_depth, term_depth}
use Rattle.cgm_formula.proofs.Folds.{fold-Name, fold-Not, fold-And, fold-Or, fold-Implies, fold-Iff, fold-AtMost, fold-AtLeast, fold-Equal}
use Rattle.cgm_lex.specs.Lexemes.{Lexeme, opening, closing, number, word}
use Rattle.cgm_model.specs.declared.lists.Lists.{Lists}
use Rattle.cgm_print.specs.declared.words.Comparison.{Comparison}
use Rattle.cgm_print.specs.declared.words.Comparison.TheVariants as comparisons
use Rattle.cgm_print.specs.declared.words.Joint.{Joint}
use Rattle.cgm_print.specs.declared.words.Joint.TheVariants as joints
use Rattle.cgm_print.specs.declared.words.Pairing.{Pairing}
use Rattle.cgm_print.specs.declared.words.Pairing.TheVariants as pairings
use Rattle.cgm_text.specs.Meaning.{term_of, linear_of, formula_of, each_formula_of, joined_as, paired_as, compared_as, truth_named, number_named}
use Rattle.cgm_text.specs.Trees.{count_after, is_deeper}
use Rattle.cgm_print.specs.Written.{WrittenTerm, plain, scaled, WrittenLinear, single, total, WrittenFormula, name, negation, joined, paired, compared, WrittenFormulas, no_formulas, more_formulas, joint_word, pairing_word, comparison_word, spelled_term, spelled_terms, spelled_linear, spelled, spelled_each}

-- depths of formulas

depth_joined : (joint : Joint) (parts : List Formula) → depth (joined_as joint parts) ≡ 1 + greatest (map depth parts)
depth_joined joints.And parts = fold-And depth_step parts
depth_joined joints.Or parts = fold-Or depth_step parts

depth_paired : (pairing : Pairing) (one other : Formula) → depth (paired_as pairing one other) ≡ 1 + max (depth one) (depth other)
depth_paired pairings.Implies one other = fold-Implies depth_step one other
depth_paired pairings.Iff one other = fold-Iff depth_step one other

depth_compared : (comparison : Comparison) (l : Linear) (k : ℤ) → depth (compared_as comparison l k) ≡ 1 + linear_depth l.terms
depth_compared comparisons.AtMost l k = fold-AtMost depth_step l k
depth_compared comparisons.AtLeast l k = fold-AtLeast depth_step l k
depth_compared comparisons.Equal l k = fold-Equal depth_step l k

-- tokens

-- so many brackets are open at once at most, and after these tokens the rest is within the limit too
record Within (most count : ℕ) (deep : ℕ) (rest : List Lexeme) : Type 0 where
  fits : deep + count ≤ most
  more : is_deeper most count rest ≡ false

next_by : (most next : ℕ) (rest : List Lexeme) (test : Bool) → nat_lt most next ≡ test → (if test then true else is_deeper most next rest) ≡ false → Within most next 0 rest
next_by most next rest true t e = absurd (true≢false e)
next_by most next rest false t e = record { fits = grind (arith, nat_tests); more = e }

next : (most count : ℕ) (t : Lexeme) (rest : List Lexeme) → is_deeper most count (t ∷ rest) ≡ false → Within most (count_after t count) 0 rest
next most count t rest e = next_by most (count_after t count) rest (nat_lt most (count_after t count)) refl e

one_less : (count : ℕ) → (count + 1) - 1 ≡ count
one_less count = omega arith

close : (most count : ℕ) (rest : List Lexeme) → is_deeper most (count + 1) (closing ∷ rest) ≡ false → Within most count 0 rest
close most count rest e =
    subst (λ c. Within most c 0 rest) (one_less count) (next most (count + 1) closing rest e)

opened : (most count : ℕ) → 0 + (count + 1) ≤ most → count + 1 ≤ most
opened most count h = omega (arith, h)

-- terms

bit : (b : Bool) → (if b then 0 else 1) ≤ 1
bit true = omega arith
bit false = omega arith

term_one : (k : ℤ) (x : Number) → term_depth (k, x) ≤ 1
term_one (pos n) x = bit (n == 1)
term_one (negsuc n) x = omega arith

term_within : (m : Lists) (most count : ℕ) (t : WrittenTerm) (rest : List Lexeme) → is_deeper most count (spelled_term t rest) ≡ false → Within most count (term_depth (term_of m t)) rest
term_within m most count (plain x) rest e = next most count (word x) rest e
term_within m most count (scaled k x) rest e =
    let after_x = closing ∷ rest in
    let after_k = word x ∷ after_x in
    let after_star = number k ∷ after_k in
    let open_ = next most count opening (word (codes "*") ∷ after_star) e in
    let star = next most (count + 1) (word (codes "*")) after_star open_.more in
    let coefficient = next most (count + 1) (number k) after_k star.more in
    let used = next most (count + 1) (word x) after_x coefficient.more in
    let closed = close most count rest used.more in
    let small = term_one k (number_named m x) in
    let fits = open_.fits in
    record { fits = omega (arith, small, fits); more = closed.more }

terms_within : (m : Lists) (most count : ℕ) (ts : List WrittenTerm) (rest : List Lexeme) → count ≤ most → is_deeper most count (spelled_terms ts rest) ≡ false → Within most count (greatest (map term_depth (map (term_of m) ts))) rest
terms_within m most count [] rest h e = record { fits = omega (arith, h); more = e }
terms_within m most count (t ∷ ts) rest h e =
    let first = term_within m most count t (spelled_terms ts rest) e in
    let others = terms_within m most count ts rest h first.more in
    let fits_first = first.fits in
    let fits_others = others.fits in
    record { fits = omega (arith, clamps, fits_first, fits_others); more = others.more }

total_depth : (t : ℤ × Number) (ts : List (ℤ × Number)) → linear_depth (t ∷ ts) ≤ 1 + max (term_depth t) (greatest (map term_depth ts))
total_depth t [] = omega (arith, clamps)
total_depth t (u ∷ ts) = omega (arith, clamps)

linear_within : (m : Lists) (most count : ℕ) (l : WrittenLinear) (rest : List Lexeme) → is_deeper most count (spelled_linear l rest) ≡ false → Within most count (linear_depth (linear_of m l).terms) rest
linear_within m most count (single t) rest e = term_within m most count t rest e
linear_within m most count (total t ts) rest e =
    let inside = spelled_term t (spelled_terms ts (closing ∷ rest)) in
    let open_ = next most count opening (word (codes "+") ∷ inside) e in
    let plus = next most (count + 1) (word (codes "+")) inside open_.more in
    let first = term_within m most (count + 1) t (spelled_terms ts (closing ∷ rest)) plus.more in
    let others = terms_within m most (count + 1) ts (closing ∷ rest) (opened most count open_.fits) first.more in
    let closed = close most count rest others.more in
    let fits_first = first.fits in
    let fits_others = others.fits in
    let deep = total_depth (term_of m t) (map (term_of m) ts) in
    record { fits = omega (arith, clamps, deep, fits_first, fits_others); more = closed.more }

-- formulas

mutual
  formula_within : (m : Lists) (most count : ℕ) (f : WrittenFormula) (rest : List Lexeme) → is_deeper most count (spelled f rest) ≡ false → Within most count (depth (formula_of m f)) rest
  formula_within m most count (name x) rest e =
      subst (λ d. Within most count d rest) (sym (fold-Name depth_step (truth_named m x))) (next most count (word x) rest e)
  formula_within m most count (negation part) rest e =
      let tokens = spelled part (closing ∷ rest) in
      let open_ = next most count opening (word (codes "not") ∷ tokens) e in
      let head = next most (count + 1) (word (codes "not")) tokens open_.more in
      let inside = formula_within m most (count + 1) part (closing ∷ rest) head.more in
      let closed = close most count rest inside.more in
      let fits = inside.fits in
      let deep = fold-Not depth_step (formula_of m part) in
      record { fits = omega (arith, fits, deep); more = closed.more }
  formula_within m most count (joined joint part parts) rest e =
      let tokens = spelled part (spelled_each parts (closing ∷ rest)) in
      let open_ = next most count opening (word (joint_word joint) ∷ tokens) e in
      let head = next most (count + 1) (word (joint_word joint)) tokens open_.more in
      let first = formula_within m most (count + 1) part (spelled_each parts (closing ∷ rest)) head.more in
      let others = formulas_within m most (count + 1) parts (closing ∷ rest) (opened most count open_.fits) first.more in
      let closed = close most count rest others.more in
      let fits_first = first.fits in
      let fits_others = others.fits in
      let deep = depth_joined joint (formula_of m part ∷ each_formula_of m parts) in
      record { fits = omega (arith, clamps, deep, fits_first, fits_others); more = closed.more }
  formula_within m most count (paired pairing one other) rest e =
      let tokens = spelled one (spelled other (closing ∷ rest)) in
      let open_ = next most count opening (word (pairing_word pairing) ∷ tokens) e in
      let head = next most (count + 1) (word (pairing_word pairing)) tokens open_.more in
      let first = formula_within m most (count + 1) one (spelled other (closing ∷ rest)) head.more in
      let second = formula_within m most (count + 1) other (closing ∷ rest) first.more in
      let closed = close most count rest second.more in
      let fits_first = first.fits in
      let fits_second = second.fits in
      let deep = depth_paired pairing (formula_of m one) (formula_of m other) in
      record { fits = omega (arith, clamps, deep, fits_first, fits_second); more = closed.more }
  formula_within m most count (compared comparison linear k) rest e =
      let tokens = spelled_linear linear (number k ∷ closing ∷ rest) in
      let open_ = next most count opening (word (comparison_word comparison) ∷ tokens) e in
      let head = next most (count + 1) (word (comparison_word comparison)) tokens open_.more in
      let left = linear_within m most (count + 1) linear (number k ∷ closing ∷ rest) head.more in
      let right = next most (count + 1) (number k) (closing ∷ rest) left.more in
      let closed = close most count rest right.more in
      let fits = left.fits in
      let deep = depth_compared comparison (linear_of m linear) k in
      record { fits = omega (arith, deep, fits); more = closed.more }

  formulas_within : (m : Lists) (most count : ℕ) (fs : WrittenFormulas) (rest : List Lexeme) → count ≤ most → is_deeper most count (spelled_each fs rest) ≡ false → Within most count (greatest (map depth (each_formula_of m fs))) rest
  formulas_within m most count no_formulas rest h e = record { fits = omega (arith, h); more = e }
  formulas_within m most count (more_formulas part parts) rest h e =
      let first = formula_within m most count part (spelled_each parts rest) e in
      let others = formulas_within m most count parts rest h first.more in
      let fits_first = first.fits in
      let fits_others = others.fits in
      record { fits = omega (arith, clamps, fits_first, fits_others); more = others.more }

pub depth_is_few : (m : Lists) (most : ℕ) (f : WrittenFormula) → is_deeper most 0 (spelled f []) ≡ false → depth (formula_of m f) ≤ most
depth_is_few m most f e =
    let within = formula_within m most 0 f [] e in
    let fits = within.fits in
    omega (arith, fits)

-- the tokens after a word are no deeper
pub shallow_after : (most : ℕ) (x : List ℕ) (rest : List Lexeme) → is_deeper most 0 (word x ∷ rest) ≡ false → is_deeper most 0 rest ≡ false
shallow_after most x rest e =
    let after = next most 0 (word x) rest e in
    after.more
