-- Formulas: their tokens tell them, and what begins with none.
use Rattle.std.proofs.Common.{◌≡◌, ◌≢◌, ℕ, ℤ, List, [], ◌∷◌, ◌++◌, map, codes, bytes_eq, Option, None, Some, if◌then◌else◌, refl, ap, ◌∙◌, sym}
use Rattle.cgm_lex.specs.Lexemes.{Lexeme, opening, closing, colon, number, word}
use Rattle.cgm_print.specs.declared.words.Joint.{Joint}
use Rattle.cgm_print.specs.declared.words.Joint.TheVariants as joints
use Rattle.cgm_print.specs.declared.words.Pairing.{Pairing}
use Rattle.cgm_print.specs.declared.words.Pairing.TheVariants as pairings
use Rattle.cgm_print.specs.declared.words.Comparison.{Comparison}
use Rattle.cgm_print.specs.declared.words.Comparison.TheVariants as comparisons
use Rattle.cgm_text.specs.declared.written.Connective.{Connective}
use Rattle.cgm_text.specs.declared.written.Connective.TheVariants.{Not, Join, Pair, Compare}
use Rattle.std.proofs.lemmas.List.{map_push}
use Rattle.cgm_text.specs.declared.written.Tree.{Tree}
use Rattle.cgm_text.specs.Trees.{formula_in}
use Rattle.cgm_print.specs.Written.{WrittenLinear, WrittenFormula, name, negation, joined, paired, compared, WrittenFormulas, no_formulas, more_formulas, spelled, spelled_each, spelled_linear, joint_word, pairing_word, comparison_word, formulas_of}
use Rattle.cgm_text.proofs.Terms.{linear_once}
use Rattle.cgm_text.specs.Parsed.{connective_word, BeginsNoLinear, BeginsNoFormula, BeginsNoParts}

-- the connective with this word
abbrev connective_in : List ℕ → Option Connective
connective_in w =
    if bytes_eq w (codes "not") then Some Not
    else if bytes_eq w (codes "and") then Some (Join joints.And)
    else if bytes_eq w (codes "or") then Some (Join joints.Or)
    else if bytes_eq w (codes "=>") then Some (Pair pairings.Implies)
    else if bytes_eq w (codes "iff") then Some (Pair pairings.Iff)
    else if bytes_eq w (codes "<=") then Some (Compare comparisons.AtMost)
    else if bytes_eq w (codes ">=") then Some (Compare comparisons.AtLeast)
    else if bytes_eq w (codes "=") then Some (Compare comparisons.Equal)
    else None

known : (c : Connective) → connective_in (connective_word c) ≡ Some c
known Not = refl
known (Join joints.And) = refl
known (Join joints.Or) = refl
known (Pair pairings.Implies) = refl
known (Pair pairings.Iff) = refl
known (Compare comparisons.AtMost) = refl
known (Compare comparisons.AtLeast) = refl
known (Compare comparisons.Equal) = refl

-- the connective that a formula begins with, and that tokens begin with
abbrev head : WrittenFormula → Option Connective
head (name x) = None
head (negation part) = Some Not
head (joined joint part parts) = Some (Join joint)
head (paired pairing one other) = Some (Pair pairing)
head (compared comparison linear k) = Some (Compare comparison)

abbrev second : List Lexeme → Option Connective
second [] = None
second (opening ∷ more) = None
second (closing ∷ more) = None
second (colon ∷ more) = None
second (number k ∷ more) = None
second (word w ∷ more) = connective_in w

abbrev keyword_of : List Lexeme → Option Connective
keyword_of [] = None
keyword_of (opening ∷ more) = second more
keyword_of (closing ∷ more) = None
keyword_of (colon ∷ more) = None
keyword_of (number k ∷ more) = None
keyword_of (word w ∷ more) = None

keyword_is : (f : WrittenFormula) (after : List Lexeme) → keyword_of (spelled f after) ≡ head f
keyword_is (name x) after = refl
keyword_is (negation part) after = known Not
keyword_is (joined joint part parts) after = known (Join joint)
keyword_is (paired pairing one other) after = known (Pair pairing)
keyword_is (compared comparison linear k) after = known (Compare comparison)

heads : (f g : WrittenFormula) (x y : List Lexeme) → spelled f x ≡ spelled g y → head f ≡ head g
heads f g x y e = sym (keyword_is f x) ∙ ap keyword_of e ∙ keyword_is g y

headed : (c : Connective) (tokens : List Lexeme) (g : WrittenFormula) (after : List Lexeme) → opening ∷ word (connective_word c) ∷ tokens ≡ spelled g after → Some c ≡ head g
headed c tokens g after e = sym (known c) ∙ ap keyword_of e ∙ keyword_is g after

opens : (f : WrittenFormula) (x y : List Lexeme) → spelled f x ≡ closing ∷ y → ⊥
opens (name a) x y e = cc
opens (negation part) x y e = cc
opens (joined joint part parts) x y e = cc
opens (paired pairing one other) x y e = cc
opens (compared comparison linear k) x y e = cc

mutual
  -- tokens begin with one formula at most
  pub once : (f g : WrittenFormula) (x y : List Lexeme) → spelled f x ≡ spelled g y → (f ≡ g) × (x ≡ y)
  once (name a) (name b) x y e = (cc, cc)
  once (negation f) (negation g) x y e =
      let inside : spelled f (closing ∷ x) ≡ spelled g (closing ∷ y) = cc in
      let same = once f g (closing ∷ x) (closing ∷ y) inside in
      let rest = same.1 in
      (ap negation same.0, cc)
  once (joined j f fs) (joined k g gs) x y e =
      let h : Some (Join j) ≡ Some (Join k) = heads (joined j f fs) (joined k g gs) x y e in
      let inside : spelled f (spelled_each fs (closing ∷ x)) ≡ spelled g (spelled_each gs (closing ∷ y)) = cc in
      let first = once f g (spelled_each fs (closing ∷ x)) (spelled_each gs (closing ∷ y)) inside in
      let others = each_once fs gs x y first.1 in
      (cc, others.1)
  once (paired j f f') (paired k g g') x y e =
      let h : Some (Pair j) ≡ Some (Pair k) = heads (paired j f f') (paired k g g') x y e in
      let inside : spelled f (spelled f' (closing ∷ x)) ≡ spelled g (spelled g' (closing ∷ y)) = cc in
      let first = once f g (spelled f' (closing ∷ x)) (spelled g' (closing ∷ y)) inside in
      let other = once f' g' (closing ∷ x) (closing ∷ y) first.1 in
      let rest = other.1 in
      (cc, cc)
  once (compared j l m) (compared k l' n) x y e =
      let h : Some (Compare j) ≡ Some (Compare k) = heads (compared j l m) (compared k l' n) x y e in
      let inside : spelled_linear l (number m ∷ closing ∷ x) ≡ spelled_linear l' (number n ∷ closing ∷ y) = cc in
      let first = linear_once l l' (number m ∷ closing ∷ x) (number n ∷ closing ∷ y) inside in
      let rest = first.1 in
      (cc, cc)
  once f g x y e = let h = heads f g x y e in cc

  each_once : (fs gs : WrittenFormulas) (x y : List Lexeme) → spelled_each fs (closing ∷ x) ≡ spelled_each gs (closing ∷ y) → (fs ≡ gs) × (x ≡ y)
  each_once no_formulas no_formulas x y e = (refl, cc)
  each_once no_formulas (more_formulas g gs) x y e = absurd (opens g (spelled_each gs (closing ∷ y)) x (sym e))
  each_once (more_formulas f fs) no_formulas x y e = absurd (opens f (spelled_each fs (closing ∷ x)) y e)
  each_once (more_formulas f fs) (more_formulas g gs) x y e =
      let first = once f g (spelled_each fs (closing ∷ x)) (spelled_each gs (closing ∷ y)) e in
      let others = each_once fs gs x y first.1 in
      (cc, others.1)

abbrev pub Unclosed : List Lexeme → Type 0
Unclosed tokens = (x : List Lexeme) → tokens ≢ closing ∷ x

pub no_start : (tokens : List Lexeme) → ((w : List ℕ) (x : List Lexeme) → tokens ≢ word w ∷ x) → ((x : List Lexeme) → tokens ≢ opening ∷ x) → BeginsNoFormula tokens
no_start tokens no_word no_bracket (name a) after e = no_word a after e
no_start tokens no_word no_bracket (negation part) after e = no_bracket (word (codes "not") ∷ spelled part (closing ∷ after)) e
no_start tokens no_word no_bracket (joined joint part parts) after e = no_bracket (word (joint_word joint) ∷ spelled part (spelled_each parts (closing ∷ after))) e
no_start tokens no_word no_bracket (paired pairing one other) after e = no_bracket (word (pairing_word pairing) ∷ spelled one (spelled other (closing ∷ after))) e
no_start tokens no_word no_bracket (compared comparison linear k) after e = no_bracket (word (comparison_word comparison) ∷ spelled_linear linear (number k ∷ closing ∷ after)) e

pub no_connective : (tokens : List Lexeme) → ((c : Connective) (x : List Lexeme) → tokens ≢ word (connective_word c) ∷ x) → BeginsNoFormula (opening ∷ tokens)
no_connective tokens none (name a) after e = cc
no_connective tokens none (negation part) after e = none Not (spelled part (closing ∷ after)) cc
no_connective tokens none (joined joint part parts) after e = none (Join joint) (spelled part (spelled_each parts (closing ∷ after))) cc
no_connective tokens none (paired pairing one other) after e = none (Pair pairing) (spelled one (spelled other (closing ∷ after))) cc
no_connective tokens none (compared comparison linear k) after e = none (Compare comparison) (spelled_linear linear (number k ∷ closing ∷ after)) cc

pub no_negation : (tokens : List Lexeme) → BeginsNoFormula tokens → BeginsNoFormula (opening ∷ word (codes "not") ∷ tokens)
no_negation tokens none (negation g) after e = none g (closing ∷ after) cc
no_negation tokens none g after e = let h = headed Not tokens g after e in cc

pub no_negation_end : (part : WrittenFormula) (tokens rest : List Lexeme) → tokens ≡ spelled part rest → Unclosed rest → BeginsNoFormula (opening ∷ word (codes "not") ∷ tokens)
no_negation_end part tokens rest so_far unclosed (negation g) after e =
    let inside : tokens ≡ spelled g (closing ∷ after) = cc in
    unclosed after (once part g rest (closing ∷ after) (sym so_far ∙ inside)).1
no_negation_end part tokens rest so_far unclosed g after e = let h = headed Not tokens g after e in cc

pub no_joint : (joint : Joint) (tokens : List Lexeme) → BeginsNoFormula tokens → BeginsNoFormula (opening ∷ word (joint_word joint) ∷ tokens)
no_joint joint tokens none (joined k g gs) after e = none g (spelled_each gs (closing ∷ after)) cc
no_joint joint tokens none g after e = let h = headed (Join joint) tokens g after e in cc

each_end : (fs gs : WrittenFormulas) (rest after : List Lexeme) → BeginsNoFormula rest → Unclosed rest → spelled_each fs rest ≡ spelled_each gs (closing ∷ after) → ⊥
each_end no_formulas no_formulas rest after none unclosed e = unclosed after e
each_end no_formulas (more_formulas g gs) rest after none unclosed e = none g (spelled_each gs (closing ∷ after)) e
each_end (more_formulas f fs) no_formulas rest after none unclosed e = opens f (spelled_each fs rest) after e
each_end (more_formulas f fs) (more_formulas g gs) rest after none unclosed e =
    each_end fs gs rest after none unclosed (once f g (spelled_each fs rest) (spelled_each gs (closing ∷ after)) e).1

-- formulas that are followed by neither a formula nor a closing bracket
pub no_parts_end : (others : WrittenFormulas) (tokens rest : List Lexeme) → tokens ≡ spelled_each others rest → BeginsNoFormula rest → Unclosed rest → BeginsNoParts tokens
no_parts_end others tokens rest so_far none unclosed gs after e = each_end others gs rest after none unclosed (sym so_far ∙ e)

pub no_joint_parts : (joint : Joint) (first : WrittenFormula) (tokens rest : List Lexeme) → tokens ≡ spelled first rest → BeginsNoParts rest → BeginsNoFormula (opening ∷ word (joint_word joint) ∷ tokens)
no_joint_parts joint first tokens rest so_far none (joined k g gs) after e =
    let inside : tokens ≡ spelled g (spelled_each gs (closing ∷ after)) = cc in
    none gs after (once first g rest (spelled_each gs (closing ∷ after)) (sym so_far ∙ inside)).1
no_joint_parts joint first tokens rest so_far none g after e = let h = headed (Join joint) tokens g after e in cc

-- one more part
pub each_push : (fs : List WrittenFormula) (f : WrittenFormula) (rest : List Lexeme) → spelled_each (formulas_of (fs ++ f ∷ [])) rest ≡ spelled_each (formulas_of fs) (spelled f rest)
each_push [] f rest = refl
each_push (g ∷ fs) f rest = ap (spelled g) (each_push fs f rest)

pub no_pairing : (pairing : Pairing) (tokens : List Lexeme) → BeginsNoFormula tokens → BeginsNoFormula (opening ∷ word (pairing_word pairing) ∷ tokens)
no_pairing pairing tokens none (paired k g g') after e = none g (spelled g' (closing ∷ after)) cc
no_pairing pairing tokens none g after e = let h = headed (Pair pairing) tokens g after e in cc

pub no_pairing_other : (pairing : Pairing) (one : WrittenFormula) (tokens rest : List Lexeme) → tokens ≡ spelled one rest → BeginsNoFormula rest → BeginsNoFormula (opening ∷ word (pairing_word pairing) ∷ tokens)
no_pairing_other pairing one tokens rest so_far none (paired k g g') after e =
    let inside : tokens ≡ spelled g (spelled g' (closing ∷ after)) = cc in
    none g' (closing ∷ after) (once one g rest (spelled g' (closing ∷ after)) (sym so_far ∙ inside)).1
no_pairing_other pairing one tokens rest so_far none g after e = let h = headed (Pair pairing) tokens g after e in cc

pub no_pairing_end : (pairing : Pairing) (one other : WrittenFormula) (tokens middle rest : List Lexeme) → tokens ≡ spelled one middle → middle ≡ spelled other rest → Unclosed rest → BeginsNoFormula (opening ∷ word (pairing_word pairing) ∷ tokens)
no_pairing_end pairing one other tokens middle rest so_far more unclosed (paired k g g') after e =
    let inside : tokens ≡ spelled g (spelled g' (closing ∷ after)) = cc in
    let first = (once one g middle (spelled g' (closing ∷ after)) (sym so_far ∙ inside)).1 in
    unclosed after (once other g' rest (closing ∷ after) (sym more ∙ first)).1
no_pairing_end pairing one other tokens middle rest so_far more unclosed g after e =
    let h = headed (Pair pairing) tokens g after e in cc

pub no_comparison : (comparison : Comparison) (tokens : List Lexeme) → BeginsNoLinear tokens → BeginsNoFormula (opening ∷ word (comparison_word comparison) ∷ tokens)
no_comparison comparison tokens none (compared k l n) after e = none l (number n ∷ closing ∷ after) cc
no_comparison comparison tokens none g after e = let h = headed (Compare comparison) tokens g after e in cc

pub no_comparison_bound : (comparison : Comparison) (linear : WrittenLinear) (tokens rest : List Lexeme) → tokens ≡ spelled_linear linear rest → ((k : ℤ) (x : List Lexeme) → rest ≢ number k ∷ closing ∷ x) → BeginsNoFormula (opening ∷ word (comparison_word comparison) ∷ tokens)
no_comparison_bound comparison linear tokens rest so_far none (compared k l n) after e =
    let inside : tokens ≡ spelled_linear l (number n ∷ closing ∷ after) = cc in
    none n after (linear_once linear l rest (number n ∷ closing ∷ after) (sym so_far ∙ inside)).1
no_comparison_bound comparison linear tokens rest so_far none g after e = let h = headed (Compare comparison) tokens g after e in cc

-- parts so far that are followed by one more
pub parts_more : (line : List ℕ) (others new : List Tree) (next : Tree) (tokens rest after : List Lexeme) → new ≡ others ++ next ∷ [] → tokens ≡ spelled_each (formulas_of (map (formula_in line) others)) rest → rest ≡ spelled (formula_in line next) after → tokens ≡ spelled_each (formulas_of (map (formula_in line) new)) after
parts_more line others new next tokens rest after pushed so_far more =
    let parts = map (formula_in line) others in
    let mapped = ap (map (formula_in line)) pushed ∙ map_push (formula_in line) others next in
    let each = ap (spelled_each (formulas_of parts)) more ∙ sym (each_push parts (formula_in line next) after) in
    so_far ∙ (each ∙ ap (λ fs. spelled_each (formulas_of fs) after) (sym mapped))

-- the tokens of a negation, of a conjunction or disjunction, of an implication or equivalence
pub negation_found : (tree part : WrittenFormula) (tokens rest after : List Lexeme) → tree ≡ negation part → tokens ≡ spelled part rest → rest ≡ closing ∷ after → opening ∷ word (codes "not") ∷ tokens ≡ spelled tree after
negation_found tree part tokens rest after is found closes =
    ap (λ ts. opening ∷ word (codes "not") ∷ ts) (found ∙ ap (spelled part) closes) ∙ ap (λ f. spelled f after) (sym is)

pub joint_found : (joint : Joint) (tree first : WrittenFormula) (others : WrittenFormulas) (tokens rest after : List Lexeme) → tree ≡ joined joint first others → tokens ≡ spelled first rest → rest ≡ spelled_each others (closing ∷ after) → opening ∷ word (joint_word joint) ∷ tokens ≡ spelled tree after
joint_found joint tree first others tokens rest after is found more =
    ap (λ ts. opening ∷ word (joint_word joint) ∷ ts) (found ∙ ap (spelled first) more) ∙ ap (λ f. spelled f after) (sym is)

pub pairing_found : (pairing : Pairing) (tree one other : WrittenFormula) (tokens middle rest after : List Lexeme) → tree ≡ paired pairing one other → tokens ≡ spelled one middle → middle ≡ spelled other rest → rest ≡ closing ∷ after → opening ∷ word (pairing_word pairing) ∷ tokens ≡ spelled tree after
pairing_found pairing tree one other tokens middle rest after is found more closes =
    ap (λ ts. opening ∷ word (pairing_word pairing) ∷ ts) (found ∙ ap (spelled one) (more ∙ ap (spelled other) closes)) ∙ ap (λ f. spelled f after) (sym is)
