-- What is written part by part is what the whole is written as.
use Rattle.std.proofs.Common.{◌≡◌, ◌≢◌, ℕ, zero, suc, ◌+◌, ◌<◌, ◌≤◌, ℤ, pos, Bool, true, false, List, [], ◌∷◌, length, map, drop, get_or, slice_get, codes, None, Some, Result, refl, sym, ap, ◌∙◌, subst, arith, OnOk}
use Rattle.std.specs.Ordering.{int_eq}
use Rattle.std.proofs.lemmas.Bool.Decides.{Decides-int_eq}
use Rattle.std.proofs.lemmas.List.{drop_more}
use Rattle.std.proofs.lemmas.Option.{none-some, same_Some}
use Rattle.std.proofs.lemmas.Result.{on_ok_weaker}
use Rattle.cgm_formula.specs.declared.formula.Formula.{Formula}
use Rattle.cgm_formula.specs.declared.formula.Formula.TheVariants as formulas
use Rattle.cgm_formula.specs.declared.formula.Linear.{Linear}
use Rattle.cgm_formula.specs.declared.formula.Number.{Number}
use Rattle.cgm_formula.proofs.Folds.{fold-And, fold-Or, fold-Implies, fold-Iff, fold-AtMost, fold-AtLeast, fold-Equal}
use Rattle.cgm_lex.specs.Lexemes.{Lexeme, opening, closing, number, word}
use Rattle.cgm_model.specs.declared.lists.Lists.{Lists}
use Rattle.cgm_print.specs.declared.printer.Printer.{Printer}
use Rattle.cgm_print.specs.declared.words.Comparison.TheVariants as comparisons
use Rattle.cgm_print.specs.declared.words.Joint.{Joint}
use Rattle.cgm_print.specs.declared.words.Joint.TheVariants as joints
use Rattle.cgm_print.specs.declared.words.Pairing.{Pairing}
use Rattle.cgm_print.specs.declared.words.Pairing.TheVariants as pairings
use Rattle.cgm_print.specs.Canonical.{joined_with, name_at, number_name, written_formula, written_linear, written_step, written_term}
use Rattle.cgm_print.specs.Printing.{Writes, text_followed}
use Rattle.cgm_print.specs.Written.{WrittenFormula, plain, scaled, paired, compared, joint_word, pairing_word, spelled, spelled_each, spelled_linear, spelled_term, spelled_terms, formulas_of}

-- names

none_at : {X : Type 0} (f : X → List ℕ) (xs : List X) (k : ℕ) → None ≡ slice_get xs k → [] ≡ name_at (map f xs) k
none_at f [] k e = refl
none_at f (x ∷ xs) zero e = absurd (none-some x e)
none_at f (x ∷ xs) (suc k) e = none_at f xs k e

some_at : {X : Type 0} (f : X → List ℕ) (xs : List X) (k : ℕ) (x : X) → Some x ≡ slice_get xs k → f x ≡ name_at (map f xs) k
some_at f [] k x e = absurd (none-some x (sym e))
some_at f (y ∷ xs) zero x e = ap f (same_Some x y e)
some_at f (y ∷ xs) (suc k) x e = some_at f xs k x e

pub none_named : {X : Type 0} (f : X → List ℕ) (xs ys : List X) (k : ℕ) → None ≡ slice_get xs k → xs ≡ ys → [] ≡ name_at (map f ys) k
none_named {X} f xs ys k e same = none_at f xs k e ∙ ap (λ (zs : List X). name_at (map f zs) k) same

pub some_named : {X : Type 0} (f : X → List ℕ) (xs ys : List X) (k : ℕ) (x : X) → Some x ≡ slice_get xs k → xs ≡ ys → f x ≡ name_at (map f ys) k
some_named {X} f xs ys k x e same = some_at f xs k x e ∙ ap (λ (zs : List X). name_at (map f zs) k) same

-- steps

pub then_ : (a b c : Printer) (f g : List Lexeme → List Lexeme) → Writes a b f → Writes b c g → Writes a c (λ after. f (g after))
then_ a b c f g first second after = second after ∙ first (g after)

pub finish : {E : Type 0} (r : Result (Unit {0}) E) (a b c : Printer) (f g whole : List Lexeme → List Lexeme) → ((after : List Lexeme) → f (g after) ≡ whole after) → Writes a b f → OnOk r (Writes b c g) → OnOk r (Writes a c whole)
finish r a b c f g whole same first last =
    on_ok_weaker r (λ (second : Writes b c g). λ after. second after ∙ first (g after) ∙ ap (text_followed a) (same after)) last

pub alike : {E : Type 0} (r : Result (Unit {0}) E) (a b : Printer) (f whole : List Lexeme → List Lexeme) → ((after : List Lexeme) → f after ≡ whole after) → OnOk r (Writes a b f) → OnOk r (Writes a b whole)
alike r a b f whole same last =
    on_ok_weaker r (λ (only : Writes a b f). λ after. only after ∙ ap (text_followed a) (same after)) last

-- terms

term_is_plain : (m : Lists) (t : ℤ × Number) → t.0 ≡ pos 1 → written_term m t ≡ plain (number_name m t.1)
term_is_plain m t e = rw ((Decides-int_eq t.0 (pos 1)).1 e) refl

scaled_by : (m : Lists) (t : ℤ × Number) (one : Bool) → int_eq t.0 (pos 1) ≡ one → t.0 ≢ pos 1 → written_term m t ≡ scaled t.0 (number_name m t.1)
scaled_by m t true e h = absurd (h ((Decides-int_eq t.0 (pos 1)).0 e))
scaled_by m t false e h = rw e refl

pub plain_printed : (m : Lists) (t : ℤ × Number) (x : List ℕ) (after : List Lexeme) → x ≡ number_name m t.1 → t.0 ≡ pos 1 → word x ∷ after ≡ spelled_term (written_term m t) after
plain_printed m t x after named one =
    ap (λ (n : List ℕ). word n ∷ after) named ∙ sym (ap (λ w. spelled_term w after) (term_is_plain m t one))

pub scaled_printed : (m : Lists) (t : ℤ × Number) (x : List ℕ) (after : List Lexeme) → x ≡ number_name m t.1 → t.0 ≢ pos 1 → opening ∷ word (codes "*") ∷ number t.0 ∷ word x ∷ closing ∷ after ≡ spelled_term (written_term m t) after
scaled_printed m t x after named other =
    ap (λ (n : List ℕ). opening ∷ word (codes "*") ∷ number t.0 ∷ word n ∷ closing ∷ after) named
    ∙ sym (ap (λ w. spelled_term w after) (scaled_by m t (int_eq t.0 (pos 1)) refl other))

pub one_term : (m : Lists) (ts : List (ℤ × Number)) (after : List Lexeme) → 1 ≤ length ts → length ts < 2 → spelled_terms (map (written_term m) ts) after ≡ spelled_linear (written_linear m ts) after
one_term m [] after some few = absurd (omega arith)
one_term m (t ∷ []) after some few = refl
one_term m (t ∷ u ∷ ts) after some few = absurd (omega arith)

pub many_terms : (m : Lists) (ts : List (ℤ × Number)) (after : List Lexeme) → 2 ≤ length ts → opening ∷ word (codes "+") ∷ spelled_terms (map (written_term m) ts) (closing ∷ after) ≡ spelled_linear (written_linear m ts) after
many_terms m [] after many = absurd (omega arith)
many_terms m (t ∷ []) after many = absurd (omega arith)
many_terms m (t ∷ u ∷ ts) after many = refl

-- formulas

pub some_parts : (m : Lists) (joint : Joint) (parts : List Formula) (after : List Lexeme) → 1 ≤ length parts → opening ∷ word (joint_word joint) ∷ spelled_each (formulas_of (map (written_formula m) parts)) (closing ∷ after) ≡ spelled (joined_with joint (map (written_formula m) parts)) after
some_parts m joint [] after some = absurd (omega arith)
some_parts m joint (part ∷ parts) after some = refl

pub same_written : {E : Type 0} (r : Result (Unit {0}) E) (a b : Printer) (v w : WrittenFormula) → v ≡ w → OnOk r (Writes a b (spelled v)) → OnOk r (Writes a b (spelled w))
same_written r a b v w e h = subst (λ (u : WrittenFormula). OnOk r (Writes a b (spelled u))) e h

pub and_is : (m : Lists) (f : Formula) (parts slice : List Formula) → f ≡ formulas.And parts → slice ≡ parts → joined_with joints.And (map (written_formula m) slice) ≡ written_formula m f
and_is m f parts slice is e =
    ap (λ (ps : List Formula). joined_with joints.And (map (written_formula m) ps)) e ∙ sym (fold-And (written_step m) parts) ∙ ap (written_formula m) (sym is)

pub or_is : (m : Lists) (f : Formula) (parts slice : List Formula) → f ≡ formulas.Or parts → slice ≡ parts → joined_with joints.Or (map (written_formula m) slice) ≡ written_formula m f
or_is m f parts slice is e =
    ap (λ (ps : List Formula). joined_with joints.Or (map (written_formula m) ps)) e ∙ sym (fold-Or (written_step m) parts) ∙ ap (written_formula m) (sym is)

pub implies_is : (m : Lists) (f one other : Formula) → f ≡ formulas.Implies one other → paired pairings.Implies (written_formula m one) (written_formula m other) ≡ written_formula m f
implies_is m f one other is = sym (fold-Implies (written_step m) one other) ∙ ap (written_formula m) (sym is)

pub iff_is : (m : Lists) (f one other : Formula) → f ≡ formulas.Iff one other → paired pairings.Iff (written_formula m one) (written_formula m other) ≡ written_formula m f
iff_is m f one other is = sym (fold-Iff (written_step m) one other) ∙ ap (written_formula m) (sym is)

pub at_most_is : (m : Lists) (f : Formula) (l : Linear) (k : ℤ) → f ≡ formulas.AtMost l k → compared comparisons.AtMost (written_linear m l.terms) k ≡ written_formula m f
at_most_is m f l k is = sym (fold-AtMost (written_step m) l k) ∙ ap (written_formula m) (sym is)

pub at_least_is : (m : Lists) (f : Formula) (l : Linear) (k : ℤ) → f ≡ formulas.AtLeast l k → compared comparisons.AtLeast (written_linear m l.terms) k ≡ written_formula m f
at_least_is m f l k is = sym (fold-AtLeast (written_step m) l k) ∙ ap (written_formula m) (sym is)

pub equal_is : (m : Lists) (f : Formula) (l : Linear) (k : ℤ) → f ≡ formulas.Equal l k → compared comparisons.Equal (written_linear m l.terms) k ≡ written_formula m f
equal_is m f l k is = sym (fold-Equal (written_step m) l k) ∙ ap (written_formula m) (sym is)

pub pair_printed : {E : Type 0} (r : Result (Unit {0}) E) (m : Lists) (pairing : Pairing) (f one other one_got other_got : Formula) (a b c d e : Printer)
    → paired pairing (written_formula m one) (written_formula m other) ≡ written_formula m f → one_got ≡ one → other_got ≡ other
    → Writes a b (λ after. opening ∷ word (pairing_word pairing) ∷ after) → Writes b c (spelled (written_formula m one_got)) → Writes c d (spelled (written_formula m other_got))
    → OnOk r (Writes d e (λ after. closing ∷ after)) → OnOk r (Writes a e (spelled (written_formula m f)))
pair_printed r m pairing f one other one_got other_got a b c d e is got got_other open_ first second last =
    on_ok_weaker r (λ (closed : Writes d e (λ after. closing ∷ after)). λ after.
    closed after ∙ second (closing ∷ after) ∙ first (spelled (written_formula m other_got) (closing ∷ after))
    ∙ open_ (spelled (written_formula m one_got) (spelled (written_formula m other_got) (closing ∷ after)))
    ∙ ap (λ (x : Formula). text_followed a (opening ∷ word (pairing_word pairing) ∷ spelled (written_formula m x) (spelled (written_formula m other_got) (closing ∷ after)))) got
    ∙ ap (λ (x : Formula). text_followed a (opening ∷ word (pairing_word pairing) ∷ spelled (written_formula m one) (spelled (written_formula m x) (closing ∷ after)))) got_other
    ∙ ap (λ (w : WrittenFormula). text_followed a (spelled w after)) is) last

pub each_more : (m : Lists) (parts : List Formula) (i : ℕ) (x : Formula) (a b c : Printer) → i < length parts → x ≡ get_or parts i x
    → ((after : List Lexeme) → text_followed b (spelled_each (formulas_of (map (written_formula m) (drop i parts))) after) ≡ text_followed a (spelled_each (formulas_of (map (written_formula m) parts)) after))
    → Writes b c (spelled (written_formula m x))
    → (after : List Lexeme) → text_followed c (spelled_each (formulas_of (map (written_formula m) (drop (i + 1) parts))) after) ≡ text_followed a (spelled_each (formulas_of (map (written_formula m) parts)) after)
each_more m parts i x a b c h item so_far one after =
    let rest = spelled_each (formulas_of (map (written_formula m) (drop (i + 1) parts))) after in
    one rest
    ∙ ap (λ (y : Formula). text_followed b (spelled (written_formula m y) rest)) item
    ∙ ap (λ (ys : List Formula). text_followed b (spelled_each (formulas_of (map (written_formula m) ys)) after)) (sym (drop_more parts i x h))
    ∙ so_far after

drop_past : {X : Type 0} (xs : List X) (i : ℕ) → length xs ≤ i → drop i xs ≡ []
drop_past [] zero h = refl
drop_past [] (suc i) h = refl
drop_past (x ∷ xs) zero h = absurd (omega arith)
drop_past (x ∷ xs) (suc i) h = drop_past xs i (omega arith)

pub each_done : (m : Lists) (parts : List Formula) (i : ℕ) (a b : Printer) → length parts ≤ i
    → ((after : List Lexeme) → text_followed b (spelled_each (formulas_of (map (written_formula m) (drop i parts))) after) ≡ text_followed a (spelled_each (formulas_of (map (written_formula m) parts)) after))
    → Writes a b (spelled_each (formulas_of (map (written_formula m) parts)))
each_done m parts i a b h so_far after =
    ap (λ (ys : List Formula). text_followed b (spelled_each (formulas_of (map (written_formula m) ys)) after)) (sym (drop_past parts i h)) ∙ so_far after
