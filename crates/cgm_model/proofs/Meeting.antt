-- The numbers that were met are those of the terms so far, each once.
use Rattle.std.proofs.Common.{◌≡◌, ℕ, ◌+◌, ◌<◌, ◌||◌, Bool, true, false, cond, not, List, [], ◌∷◌, ℤ, length, get_or, take, refl, sym, ◌∙◌, ap, HashSet, BuildHasherDefault, FoldHasher, Result, Ok, Err, IfOk, OnOk, IfSome}
use Rattle.std.specs.Prelude.{nat_eq}
use Rattle.std.specs.Result.{result_ok}
use Rattle.indexmap.specs.IndexSet.{contains, Updates}
use Rattle.std.specs.List.{list_any}
use Rattle.std.proofs.lemmas.List.{take_more}
use Rattle.std.proofs.lemmas.List.Folds.{list_any-append}
use Rattle.cgm_formula.specs.declared.formula.Number.{Number}
use Rattle.cgm_formula.specs.declared.formula.Number.TheVariants as number
use Rattle.cgm_model.specs.declared.formulas.Met.{Met}
use Rattle.cgm_model.specs.Formulas.{is_same_number, are_distinct_terms}
use Rattle.cgm_model.specs.Met.{has, Meets}
use Rattle.cgm_model.proofs.Distinct.{distinct_more, distinct_fails}
use Rattle.cgm_model.proofs.Swaps.{term_swap}

abbrev Term : Type 0
Term = ℤ × Number

pub record Tracks (met : Met) (terms : List Term) : Type 0 where
  pub distinct : are_distinct_terms terms ≡ true
  pub same : (x : Number) → has met x ≡ list_any (λ u. is_same_number u.1 x) terms

pub Tracks-none : (met : Met) → ((x : Number) → has met x ≡ false) → Tracks met []
Tracks-none met none = record { distinct = refl; same = none }

swapped : (a b : Bool) → cond a true b ≡ (b || (a || false))
swapped true true = refl
swapped true false = refl
swapped false true = refl
swapped false false = refl

not_new : (b : Bool) → not b ≡ true → b ≡ false
not_new false e = refl
not_new true e = absurd cc

pub Tracks-more : (terms : List Term) (i : ℕ) (none : Term) (old new : Met) (is_new : Bool) → i < length terms → Tracks old (take i terms) → Meets old new (get_or terms i none).1 is_new → is_new ≡ true → Tracks new (take (i + 1) terms)
Tracks-more terms i none old new is_new l h meets e =
    let t = get_or terms i none in
    let fresh : list_any (λ u. is_same_number u.1 t.1) (take i terms) ≡ false = sym (h.same t.1) ∙ not_new (has old t.1) (sym meets.answer ∙ e) in
    record {
      distinct = distinct_more (λ u v. is_same_number u.1 v.1) term_swap terms i none l h.distinct fresh;
      same = λ x.
          let before = h.same x in
          let now : list_any (λ u. is_same_number u.1 x) (take (i + 1) terms) ≡ (list_any (λ u. is_same_number u.1 x) (take i terms) || (is_same_number t.1 x || false)) =
          ap (list_any (λ u. is_same_number u.1 x)) (take_more terms i none l) ∙ list_any-append (λ u. is_same_number u.1 x) (take i terms) (t ∷ []) in
          meets.others x ∙ (swapped (is_same_number t.1 x) (has old x) ∙ (ap (λ b. b || (is_same_number t.1 x || false)) before ∙ sym now));
    }

not_false : (b : Bool) → not b ≡ false → b ≡ true
not_false true e = refl
not_false false e = absurd cc

pub stands_twice : (terms : List Term) (i : ℕ) (none : Term) (old new : Met) (is_new : Bool) → i < length terms → Tracks old (take i terms) → Meets old new (get_or terms i none).1 is_new → is_new ≡ false → are_distinct_terms terms ≡ false
stands_twice terms i none old new is_new l h meets e =
    let t = get_or terms i none in
    let there : has old t.1 ≡ true = not_false (has old t.1) (sym meets.answer ∙ e) in
    distinct_fails (λ u v. is_same_number u.1 v.1) term_swap terms i none l (sym (h.same t.1) ∙ there)

-- ---- the sets

has_none : (met : Met) → met.vars.keys ≡ [] → met.sums.keys ≡ [] → (x : Number) → has met x ≡ false
has_none met vars sums (number.Var k) = ap (λ ks. list_any (nat_eq k) ks) vars
has_none met vars sums (number.Sum k) = ap (λ ks. list_any (nat_eq k) ks) sums

pub Tracks-begun : (met : Met) → met.vars.keys ≡ [] → met.sums.keys ≡ [] → Tracks met []
Tracks-begun met vars sums = Tracks-none met (has_none met vars sums)

abbrev Numbers : Type 0
Numbers = HashSet ℕ (BuildHasherDefault FoldHasher)

var_others : (met : Met) (set : Numbers) (k : ℕ) → Updates nat_eq met.vars set k true → (y : Number) → has (record met { vars = set }) y ≡ cond (is_same_number (number.Var k) y) true (has met y)
var_others met set k updates (number.Var q) = updates.0 q
var_others met set k updates (number.Sum q) = refl

sum_others : (met : Met) (set : Numbers) (k : ℕ) → Updates nat_eq met.sums set k true → (y : Number) → has (record met { sums = set }) y ≡ cond (is_same_number (number.Sum k) y) true (has met y)
sum_others met set k updates (number.Var q) = refl
sum_others met set k updates (number.Sum q) = updates.0 q

pub var_met : {E : Type 0} (r : Result Bool E) (met : Met) (set : Numbers) (k : ℕ) → IfOk r (λ b. b ≡ not (contains nat_eq met.vars k)) → OnOk r (Updates nat_eq met.vars set k true) → IfSome (result_ok r) (Meets met (record met { vars = set }) (number.Var k))
var_met (Ok b) met set k answer updates = record { answer = answer; others = var_others met set k updates }
var_met (Err e) met set k answer updates = tt

pub sum_met : {E : Type 0} (r : Result Bool E) (met : Met) (set : Numbers) (k : ℕ) → IfOk r (λ b. b ≡ not (contains nat_eq met.sums k)) → OnOk r (Updates nat_eq met.sums set k true) → IfSome (result_ok r) (Meets met (record met { sums = set }) (number.Sum k))
sum_met (Ok b) met set k answer updates = record { answer = answer; others = sum_others met set k updates }
sum_met (Err e) met set k answer updates = tt
