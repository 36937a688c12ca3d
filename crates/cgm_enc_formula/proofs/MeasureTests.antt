-- The test of a formula's measures is that of its parts.
use Rattle.std.proofs.Common.{◌≡◌, ◌&&◌, Bool, true, false, List, [], ◌∷◌, map, refl, ap, ◌∙◌}
use Rattle.std.specs.Prelude.{ℤ, nat_le}
use Rattle.std.specs.List.{list_all}
use Rattle.std.proofs.lemmas.List.Folds.{list_all-append}
use Rattle.cgm_atom.specs.Bounds.{Bounds}
use Rattle.cgm_atom.specs.Limits.{max_measure}
use Rattle.cgm_formula.specs.declared.formula.Formula.{Formula}
use Rattle.cgm_formula.specs.declared.formula.Formula.TheVariants.{Name, Not, And, Or, Implies, Iff, AtMost, AtLeast, Equal}
use Rattle.cgm_formula.specs.declared.formula.Linear.{Linear}
use Rattle.cgm_formula.specs.declared.formula.Truth.{Truth}
use Rattle.cgm_formula.specs.Nodes.{comparisons, comparisons_step, lists_joined}
use Rattle.cgm_formula.proofs.Folds.{fold-And, fold-AtLeast, fold-AtMost, fold-Equal, fold-Iff, fold-Implies, fold-Name, fold-Not, fold-Or}
use Rattle.cgm_model.specs.declared.lists.Lists.{Lists}
use Rattle.cgm_enc_formula.specs.Measures.{comparison_measure, has_small_measures}

list_all-joined : {X Y : Type 0} (test : X → Bool) (g : Y → List X) (ys : List Y) → list_all test (lists_joined (map g ys)) ≡ list_all (λ y. list_all test (g y)) ys
list_all-joined test g [] = refl
list_all-joined test g (y ∷ ys) =
    list_all-append test (g y) (lists_joined (map g ys)) ∙ ap (λ (t : Bool). list_all test (g y) && t) (list_all-joined test g ys)

and_true : (t : Bool) → (t && true) ≡ t
and_true true = refl
and_true false = refl

module _ (m : Lists) (b : Bounds) where
  abbrev test : Linear × ℤ → Bool
  test c = nat_le (comparison_measure m b c) max_measure

  pub small-And : (parts : List Formula) → has_small_measures m b (And parts) ≡ list_all (has_small_measures m b) parts
  small-And parts = ap (λ (cs : List (Linear × ℤ)). list_all test cs) (fold-And comparisons_step parts) ∙ list_all-joined test comparisons parts

  pub small-Or : (parts : List Formula) → has_small_measures m b (Or parts) ≡ list_all (has_small_measures m b) parts
  small-Or parts = ap (λ (cs : List (Linear × ℤ)). list_all test cs) (fold-Or comparisons_step parts) ∙ list_all-joined test comparisons parts

  abbrev whole : List (Linear × ℤ) → Bool
  whole cs = list_all test cs

  pub small-Name : (name : Truth) → has_small_measures m b (Name name) ≡ true
  small-Name name = ap whole (fold-Name comparisons_step name)

  pub small-Not : (part : Formula) → has_small_measures m b (Not part) ≡ has_small_measures m b part
  small-Not part = ap whole (fold-Not comparisons_step part)

  pub small-Implies : (premise conclusion : Formula) → has_small_measures m b (Implies premise conclusion) ≡ (has_small_measures m b premise && has_small_measures m b conclusion)
  small-Implies premise conclusion = ap whole (fold-Implies comparisons_step premise conclusion) ∙ list_all-append test (comparisons premise) (comparisons conclusion)

  pub small-Iff : (one other : Formula) → has_small_measures m b (Iff one other) ≡ (has_small_measures m b one && has_small_measures m b other)
  small-Iff one other = ap whole (fold-Iff comparisons_step one other) ∙ list_all-append test (comparisons one) (comparisons other)

  pub small-AtMost : (l : Linear) (k : ℤ) → has_small_measures m b (AtMost l k) ≡ test (l, k)
  small-AtMost l k = ap whole (fold-AtMost comparisons_step l k) ∙ and_true (test (l, k))

  pub small-AtLeast : (l : Linear) (k : ℤ) → has_small_measures m b (AtLeast l k) ≡ test (l, k)
  small-AtLeast l k = ap whole (fold-AtLeast comparisons_step l k) ∙ and_true (test (l, k))

  pub small-Equal : (l : Linear) (k : ℤ) → has_small_measures m b (Equal l k) ≡ test (l, k)
  small-Equal l k = ap whole (fold-Equal comparisons_step l k) ∙ and_true (test (l, k))
