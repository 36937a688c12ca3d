-- The equations of the truth of formulas with a list of parts.
use Rattle.std.proofs.Common.{◌≡◌, Bool, List, [], ◌∷◌, map, ℤ, refl, ap, ◌||◌, ◌∙◌}
use Rattle.std.specs.List.{list_all, list_any}
use Rattle.std.proofs.lemmas.List.Folds.{list_all-map}
use Rattle.cgm_formula.specs.declared.formula.Truth.{Truth}
use Rattle.cgm_formula.specs.declared.formula.Number.{Number}
use Rattle.cgm_formula.specs.declared.formula.Formula.{Formula}
use Rattle.cgm_formula.specs.declared.formula.Formula.TheVariants.{And, Or}
use Rattle.cgm_formula.specs.Truth.{truth, truth_step}
use Rattle.cgm_formula.proofs.Folds.{fold-And, fold-Or}

pub list_any-map : {X Y : Type 0} (p : X → Bool) (h : Y → X) (ys : List Y) → list_any p (map h ys) ≡ list_any (λ y. p (h y)) ys
list_any-map p h [] = refl
list_any-map p h (y ∷ ys) = ap (λ rest. p (h y) || rest) (list_any-map p h ys)

pub truth-And : (names : Truth → Bool) (numbers : Number → ℤ) (parts : List Formula)
    → truth names numbers (And parts) ≡ list_all (truth names numbers) parts
truth-And names numbers parts =
    fold-And (truth_step names numbers) parts ∙ list_all-map (λ part. part) (truth names numbers) parts

pub truth-Or : (names : Truth → Bool) (numbers : Number → ℤ) (parts : List Formula)
    → truth names numbers (Or parts) ≡ list_any (truth names numbers) parts
truth-Or names numbers parts =
    fold-Or (truth_step names numbers) parts ∙ list_any-map (λ part. part) (truth names numbers) parts
