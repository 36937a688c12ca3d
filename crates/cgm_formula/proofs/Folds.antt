-- The equation of a fold over formulas, one for each kind of formula.
use Rattle.std.proofs.Common.{◌≡◌, List, ℤ, map, ap, sym, ◌∙◌}
use Rattle.cgm_formula.specs.declared.formula.Truth.{Truth}
use Rattle.cgm_formula.specs.declared.formula.Linear.{Linear}
use Rattle.cgm_formula.specs.declared.formula.Formula.{Formula}
use Rattle.cgm_formula.specs.declared.formula.Formula.TheOpen.{Formula-F}
use Rattle.cgm_formula.specs.declared.formula.Formula.TheFolds.{fold-Formula, fold-roll-Formula}
use Rattle.cgm_formula.specs.declared.formula.Formula.TheVariants.{Name, Not, And, Or, Implies, Iff, AtMost, AtLeast, Equal, rolls-Name, rolls-Not, rolls-And, rolls-Or, rolls-Implies, rolls-Iff, rolls-AtMost, rolls-AtLeast, rolls-Equal}

module _ {A : Type 0} (step : Formula-F A → A) where
  pub fold-Name : (name : Truth) → fold-Formula A step (Name name) ≡ step (Formula-F.Name name)
  fold-Name name = ap (fold-Formula A step) (sym (rolls-Name name)) ∙ fold-roll-Formula A step (Formula-F.Name name)

  pub fold-Not : (part : Formula) → fold-Formula A step (Not part) ≡ step (Formula-F.Not (fold-Formula A step part))
  fold-Not part = ap (fold-Formula A step) (sym (rolls-Not part)) ∙ fold-roll-Formula A step (Formula-F.Not part)

  pub fold-And : (parts : List Formula) → fold-Formula A step (And parts) ≡ step (Formula-F.And (map (fold-Formula A step) parts))
  fold-And parts = ap (fold-Formula A step) (sym (rolls-And parts)) ∙ fold-roll-Formula A step (Formula-F.And parts)

  pub fold-Or : (parts : List Formula) → fold-Formula A step (Or parts) ≡ step (Formula-F.Or (map (fold-Formula A step) parts))
  fold-Or parts = ap (fold-Formula A step) (sym (rolls-Or parts)) ∙ fold-roll-Formula A step (Formula-F.Or parts)

  pub fold-Implies : (premise conclusion : Formula) → fold-Formula A step (Implies premise conclusion) ≡ step (Formula-F.Implies (fold-Formula A step premise) (fold-Formula A step conclusion))
  fold-Implies premise conclusion = ap (fold-Formula A step) (sym (rolls-Implies premise conclusion)) ∙ fold-roll-Formula A step (Formula-F.Implies premise conclusion)

  pub fold-Iff : (one other : Formula) → fold-Formula A step (Iff one other) ≡ step (Formula-F.Iff (fold-Formula A step one) (fold-Formula A step other))
  fold-Iff one other = ap (fold-Formula A step) (sym (rolls-Iff one other)) ∙ fold-roll-Formula A step (Formula-F.Iff one other)

  pub fold-AtMost : (l : Linear) (k : ℤ) → fold-Formula A step (AtMost l k) ≡ step (Formula-F.AtMost l k)
  fold-AtMost l k = ap (fold-Formula A step) (sym (rolls-AtMost l k)) ∙ fold-roll-Formula A step (Formula-F.AtMost l k)

  pub fold-AtLeast : (l : Linear) (k : ℤ) → fold-Formula A step (AtLeast l k) ≡ step (Formula-F.AtLeast l k)
  fold-AtLeast l k = ap (fold-Formula A step) (sym (rolls-AtLeast l k)) ∙ fold-roll-Formula A step (Formula-F.AtLeast l k)

  pub fold-Equal : (l : Linear) (k : ℤ) → fold-Formula A step (Equal l k) ≡ step (Formula-F.Equal l k)
  fold-Equal l k = ap (fold-Formula A step) (sym (rolls-Equal l k)) ∙ fold-roll-Formula A step (Formula-F.Equal l k)
