-- A test of each linear expression of a formula is one of each part.
use Rattle.std.proofs.Common.{◌≡◌, Bool, true, false, ◌&&◌, List, [], ◌∷◌, map, refl, sym, ◌∙◌, ap}
use Rattle.std.specs.List.{list_all}
use Rattle.std.proofs.lemmas.List.Folds.{list_all-append}
use Rattle.cgm_formula.specs.declared.formula.Formula.{Formula}
use Rattle.cgm_formula.specs.declared.formula.Formula.TheVariants.{And, Or, Implies, Iff}
use Rattle.cgm_formula.specs.declared.formula.Linear.{Linear}
use Rattle.cgm_formula.specs.Nodes.{comparisons, comparisons_step, lists_joined}
use Rattle.cgm_formula.proofs.Folds.{fold-And, fold-Or, fold-Implies, fold-Iff}
use Rattle.cgm_model.specs.Formulas.{every_linear}

all_joined : {X Y : Type 0} (p : X → Bool) (f : Y → List X) (ys : List Y) → list_all p (lists_joined (map f ys)) ≡ list_all (λ y. list_all p (f y)) ys
all_joined p f [] = refl
all_joined p f (y ∷ ys) =
    list_all-append p (f y) (lists_joined (map f ys)) ∙ ap (λ b. list_all p (f y) && b) (all_joined p f ys)

module _ (test : Linear → Bool) where
  pub every-And : (parts : List Formula) → every_linear test (And parts) ≡ list_all (every_linear test) parts
  every-And parts =
      ap (list_all (λ c. test c.0)) (fold-And comparisons_step parts) ∙ all_joined (λ c. test c.0) comparisons parts

  pub every-Or : (parts : List Formula) → every_linear test (Or parts) ≡ list_all (every_linear test) parts
  every-Or parts =
      ap (list_all (λ c. test c.0)) (fold-Or comparisons_step parts) ∙ all_joined (λ c. test c.0) comparisons parts

  every-Implies : (f g : Formula) → every_linear test (Implies f g) ≡ (every_linear test f && every_linear test g)
  every-Implies f g =
      ap (list_all (λ c. test c.0)) (fold-Implies comparisons_step f g) ∙ list_all-append (λ c. test c.0) (comparisons f) (comparisons g)

  every-Iff : (f g : Formula) → every_linear test (Iff f g) ≡ (every_linear test f && every_linear test g)
  every-Iff f g =
      ap (list_all (λ c. test c.0)) (fold-Iff comparisons_step f g) ∙ list_all-append (λ c. test c.0) (comparisons f) (comparisons g)

  after_true : (a b : Bool) → a ≡ true → b ≡ (a && b)
  after_true true b e = refl
  after_true false b e = absurd cc

  after_false : (a b : Bool) → a ≡ false → a ≡ (a && b)
  after_false false b e = refl
  after_false true b e = absurd cc

  -- the first part passes, and the second one settles it
  pub implies_second : (h f g : Formula) → h ≡ Implies f g → every_linear test f ≡ true → every_linear test g ≡ every_linear test h
  implies_second h f g is e =
      after_true (every_linear test f) (every_linear test g) e ∙ (sym (every-Implies f g) ∙ ap (every_linear test) (sym is))

  pub implies_first : (h f g : Formula) → h ≡ Implies f g → every_linear test f ≡ false → every_linear test f ≡ every_linear test h
  implies_first h f g is e =
      after_false (every_linear test f) (every_linear test g) e ∙ (sym (every-Implies f g) ∙ ap (every_linear test) (sym is))

  pub iff_second : (h f g : Formula) → h ≡ Iff f g → every_linear test f ≡ true → every_linear test g ≡ every_linear test h
  iff_second h f g is e =
      after_true (every_linear test f) (every_linear test g) e ∙ (sym (every-Iff f g) ∙ ap (every_linear test) (sym is))

  pub iff_first : (h f g : Formula) → h ≡ Iff f g → every_linear test f ≡ false → every_linear test f ≡ every_linear test h
  iff_first h f g is e =
      after_false (every_linear test f) (every_linear test g) e ∙ (sym (every-Iff f g) ∙ ap (every_linear test) (sym is))
