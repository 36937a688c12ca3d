-- What holds of each comparison of a formula holds of each one of its parts.
use Rattle.std.proofs.Common.{List, [], ◌∷◌, ◌++◌, ℤ, map, subst}
use Rattle.std.specs.List.{All, AllByRecursion}
use Rattle.std.proofs.lemmas.List.Elements.{All-from_recursion, recursion_from_All}
use Rattle.cgm_formula.specs.declared.formula.Linear.{Linear}
use Rattle.cgm_formula.specs.declared.formula.Formula.{Formula}
use Rattle.cgm_formula.specs.declared.formula.Formula.TheVariants.{Not, And, Or, Implies, Iff, AtMost, AtLeast, Equal}
use Rattle.cgm_formula.specs.Nodes.{comparisons, comparisons_step, lists_joined}
use Rattle.cgm_formula.proofs.Folds.{fold-Not, fold-And, fold-Or, fold-Implies, fold-Iff, fold-AtMost, fold-AtLeast, fold-Equal}

pub split : {X : Type 0} (Q : X → Type 0) (xs ys : List X) → AllByRecursion Q (xs ++ ys) → AllByRecursion Q xs × AllByRecursion Q ys
split Q [] ys h = (tt, h)
split Q (x ∷ xs) ys h = let rest = split Q xs ys h.1 in ((h.0, rest.0), rest.1)

pub All-both : {X : Type 0} (Q : X → Type 0) (xs ys : List X) → All Q (xs ++ ys) → All Q xs × All Q ys
All-both Q xs ys h =
    let both = split Q xs ys (recursion_from_All Q (xs ++ ys) h) in
    (All-from_recursion Q xs both.0, All-from_recursion Q ys both.1)

module _ (Q : Linear × ℤ → Type 0) where
  abbrev pub Holds : Formula → Type 0
  Holds f = All Q (comparisons f)

  each_of : (parts : List Formula) → AllByRecursion Q (lists_joined (map comparisons parts)) → AllByRecursion Holds parts
  each_of [] h = tt
  each_of (part ∷ parts) h =
      let both = split Q (comparisons part) (lists_joined (map comparisons parts)) h in
      (All-from_recursion Q (comparisons part) both.0, each_of parts both.1)

  all_of : (parts : List Formula) → All Q (lists_joined (map comparisons parts)) → All Holds parts
  all_of parts h = All-from_recursion Holds parts (each_of parts (recursion_from_All Q (lists_joined (map comparisons parts)) h))

  pub of_negation : (part : Formula) → Holds (Not part) → Holds part
  of_negation part h = subst (All Q) (fold-Not comparisons_step part) h

  pub of_conjunction : (parts : List Formula) → Holds (And parts) → All Holds parts
  of_conjunction parts h = all_of parts (subst (All Q) (fold-And comparisons_step parts) h)

  pub of_disjunction : (parts : List Formula) → Holds (Or parts) → All Holds parts
  of_disjunction parts h = all_of parts (subst (All Q) (fold-Or comparisons_step parts) h)

  pub of_implication : (premise conclusion : Formula) → Holds (Implies premise conclusion) → Holds premise × Holds conclusion
  of_implication premise conclusion h =
      All-both Q (comparisons premise) (comparisons conclusion) (subst (All Q) (fold-Implies comparisons_step premise conclusion) h)

  pub of_equivalence : (one other : Formula) → Holds (Iff one other) → Holds one × Holds other
  of_equivalence one other h =
      All-both Q (comparisons one) (comparisons other) (subst (All Q) (fold-Iff comparisons_step one other) h)

  pub of_at_most : (l : Linear) (k : ℤ) → Holds (AtMost l k) → Q (l, k)
  of_at_most l k h = (recursion_from_All Q ((l, k) ∷ []) (subst (All Q) (fold-AtMost comparisons_step l k) h)).0

  pub of_at_least : (l : Linear) (k : ℤ) → Holds (AtLeast l k) → Q (l, k)
  of_at_least l k h = (recursion_from_All Q ((l, k) ∷ []) (subst (All Q) (fold-AtLeast comparisons_step l k) h)).0

  pub of_equality : (l : Linear) (k : ℤ) → Holds (Equal l k) → Q (l, k)
  of_equality l k h = (recursion_from_All Q ((l, k) ∷ []) (subst (All Q) (fold-Equal comparisons_step l k) h)).0
