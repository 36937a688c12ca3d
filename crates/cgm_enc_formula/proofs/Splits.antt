-- What holds of each name, or of each comparison, of a formula holds of those of its parts.
use Rattle.std.proofs.Common.{List, [], ◌∷◌, map, subst}
use Rattle.std.specs.List.{All, AllByRecursion}
use Rattle.std.proofs.lemmas.List.Elements.{recursion_from_All}
use Rattle.cgm_formula.specs.declared.formula.Formula.{Formula}
use Rattle.cgm_formula.specs.declared.formula.Formula.TheVariants.{Name, Not, And, Or, Implies, Iff}
use Rattle.cgm_formula.specs.declared.formula.Truth.{Truth}
use Rattle.cgm_formula.specs.Nodes as nodes
use Rattle.cgm_formula.specs.Nodes.{lists_joined}
use Rattle.cgm_formula.proofs.Comparisons.{All-both}
use Rattle.cgm_formula.proofs.Folds.{fold-And, fold-Iff, fold-Implies, fold-Name, fold-Not, fold-Or}

pub each_joined : {A : Type 0} (Q : A → Type 0) (g : Formula → List A) (parts : List Formula) → All Q (lists_joined (map g parts)) → AllByRecursion (λ f. All Q (g f)) parts
each_joined Q g [] h = tt
each_joined Q g (part ∷ parts) h =
    let both = All-both Q (g part) (lists_joined (map g parts)) h in
    (both.0, each_joined Q g parts both.1)

module _ (Q : Truth → Type 0) where
  abbrev pub NamesHold : Formula → Type 0
  NamesHold f = All Q (nodes.formula_names f)

  pub name_of_name : (name : Truth) → NamesHold (Name name) → Q name
  name_of_name name h = (recursion_from_All Q (name ∷ []) (subst (All Q) (fold-Name nodes.names_step name) h)).0

  pub names_of_negation : (part : Formula) → NamesHold (Not part) → NamesHold part
  names_of_negation part h = subst (All Q) (fold-Not nodes.names_step part) h

  pub names_of_conjunction : (parts : List Formula) → NamesHold (And parts) → AllByRecursion NamesHold parts
  names_of_conjunction parts h = each_joined Q nodes.formula_names parts (subst (All Q) (fold-And nodes.names_step parts) h)

  pub names_of_disjunction : (parts : List Formula) → NamesHold (Or parts) → AllByRecursion NamesHold parts
  names_of_disjunction parts h = each_joined Q nodes.formula_names parts (subst (All Q) (fold-Or nodes.names_step parts) h)

  pub names_of_implication : (premise conclusion : Formula) → NamesHold (Implies premise conclusion) → NamesHold premise × NamesHold conclusion
  names_of_implication premise conclusion h = All-both Q (nodes.formula_names premise) (nodes.formula_names conclusion) (subst (All Q) (fold-Implies nodes.names_step premise conclusion) h)

  pub names_of_equivalence : (one other : Formula) → NamesHold (Iff one other) → NamesHold one × NamesHold other
  names_of_equivalence one other h = All-both Q (nodes.formula_names one) (nodes.formula_names other) (subst (All Q) (fold-Iff nodes.names_step one other) h)
