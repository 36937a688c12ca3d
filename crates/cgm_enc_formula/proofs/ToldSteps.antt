-- What a formula's node adds to the values of naming variables, behind those of its parts.
use Rattle.std.proofs.Common.{◌≡◌, ℕ, ◌+◌, ◌<◌, Bool, not, ◌&&◌, ◌||◌, List, [], ◌∷◌, ◌++◌, length, get_or, map, drop, refl, sym, ap, ◌∙◌, Result, IfOk, OnOk, Ok, Err}
use Rattle.std.specs.Prelude.{ℤ, int_le}
use Rattle.std.specs.List.{list_all, list_any}
use Rattle.std.proofs.lemmas.List.{append-nil, append_assoc, drop_more, map-append}
use Rattle.std.proofs.lemmas.List.Folds.{list_all-map}
use Rattle.cgm_atom.specs.Literals.{bit}
use Rattle.cgm_formula.specs.declared.formula.Formula.{Formula}
use Rattle.cgm_formula.specs.declared.formula.Formula.TheVariants.{Name, Not, And, Or, Implies, Iff, AtMost, AtLeast, Equal}
use Rattle.cgm_formula.specs.declared.formula.Linear.{Linear}
use Rattle.cgm_formula.specs.declared.formula.Number.{Number}
use Rattle.cgm_formula.specs.declared.formula.Truth.{Truth}
use Rattle.cgm_formula.specs.Truth.{linear_value, same_truth}
use Rattle.cgm_formula.proofs.Folds.{fold-And, fold-AtLeast, fold-AtMost, fold-Equal, fold-Iff, fold-Implies, fold-Name, fold-Not, fold-Or}
use Rattle.cgm_formula.proofs.Truths.{list_any-map}
use Rattle.cgm_model.specs.declared.lists.Rule.{Rule}
use Rattle.cgm_model.specs.Formulas.{formula_of}
use Rattle.cgm_enc_formula.specs.NamingValues.{Told, all_truths, rule_truths, telling, told, told_step}

pub on_ok : {X E : Type 0} {P Q : Type 0} (r : Result X E) → (P → Q) → OnOk r P → OnOk r Q
on_ok (Ok x) f p = f p
on_ok (Err e) f p = tt

-- the value that is answered is this one
pub if_ok : {E : Type 0} (r : Result Bool E) (t u : Bool) → t ≡ u → IfOk r (λ x. x ≡ t) → IfOk r (λ x. x ≡ u)
if_ok (Ok x) t u e p = p ∙ e
if_ok (Err err) t u e p = tt

-- ---- a loop that adds something for each item

pub item_added : {X Y : Type 0} (f : X → List Y) (g : List X → List Y) → ((x : X) (xs : List X) → g (x ∷ xs) ≡ f x ++ g xs) → (xs : List X) (i : ℕ) (x : X) (old new whole : List Y) → i < length xs → x ≡ get_or xs i x → old ++ g (drop i xs) ≡ whole → new ≡ old ++ f x → new ++ g (drop (i + 1) xs) ≡ whole
item_added {X} {Y} f g steps xs i x old new whole within is e added =
    let rest = drop (i + 1) xs in
    let split : drop i xs ≡ x ∷ rest = drop_more xs i x within ∙ ap (λ (y : X). y ∷ rest) (sym is) in
    ap (λ (l : List Y). l ++ g rest) added
    ∙ append_assoc old (f x) (g rest)
    ∙ ap (λ (l : List Y). old ++ l) (sym (steps x rest))
    ∙ ap (λ (ys : List X). old ++ g ys) (sym split)
    ∙ e

-- a node behind its parts
node_added : (old parts new : List ℤ) (ts : List Bool) (t : Bool) → parts ≡ old ++ map bit ts → new ≡ parts ++ bit t ∷ [] → new ≡ old ++ map bit (ts ++ t ∷ [])
node_added old parts new ts t e f =
    f
    ∙ ap (λ (l : List ℤ). l ++ bit t ∷ []) e
    ∙ append_assoc old (map bit ts) (bit t ∷ [])
    ∙ ap (λ (l : List ℤ). old ++ l) (sym (map-append bit ts (t ∷ [])))

-- one list behind another
both_added : (old one two : List ℤ) (ts us : List Bool) → one ≡ old ++ map bit ts → two ≡ one ++ map bit us → two ≡ old ++ map bit (ts ++ us)
both_added old one two ts us e f =
    f
    ∙ ap (λ (l : List ℤ). l ++ map bit us) e
    ∙ append_assoc old (map bit ts) (map bit us)
    ∙ ap (λ (l : List ℤ). old ++ l) (sym (map-append bit ts us))

-- one node, and three
nodes_added : (old two : List ℤ) (v t : Bool) → v ≡ t → two ≡ old ++ bit v ∷ [] → two ≡ old ++ map bit (t ∷ [])
nodes_added old two v t e h = h ∙ ap (λ (b : Bool). old ++ bit b ∷ []) e

three_added : (old two : List ℤ) (v w t u : Bool) → v ≡ t → w ≡ u → two ≡ ((old ++ bit v ∷ []) ++ bit w ∷ []) ++ bit (v && w) ∷ [] → two ≡ old ++ map bit (t ∷ u ∷ (t && u) ∷ [])
three_added old two v w t u e g h =
    h
    ∙ ap (λ (b : Bool). ((old ++ bit b ∷ []) ++ bit w ∷ []) ++ bit (b && w) ∷ []) e
    ∙ ap (λ (b : Bool). ((old ++ bit t ∷ []) ++ bit b ∷ []) ++ bit (t && b) ∷ []) g
    ∙ append_assoc (old ++ bit t ∷ []) (bit u ∷ []) (bit (t && u) ∷ [])
    ∙ append_assoc old (bit t ∷ []) (bit u ∷ bit (t && u) ∷ [])

module _ (names : Truth → Bool) (numbers : Number → ℤ) where
  abbrev tells : Formula → Told
  tells f = told names numbers f

  abbrev sayings : List Formula → List Bool
  sayings parts = map (λ (part : Told). part.says) (map (told names numbers) parts)

  abbrev tellings : List Formula → List Bool
  tellings parts = all_truths (map (told names numbers) parts)

  -- ---- lists of formulas

  pub part_said : (parts : List Formula) (i : ℕ) (x : Formula) (old new : List Bool) (t : Bool) → i < length parts → x ≡ get_or parts i x → old ++ sayings (drop i parts) ≡ sayings parts → new ≡ old ++ t ∷ [] → t ≡ (tells x).says → new ++ sayings (drop (i + 1) parts) ≡ sayings parts
  part_said parts i x old new t within is e added said =
      item_added (λ (f : Formula). (tells f).says ∷ []) sayings (λ f fs. refl) parts i x old new (sayings parts) within is e
      (added ∙ ap (λ (u : Bool). old ++ u ∷ []) said)

  pub part_told : (parts : List Formula) (i : ℕ) (x : Formula) (old new whole : List ℤ) → i < length parts → x ≡ get_or parts i x → old ++ map bit (tellings (drop i parts)) ≡ whole → new ≡ old ++ map bit (tells x).truths → new ++ map bit (tellings (drop (i + 1) parts)) ≡ whole
  part_told parts i x old new whole within is e added =
      item_added (λ (f : Formula). map bit (tells f).truths) (λ (fs : List Formula). map bit (tellings fs))
      (λ f fs. map-append bit (tells f).truths (tellings fs)) parts i x old new whole within is e added

  pub rule_told : (rules : List Rule) (i : ℕ) (r : Rule) (old new whole : List ℤ) → i < length rules → r ≡ get_or rules i r → old ++ map bit (rule_truths names numbers (drop i rules)) ≡ whole → new ≡ old ++ map bit (tells (formula_of r)).truths → new ++ map bit (rule_truths names numbers (drop (i + 1) rules)) ≡ whole
  rule_told rules i r old new whole within is e added =
      item_added (λ (r : Rule). map bit (tells (formula_of r)).truths) (λ (rs : List Rule). map bit (rule_truths names numbers rs))
      (λ r rs. map-append bit (tells (formula_of r)).truths (rule_truths names numbers rs)) rules i r old new whole within is e added

  -- ---- connectives

  conjunction : (f : Formula) (parts slice : List Formula) → f ≡ And parts → slice ≡ parts → tells f ≡ telling (tellings slice) (list_all (λ (t : Bool). t) (sayings slice))
  conjunction f parts slice is same =
      ap tells is
      ∙ fold-And (told_step names numbers) parts
      ∙ ap (λ (fs : List Formula). telling (tellings fs) (list_all (λ (part : Told). part.says) (map (told names numbers) fs))) (sym same)
      ∙ ap (λ (t : Bool). telling (tellings slice) t) (sym (list_all-map (λ (t : Bool). t) (λ (part : Told). part.says) (map (told names numbers) slice)))

  pub all_say : (f : Formula) (parts slice : List Formula) (truths : List Bool) → f ≡ And parts → slice ≡ parts → truths ≡ sayings slice → list_all (λ (t : Bool). t) truths ≡ (tells f).says
  all_say f parts slice truths is same said =
      ap (λ (ts : List Bool). list_all (λ (t : Bool). t) ts) said ∙ ap (λ (t : Told). t.says) (sym (conjunction f parts slice is same))

  pub all_told : (f : Formula) (parts slice : List Formula) (truths : List Bool) (old one two : List ℤ) → f ≡ And parts → slice ≡ parts → truths ≡ sayings slice → one ≡ old ++ map bit (tellings slice) → two ≡ one ++ bit (list_all (λ (t : Bool). t) truths) ∷ [] → two ≡ old ++ map bit (tells f).truths
  all_told f parts slice truths old one two is same said first second =
      node_added old one two (tellings slice) (list_all (λ (t : Bool). t) (sayings slice)) first
      (second ∙ ap (λ (ts : List Bool). one ++ bit (list_all (λ (t : Bool). t) ts) ∷ []) said)
      ∙ ap (λ (t : Told). old ++ map bit t.truths) (sym (conjunction f parts slice is same))

  disjunction : (f : Formula) (parts slice : List Formula) → f ≡ Or parts → slice ≡ parts → tells f ≡ telling (tellings slice) (list_any (λ (t : Bool). t) (sayings slice))
  disjunction f parts slice is same =
      ap tells is
      ∙ fold-Or (told_step names numbers) parts
      ∙ ap (λ (fs : List Formula). telling (tellings fs) (list_any (λ (part : Told). part.says) (map (told names numbers) fs))) (sym same)
      ∙ ap (λ (t : Bool). telling (tellings slice) t) (sym (list_any-map (λ (t : Bool). t) (λ (part : Told). part.says) (map (told names numbers) slice)))

  pub any_says : (f : Formula) (parts slice : List Formula) (truths : List Bool) → f ≡ Or parts → slice ≡ parts → truths ≡ sayings slice → list_any (λ (t : Bool). t) truths ≡ (tells f).says
  any_says f parts slice truths is same said =
      ap (λ (ts : List Bool). list_any (λ (t : Bool). t) ts) said ∙ ap (λ (t : Told). t.says) (sym (disjunction f parts slice is same))

  pub any_told : (f : Formula) (parts slice : List Formula) (truths : List Bool) (old one two : List ℤ) → f ≡ Or parts → slice ≡ parts → truths ≡ sayings slice → one ≡ old ++ map bit (tellings slice) → two ≡ one ++ bit (list_any (λ (t : Bool). t) truths) ∷ [] → two ≡ old ++ map bit (tells f).truths
  any_told f parts slice truths old one two is same said first second =
      node_added old one two (tellings slice) (list_any (λ (t : Bool). t) (sayings slice)) first
      (second ∙ ap (λ (ts : List Bool). one ++ bit (list_any (λ (t : Bool). t) ts) ∷ []) said)
      ∙ ap (λ (t : Told). old ++ map bit t.truths) (sym (disjunction f parts slice is same))

  implication : (f premise conclusion p q : Formula) → f ≡ Implies premise conclusion → p ≡ premise → q ≡ conclusion → tells f ≡ telling ((tells p).truths ++ (tells q).truths) (not (tells p).says || (tells q).says)
  implication f premise conclusion p q is one other =
      ap tells is
      ∙ fold-Implies (told_step names numbers) premise conclusion
      ∙ ap (λ (g : Formula). telling ((tells g).truths ++ (tells conclusion).truths) (not (tells g).says || (tells conclusion).says)) (sym one)
      ∙ ap (λ (g : Formula). telling ((tells p).truths ++ (tells g).truths) (not (tells p).says || (tells g).says)) (sym other)

  pub implication_says : (f premise conclusion p q : Formula) (s t : Bool) → f ≡ Implies premise conclusion → p ≡ premise → q ≡ conclusion → s ≡ (tells p).says → t ≡ (tells q).says → (not s || t) ≡ (tells f).says
  implication_says f premise conclusion p q s t is one other first second =
      ap (λ (b : Bool). not b || t) first
      ∙ ap (λ (b : Bool). not (tells p).says || b) second
      ∙ ap (λ (x : Told). x.says) (sym (implication f premise conclusion p q is one other))

  pub implication_told : (f premise conclusion p q : Formula) (s t : Bool) (old one two three : List ℤ) → f ≡ Implies premise conclusion → p ≡ premise → q ≡ conclusion → s ≡ (tells p).says → t ≡ (tells q).says → one ≡ old ++ map bit (tells p).truths → two ≡ one ++ map bit (tells q).truths → three ≡ two ++ bit (not s || t) ∷ [] → three ≡ old ++ map bit (tells f).truths
  implication_told f premise conclusion p q s t old one two three is same other first second e g h =
      node_added old two three ((tells p).truths ++ (tells q).truths) (not s || t) (both_added old one two (tells p).truths (tells q).truths e g) h
      ∙ ap (λ (b : Bool). old ++ map bit (((tells p).truths ++ (tells q).truths) ++ b ∷ [])) (implication_says f premise conclusion p q s t is same other first second ∙ ap (λ (x : Told). x.says) (implication f premise conclusion p q is same other))
      ∙ ap (λ (x : Told). old ++ map bit x.truths) (sym (implication f premise conclusion p q is same other))

  equivalence : (f left right p q : Formula) → f ≡ Iff left right → p ≡ left → q ≡ right → tells f ≡ telling ((tells p).truths ++ (tells q).truths) (same_truth (tells p).says (tells q).says)
  equivalence f left right p q is one other =
      ap tells is
      ∙ fold-Iff (told_step names numbers) left right
      ∙ ap (λ (g : Formula). telling ((tells g).truths ++ (tells right).truths) (same_truth (tells g).says (tells right).says)) (sym one)
      ∙ ap (λ (g : Formula). telling ((tells p).truths ++ (tells g).truths) (same_truth (tells p).says (tells g).says)) (sym other)

  pub equivalence_says : (f left right p q : Formula) (s t : Bool) → f ≡ Iff left right → p ≡ left → q ≡ right → s ≡ (tells p).says → t ≡ (tells q).says → same_truth s t ≡ (tells f).says
  equivalence_says f left right p q s t is one other first second =
      ap (λ (b : Bool). same_truth b t) first
      ∙ ap (λ (b : Bool). same_truth (tells p).says b) second
      ∙ ap (λ (x : Told). x.says) (sym (equivalence f left right p q is one other))

  pub equivalence_told : (f left right p q : Formula) (s t : Bool) (old one two three : List ℤ) → f ≡ Iff left right → p ≡ left → q ≡ right → s ≡ (tells p).says → t ≡ (tells q).says → one ≡ old ++ map bit (tells p).truths → two ≡ one ++ map bit (tells q).truths → three ≡ two ++ bit (same_truth s t) ∷ [] → three ≡ old ++ map bit (tells f).truths
  equivalence_told f left right p q s t old one two three is same other first second e g h =
      node_added old two three ((tells p).truths ++ (tells q).truths) (same_truth s t) (both_added old one two (tells p).truths (tells q).truths e g) h
      ∙ ap (λ (b : Bool). old ++ map bit (((tells p).truths ++ (tells q).truths) ++ b ∷ [])) (equivalence_says f left right p q s t is same other first second ∙ ap (λ (x : Told). x.says) (equivalence f left right p q is same other))
      ∙ ap (λ (x : Told). old ++ map bit x.truths) (sym (equivalence f left right p q is same other))

  -- ---- names, negations and comparisons

  name : (f : Formula) (x : Truth) → f ≡ Name x → tells f ≡ record { truths = []; says = names x }
  name f x is = ap tells is ∙ fold-Name (told_step names numbers) x

  pub name_says : (f : Formula) (x : Truth) (t : Bool) → f ≡ Name x → t ≡ names x → t ≡ (tells f).says
  name_says f x t is e = e ∙ ap (λ (s : Told). s.says) (sym (name f x is))

  pub name_told : (f : Formula) (x : Truth) (old : List ℤ) → f ≡ Name x → old ≡ old ++ map bit (tells f).truths
  name_told f x old is = sym (append-nil old) ∙ ap (λ (s : Told). old ++ map bit s.truths) (sym (name f x is))

  negation : (f part p : Formula) → f ≡ Not part → p ≡ part → tells f ≡ record { truths = (tells p).truths; says = not (tells p).says }
  negation f part p is same =
      ap tells is ∙ fold-Not (told_step names numbers) part ∙ ap (λ (g : Formula). record { truths = (tells g).truths; says = not (tells g).says }) (sym same)

  pub negation_says : (f part p : Formula) (s : Bool) → f ≡ Not part → p ≡ part → s ≡ (tells p).says → not s ≡ (tells f).says
  negation_says f part p s is same said = ap (λ (b : Bool). not b) said ∙ ap (λ (x : Told). x.says) (sym (negation f part p is same))

  pub negation_told : (f part p : Formula) (old one : List ℤ) → f ≡ Not part → p ≡ part → one ≡ old ++ map bit (tells p).truths → one ≡ old ++ map bit (tells f).truths
  negation_told f part p old one is same first = first ∙ ap (λ (x : Told). old ++ map bit x.truths) (sym (negation f part p is same))

  at_most : (f : Formula) (l : Linear) (k : ℤ) → f ≡ AtMost l k → tells f ≡ telling [] (int_le (linear_value numbers l) k)
  at_most f l k is = ap tells is ∙ fold-AtMost (told_step names numbers) l k

  pub at_most_says : (f : Formula) (l : Linear) (k : ℤ) (v : Bool) → f ≡ AtMost l k → v ≡ int_le (linear_value numbers l) k → v ≡ (tells f).says
  at_most_says f l k v is e = e ∙ ap (λ (x : Told). x.says) (sym (at_most f l k is))

  pub at_most_told : (f : Formula) (l : Linear) (k : ℤ) (v : Bool) (old two : List ℤ) → f ≡ AtMost l k → v ≡ int_le (linear_value numbers l) k → two ≡ old ++ bit v ∷ [] → two ≡ old ++ map bit (tells f).truths
  at_most_told f l k v old two is e h =
      nodes_added old two v (int_le (linear_value numbers l) k) e h ∙ ap (λ (x : Told). old ++ map bit x.truths) (sym (at_most f l k is))

  at_least : (f : Formula) (l : Linear) (k : ℤ) → f ≡ AtLeast l k → tells f ≡ telling [] (int_le k (linear_value numbers l))
  at_least f l k is = ap tells is ∙ fold-AtLeast (told_step names numbers) l k

  pub at_least_says : (f : Formula) (l : Linear) (k : ℤ) (v : Bool) → f ≡ AtLeast l k → v ≡ int_le k (linear_value numbers l) → v ≡ (tells f).says
  at_least_says f l k v is e = e ∙ ap (λ (x : Told). x.says) (sym (at_least f l k is))

  pub at_least_told : (f : Formula) (l : Linear) (k : ℤ) (v : Bool) (old two : List ℤ) → f ≡ AtLeast l k → v ≡ int_le k (linear_value numbers l) → two ≡ old ++ bit v ∷ [] → two ≡ old ++ map bit (tells f).truths
  at_least_told f l k v old two is e h =
      nodes_added old two v (int_le k (linear_value numbers l)) e h ∙ ap (λ (x : Told). old ++ map bit x.truths) (sym (at_least f l k is))

  equality : (f : Formula) (l : Linear) (k : ℤ) → f ≡ Equal l k → tells f ≡ telling (int_le (linear_value numbers l) k ∷ int_le k (linear_value numbers l) ∷ []) (int_le (linear_value numbers l) k && int_le k (linear_value numbers l))
  equality f l k is = ap tells is ∙ fold-Equal (told_step names numbers) l k

  pub equality_says : (f : Formula) (l : Linear) (k : ℤ) (v w : Bool) → f ≡ Equal l k → v ≡ int_le (linear_value numbers l) k → w ≡ int_le k (linear_value numbers l) → (v && w) ≡ (tells f).says
  equality_says f l k v w is e g =
      ap (λ (b : Bool). b && w) e ∙ ap (λ (b : Bool). int_le (linear_value numbers l) k && b) g ∙ ap (λ (x : Told). x.says) (sym (equality f l k is))

  pub equality_told : (f : Formula) (l : Linear) (k : ℤ) (v w : Bool) (old two : List ℤ) → f ≡ Equal l k → v ≡ int_le (linear_value numbers l) k → w ≡ int_le k (linear_value numbers l) → two ≡ ((old ++ bit v ∷ []) ++ bit w ∷ []) ++ bit (v && w) ∷ [] → two ≡ old ++ map bit (tells f).truths
  equality_told f l k v w old two is e g h =
      three_added old two v w (int_le (linear_value numbers l) k) (int_le k (linear_value numbers l)) e g h
      ∙ ap (λ (x : Told). old ++ map bit x.truths) (sym (equality f l k is))
