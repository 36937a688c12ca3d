-- Values extended by the truths of definitions: what was there stays, and each naming variable has the truth of its definition.
use Rattle.std.proofs.Common.{◌≡◌, ℕ, ◌+◌, ◌<◌, Bool, true, false, cond, ◌&&◌, ◌||◌, List, [], ◌∷◌, ◌++◌, length, refl, sym, ap, ◌∙◌, subst, arith}
use Rattle.std.specs.Prelude.{ℤ, pos, ◌+ℤ◌, ◌*ℤ◌, int_le}
use Rattle.std.specs.List.{All, list_all, list_any}
use Rattle.std.proofs.lemmas.List.{get_or_append_left, get_or_push, length_push}
use Rattle.std.proofs.lemmas.List.Elements.{All-head, All-tail}
use Rattle.cgm_atom.specs.declared.constraints.Var.{Var}
use Rattle.cgm_atom.specs.Atoms.{activity, atom_true}
use Rattle.cgm_atom.specs.Bounds.{value_of}
use Rattle.cgm_atom.specs.Limits.{AreTermsOf}
use Rattle.cgm_atom.specs.Literals.{literal, negated, truth_at}
use Rattle.cgm_formula.specs.Truth.{same_truth}
use Rattle.cgm_enc_formula.specs.declared.literals.Literal.{Literal}
use Rattle.cgm_enc_formula.specs.Definitions.{AreDefined, AreDefinitionsFrom, Definition, IsDefinitionOf, all_of, any_of, at_least, at_most, definition_true, same_as}
use Rattle.cgm_enc_formula.specs.Laws.{extended}
use Rattle.cgm_enc_formula.specs.Literals.{literal_true}

-- the value of a naming variable
abbrev bit : Bool → ℤ
bit t = cond t (pos 1) (pos 0)

bit_truth : (t : Bool) → int_le (pos 1) (bit t) ≡ t
bit_truth true = refl
bit_truth false = refl

pub extended_keeps : (values : List ℤ) (ds : List Definition) (x : ℕ) → x < length values → value_of (extended values ds) x ≡ value_of values x
extended_keeps values [] x h = refl
extended_keeps values (d ∷ ds) x h =
    let z = bit (definition_true values d) in
    let long = length_push values z in
    extended_keeps (values ++ z ∷ []) ds x (omega arith) ∙ get_or_append_left values (z ∷ []) (pos 0) x h

-- ---- definitions over values that agree

module _ (values others : List ℤ) (n : ℕ) (same : (x : ℕ) → x < n → value_of values x ≡ value_of others x) where
  literal_by : (t : Bool) (x : ℕ) → x < n → atom_true values (cond t (literal x) (negated x)) ≡ atom_true others (cond t (literal x) (negated x))
  literal_by true x h = ap (λ (z : ℤ). int_le (pos 1) z) (same x h)
  literal_by false x h = ap (λ (z : ℤ). int_le z (pos 0)) (same x h)

  literal_agrees : (l : Literal) → l.variable < n → literal_true values l ≡ literal_true others l
  literal_agrees l h = literal_by l.is_positive l.variable h

  all_agree : (ls : List Literal) → All (λ l. l.variable < n) ls → list_all (literal_true values) ls ≡ list_all (literal_true others) ls
  all_agree [] h = refl
  all_agree (l ∷ ls) h =
      ap (λ (t : Bool). t && list_all (literal_true values) ls) (literal_agrees l (All-head (λ l. l.variable < n) l ls h))
      ∙ ap (λ (t : Bool). literal_true others l && t) (all_agree ls (All-tail (λ l. l.variable < n) l ls h))

  any_agree : (ls : List Literal) → All (λ l. l.variable < n) ls → list_any (literal_true values) ls ≡ list_any (literal_true others) ls
  any_agree [] h = refl
  any_agree (l ∷ ls) h =
      ap (λ (t : Bool). t || list_any (literal_true values) ls) (literal_agrees l (All-head (λ l. l.variable < n) l ls h))
      ∙ ap (λ (t : Bool). literal_true others l || t) (any_agree ls (All-tail (λ l. l.variable < n) l ls h))

  activity_agrees : (terms : List (ℤ × Var)) → AreTermsOf n terms → activity values terms ≡ activity others terms
  activity_agrees [] h = refl
  activity_agrees (t ∷ terms) h =
      ap (λ (z : ℤ). (t.0 *ℤ z) +ℤ activity values terms) (same t.1.0 h.0)
      ∙ ap (λ (z : ℤ). (t.0 *ℤ value_of others t.1.0) +ℤ z) (activity_agrees terms h.3)

  pub definition_agrees : (d : Definition) → IsDefinitionOf n d → definition_true values d ≡ definition_true others d
  definition_agrees (all_of ls) h = all_agree ls h
  definition_agrees (any_of ls) h = any_agree ls h
  definition_agrees (same_as f g) h =
      ap (λ (t : Bool). same_truth t (literal_true values g)) (literal_agrees f h.0)
      ∙ ap (λ (t : Bool). same_truth (literal_true others f) t) (literal_agrees g h.1)
  definition_agrees (at_most terms k) h = ap (λ (z : ℤ). int_le z k) (activity_agrees terms h)
  definition_agrees (at_least terms k) h = ap (λ (z : ℤ). int_le k z) (activity_agrees terms h)

pub extended_defined : (values : List ℤ) (ds : List Definition) → AreDefinitionsFrom (length values) ds → AreDefined (extended values ds) (length values) ds
extended_defined values [] known = tt
extended_defined values (d ∷ ds) known =
    let n = length values in
    let z = bit (definition_true values d) in
    let more = values ++ z ∷ [] in
    let all = extended more ds in
    let long : length more ≡ n + 1 = length_push values z in
    let at : value_of all n ≡ z = extended_keeps more ds n (omega arith) ∙ get_or_push values z (pos 0) n refl in
    let keeps : (x : ℕ) → x < n → value_of values x ≡ value_of all x = λ x h. sym (extended_keeps (values) (d ∷ ds) x h) in
    let here : truth_at all n ≡ definition_true values d = ap (λ (v : ℤ). int_le (pos 1) v) at ∙ bit_truth (definition_true values d) in
    let rest = extended_defined more ds (subst (λ (k : ℕ). AreDefinitionsFrom k ds) (sym long) known.1) in
    (here ∙ definition_agrees values all n keeps d known.0, subst (λ (k : ℕ). AreDefined all k ds) long rest)

-- ---- values that agree up to the last naming variable

pub defined_alike : (values others : List ℤ) (n : ℕ) (ds : List Definition) → ((x : ℕ) → x < n + length ds → value_of values x ≡ value_of others x) → AreDefinitionsFrom n ds → AreDefined values n ds → AreDefined others n ds
defined_alike values others n [] same known h = tt
defined_alike values others n (d ∷ ds) same known h =
    let before : (x : ℕ) → x < n → value_of values x ≡ value_of others x = λ x within. same x (omega arith) in
    let own = ap (λ (z : ℤ). int_le (pos 1) z) (same n (omega arith)) in (
      sym own ∙ h.0 ∙ definition_agrees values others n before d known.0,
      defined_alike values others (n + 1) ds (λ x within. same x (omega arith)) known.1 h.1,
    )
