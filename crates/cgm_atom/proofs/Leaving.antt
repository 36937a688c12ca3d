-- The atoms of a clause that a box leaves.
use Rattle.std.proofs.Common.{◌≡◌, ℕ, zero, suc, ◌+◌, ◌<◌, Bool, true, false, cond, List, [], ◌∷◌, length, get_or, drop, ap, sym, ◌∙◌, subst, arith}
use Rattle.std.specs.Prelude.{slice_get, not, pos}
use Rattle.std.specs.declared.option.Option.TheVariants.{Some, None}
use Rattle.std.proofs.lemmas.Option.{same_Some, slice_get-get_or}
use Rattle.cgm_atom.specs.declared.constraints.Atom.{Atom}
use Rattle.cgm_atom.specs.Bounds.{Bounds}
use Rattle.cgm_atom.specs.Narrowing.{is_false_in, left_by_atoms, left_by_clause, made_true}
use Rattle.cgm_atom.specs.ClauseAtoms.{IsFirstLeft, left_in}

drop_from : (atoms : List Atom) (i : ℕ) (a : Atom) → slice_get atoms i ≡ Some a → drop i atoms ≡ a ∷ drop (suc i) atoms
drop_from [] i a e = absurd (cc)
drop_from (x ∷ atoms) zero a e = ap (λ (y : Atom). y ∷ atoms) (same_Some x a e)
drop_from (x ∷ atoms) (suc i) a e = drop_from atoms i a e

left_from : (b : Bounds) (atoms : List Atom) (i : ℕ) (a : Atom) → slice_get atoms i ≡ Some a → left_in b (drop i atoms) ≡ cond (not (is_false_in b a)) (a ∷ left_in b (drop (i + 1) atoms)) (left_in b (drop (i + 1) atoms))
left_from b atoms i a e =
    let one : suc i ≡ i + 1 = omega arith in
    ap (left_in b) (drop_from atoms i a e)
    ∙ ap (λ (n : ℕ). cond (not (is_false_in b a)) (a ∷ left_in b (drop n atoms)) (left_in b (drop n atoms))) one

-- an atom that isn't false is left
pub left_at : (b : Bounds) (atoms : List Atom) (i : ℕ) (a : Atom) → slice_get atoms i ≡ Some a → is_false_in b a ≡ false → left_in b (drop i atoms) ≡ a ∷ left_in b (drop (i + 1) atoms)
left_at b atoms i a e h =
    left_from b atoms i a e
    ∙ ap (λ (t : Bool). cond (not t) (a ∷ left_in b (drop (i + 1) atoms)) (left_in b (drop (i + 1) atoms))) h

-- an atom that is false isn't
pub left_past : (b : Bounds) (atoms : List Atom) (i : ℕ) (a : Atom) → slice_get atoms i ≡ Some a → is_false_in b a ≡ true → left_in b (drop i atoms) ≡ left_in b (drop (i + 1) atoms)
left_past b atoms i a e h =
    left_from b atoms i a e
    ∙ ap (λ (t : Bool). cond (not t) (a ∷ left_in b (drop (i + 1) atoms)) (left_in b (drop (i + 1) atoms))) h

-- the first atom that is left, where those before it from a place on are false
pub first_left_at : (b : Bounds) (atoms : List Atom) (start i : ℕ) (a : Atom) → i < length atoms → slice_get atoms i ≡ Some a → is_false_in b a ≡ false → left_in b (drop start atoms) ≡ left_in b (drop i atoms) → IsFirstLeft b atoms start (Some i)
first_left_at b atoms start i a within e h passed = (
  within,
  λ (x : Atom) (k : slice_get atoms i ≡ Some x).
      let same : a ≡ x = same_Some a x (sym e ∙ k) in
      subst (λ (y : Atom). (is_false_in b y ≡ false) × (left_in b (drop start atoms) ≡ y ∷ left_in b (drop (i + 1) atoms))) same
      (h, passed ∙ left_at b atoms i a e h),
)

-- ---- what the clause leaves, by its first atoms that are left

by_left : (b : Bounds) (atoms : List Atom) (kept : List Atom) → left_in b (drop 0 atoms) ≡ kept → left_by_clause b (record { atoms = atoms }) ≡ left_by_atoms b kept
unfolding left_by_clause
by_left b atoms kept e = ap (left_by_atoms b) e

pub none_left : (b : Bounds) (atoms : List Atom) → IsFirstLeft b atoms 0 None → left_by_clause b (record { atoms = atoms }) ≡ None
none_left b atoms h = by_left b atoms [] h

pub one_left : (b : Bounds) (atoms : List Atom) (i : ℕ) (a : Atom) → IsFirstLeft b atoms 0 (Some i) → slice_get atoms i ≡ Some a → IsFirstLeft b atoms (i + 1) None → left_by_clause b (record { atoms = atoms }) ≡ Some (made_true b a)
one_left b atoms i a h e k = by_left b atoms (a ∷ []) ((h.1 a e).1 ∙ ap (λ (rest : List Atom). a ∷ rest) k)

pub more_left : (b : Bounds) (atoms : List Atom) (i j : ℕ) → IsFirstLeft b atoms 0 (Some i) → IsFirstLeft b atoms (i + 1) (Some j) → left_by_clause b (record { atoms = atoms }) ≡ Some b
more_left b atoms i j h k =
    let d : Atom = record { var = record { 0 = 0 }; at_least = true; k = pos 0 } in
    let first = slice_get-get_or atoms i d h.0 in
    let second = slice_get-get_or atoms j d k.0 in
    by_left b atoms (get_or atoms i d ∷ get_or atoms j d ∷ left_in b (drop (j + 1) atoms))
    ((h.1 (get_or atoms i d) first).1 ∙ ap (λ (rest : List Atom). get_or atoms i d ∷ rest) (k.1 (get_or atoms j d) second).1)
