-- Clauses of paired items, added one pair after another.
use Rattle.std.proofs.Common.{◌≡◌, ℕ, ◌+◌, ◌<◌, ◌≤◌, List, [], ◌∷◌, ◌++◌, length, get_or, drop, sym, ap, ◌∙◌, subst}
use Rattle.std.specs.Prelude.{flat_map}
use Rattle.std.specs.List.{zip}
use Rattle.std.proofs.lemmas.List.{drop_all, drop_more}
use Rattle.cgm_atom.specs.declared.constraints.Clause.{Clause}
use Rattle.cgm_atom.specs.Adding.{CanTake, with_written}
use Rattle.cgm_atom.specs.Instance.{Instance}
use Rattle.cgm_atom.proofs.Additions.{AreLeft, first_left, left_more, left_none}

module _ {X Y : Type 0} (f : X × Y → List Clause) where
  abbrev pub clauses_behind : ℕ → List X → List Y → List Clause
  clauses_behind i xs ys = flat_map f (zip (drop i xs) (drop i ys))

  here : (xs : List X) (ys : List Y) (i : ℕ) (x : X) (d : Y) → i < length xs → i < length ys → x ≡ get_or xs i x → clauses_behind i xs ys ≡ f (x, get_or ys i d) ++ clauses_behind (i + 1) xs ys
  here xs ys i x d in_first in_second is =
      let first : drop i xs ≡ x ∷ drop (i + 1) xs = drop_more xs i x in_first ∙ ap (λ (z : X). z ∷ drop (i + 1) xs) (sym is) in
      let second : drop i ys ≡ get_or ys i d ∷ drop (i + 1) ys = drop_more ys i d in_second in
      ap (λ (l : List X). flat_map f (zip l (drop i ys))) first ∙ ap (λ (l : List Y). flat_map f (zip (x ∷ drop (i + 1) xs) l)) second

  pub pair_first : (old p : Instance) (all : List Clause) (xs : List X) (ys : List Y) (i : ℕ) (x : X) (d : Y) → i < length xs → i < length ys → x ≡ get_or xs i x → AreLeft old all p (clauses_behind i xs ys) → CanTake p (f (x, get_or ys i d))
  pair_first old p all xs ys i x d in_first in_second is far =
      first_left old p all (f (x, get_or ys i d)) (clauses_behind (i + 1) xs ys)
      (subst (λ (rest : List Clause). AreLeft old all p rest) (here xs ys i x d in_first in_second is) far)

  pub pair_more : (old p q : Instance) (all : List Clause) (xs : List X) (ys : List Y) (i : ℕ) (x : X) (d : Y) → i < length xs → i < length ys → x ≡ get_or xs i x → AreLeft old all p (clauses_behind i xs ys) → q ≡ with_written p (f (x, get_or ys i d)) → AreLeft old all q (clauses_behind (i + 1) xs ys)
  pair_more old p q all xs ys i x d in_first in_second is far e =
      left_more old p q all (f (x, get_or ys i d)) (clauses_behind (i + 1) xs ys)
      (subst (λ (rest : List Clause). AreLeft old all p rest) (here xs ys i x d in_first in_second is) far) e

  pub pair_end : (old p : Instance) (all : List Clause) (xs : List X) (ys : List Y) (i : ℕ) → length xs ≤ i → length ys ≤ i → AreLeft old all p (clauses_behind i xs ys) → p ≡ with_written old all
  pair_end old p all xs ys i past over far =
      left_none old p all
      (subst (λ (rest : List Clause). AreLeft old all p rest)
      (ap (λ (l : List X). flat_map f (zip l (drop i ys))) (drop_all i xs past) ∙ ap (λ (l : List Y). flat_map f (zip {K = X} [] l)) (drop_all i ys over)) far)
