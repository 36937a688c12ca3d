-- A loop that tests the items of a list in order: what the rest of the list settles for the whole.
use Rattle.std.proofs.Common.{◌≡◌, ℕ, ◌+◌, ◌<◌, List, ◌∷◌, length, drop, get_or, refl, sym, subst, inl, inr, ◌∙◌, ap, [], ⊎_elim}
use Rattle.std.proofs.lemmas.List.{drop_more}
use Rattle.cgm_base.specs.Place.{EachFrom, FirstFailsFrom, Each, FirstFails}

-- what holds of the rest from this place on holds of the whole, and so does what fails first
pub record Settles {X : Type 0} (P : ℕ → X → Type 0) (xs rest : List X) (place : ℕ) : Type 0 where
  pub each : EachFrom place P rest → Each P xs
  pub first : (failing : ℕ) → FirstFailsFrom place P rest failing → FirstFails P xs failing

Settles-next : {X : Type 0} (P : ℕ → X → Type 0) (xs rest : List X) (place : ℕ) (x : X) → P place x → Settles P xs (x ∷ rest) place → Settles P xs rest (place + 1)
Settles-next P xs rest place x p s = record {
  each = λ h. s.each (p, h);
  first = λ n h. s.first n (inr (p, h));
}

pub drop-read : {X : Type 0} (xs items : List X) (i : ℕ) (x : X) → items ≡ xs → i < length items → x ≡ get_or items i x → drop i xs ≡ x ∷ drop (i + 1) xs
drop-read {X} xs items i x same l e =
    let R : List X → Type 0 = λ ys. (i < length ys) × (x ≡ get_or ys i x) in
    let at : R xs = subst R same (l, e) in
    drop_more xs i x at.0 ∙ ap (λ y. y ∷ drop (i + 1) xs) (sym at.1)

-- the item at this place holds
pub Settles-more : {X : Type 0} (P : ℕ → X → Type 0) (xs items : List X) (i : ℕ) (x : X) → items ≡ xs → i < length items → x ≡ get_or items i x → P i x → Settles P xs (drop i xs) i → Settles P xs (drop (i + 1) xs) (i + 1)
Settles-more {X} P xs items i x same l e p s =
    let Q : List X → Type 0 = λ rest. Settles P xs rest i in
    Settles-next P xs (drop (i + 1) xs) i x p (subst Q (drop-read xs items i x same l e) s)

-- the item at this place fails
pub first_from_settled : {X : Type 0} (P : ℕ → X → Type 0) (xs items : List X) (i : ℕ) (x : X) → items ≡ xs → i < length items → x ≡ get_or items i x → ¬ P i x → Settles P xs (drop i xs) i → FirstFails P xs i
first_from_settled {X} P xs items i x same l e fails s =
    let Q : List X → Type 0 = λ rest. Settles P xs rest i in
    let t : Settles P xs (x ∷ drop (i + 1) xs) i = subst Q (drop-read xs items i x same l e) s in
    t.first i (inl (refl, fails))

-- what holds of each item fails at none
pub never_both : {X : Type 0} (P : ℕ → X → Type 0) (place : ℕ) (xs : List X) (failing : ℕ) → EachFrom place P xs → FirstFailsFrom place P xs failing → ⊥
never_both P place [] failing each first = first
never_both P place (x ∷ xs) failing each first =
    ⊎_elim (λ h. h.1 each.0) (λ h. never_both P (place + 1) xs failing each.1 h.1) first
