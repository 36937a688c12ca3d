-- Lists of views that change at one place, and the entries of a log by their makers.
use Rattle.std.proofs.Common.{◌≡◌, ℕ, zero, suc, ◌+◌, ◌≤◌, ◌<◌, ◌≢◌, Bool, true, false, cond, eq-eqb, ne_eqb, List, [], ◌∷◌, ◌++◌, length, set, refl, sym, ap, subst, ◌∙◌, ⊎_elim, arith, append_assoc, append-nil}
use Rattle.std.specs.Prelude.{◌==◌}
use mathlib.Core.Option.{some, some-injective, some-ne-none}
use lib.ListN.{get_elem?}
use Rattle.std.specs.List.{All}
use Rattle.std.proofs.lemmas.List.Elements.{All-head, All-tail, filter-append}
use Rattle.atomic_table.proofs.Lists.{at_set}
use Rattle.cgm_atom.specs.declared.entries.Entry.{Entry}
use Rattle.cgm_log.specs.Makers.{maker}
use Rattle.cgm_turn.specs.Entries.{BeginsWith, made_by}
use Rattle.cgm_turn.specs.Rule.{total_of}

-- ---- one place of a list

module _ {A : Type 0} where
  pub within : (l : List A) (i : ℕ) (a : A) → get_elem? l i ≡ some a → i < length l
  within [] i a e = absurd (some-ne-none a (sym e))
  within (x ∷ xs) zero a e = omega arith
  within (x ∷ xs) (suc i) a e = omega (arith, within xs i a e)

  -- what holds of all others and of the new one holds of each
  pub each_after : (P : ℕ → A → Type 0) (l : List A) (i : ℕ) (a : A) → P i a → ((j : ℕ) (b : A) → j ≢ i → get_elem? l j ≡ some b → P j b) → (j : ℕ) (b : A) → get_elem? (set l i a) j ≡ some b → P j b
  each_after P l i a new others j b e =
      ⊎_elim (λ t. subst (λ (k : ℕ). P k b) (sym t.0) (subst (P i) t.1 new)) (λ t. others j b t.0 t.1) (at_set l i j a b e)

  pub total-set : (g : A → ℕ) (l : List A) (j : ℕ) (v w : A) → get_elem? l j ≡ some v → total_of g (set l j w) + g v ≡ total_of g l + g w
  total-set g [] j v w e = absurd (some-ne-none v (sym e))
  total-set g (x ∷ xs) zero v w e = omega (arith, ap g (some-injective x v e))
  total-set g (x ∷ xs) (suc j) v w e = omega (arith, total-set g xs j v w e)

  pub total-same : (g : A → ℕ) (l : List A) (j : ℕ) (v w : A) → get_elem? l j ≡ some v → g w ≡ g v → total_of g (set l j w) ≡ total_of g l
  total-same g l j v w e same = let both = total-set g l j v w e in omega arith

  pub term_le : (g : A → ℕ) (l : List A) (j : ℕ) (v : A) → get_elem? l j ≡ some v → g v ≤ total_of g l
  term_le g [] j v e = absurd (some-ne-none v (sym e))
  term_le g (x ∷ xs) zero v e = omega (arith, ap g (some-injective x v e))
  term_le g (x ∷ xs) (suc j) v e = omega (arith, term_le g xs j v e)

  pub terms_le : (g : A → ℕ) (l : List A) (j k : ℕ) (v u : A) → k ≢ j → get_elem? l j ≡ some v → get_elem? l k ≡ some u → g v + g u ≤ total_of g l
  terms_le g [] j k v u n e d = absurd (some-ne-none v (sym e))
  terms_le g (x ∷ xs) zero zero v u n e d = absurd (n refl)
  terms_le g (x ∷ xs) zero (suc k) v u n e d = omega (arith, ap g (some-injective x v e), term_le g xs k u d)
  terms_le g (x ∷ xs) (suc j) zero v u n e d = omega (arith, ap g (some-injective x u d), term_le g xs j v e)
  terms_le g (x ∷ xs) (suc j) (suc k) v u n e d = omega (arith, terms_le g xs j k v u (λ h. n (ap suc h)) e d)

-- ---- one more at the end

module _ {A : Type 0} where
  pub each_more : (P : ℕ → A → Type 0) (l : List A) (a : A) → P (length l) a → ((j : ℕ) (b : A) → get_elem? l j ≡ some b → P j b) → (j : ℕ) (b : A) → get_elem? (l ++ a ∷ []) j ≡ some b → P j b
  each_more P [] a new others zero b e = subst (P 0) (some-injective a b e) new
  each_more P [] a new others (suc j) b e = absurd (some-ne-none b (sym e))
  each_more P (x ∷ xs) a new others zero b e = others zero b e
  each_more P (x ∷ xs) a new others (suc j) b e = each_more (λ i. P (suc i)) xs a new (λ i c at. others (suc i) c at) j b e

  pub total-more : (g : A → ℕ) (l : List A) (a : A) → total_of g (l ++ a ∷ []) ≡ total_of g l + g a
  total-more g [] a = omega arith
  total-more g (x ∷ xs) a = omega (arith, total-more g xs a)

-- ---- fronts

pub begins_self : (log : List Entry) → BeginsWith log log
begins_self log = ([], sym (append-nil log))

pub begins_longer : (log front added : List Entry) → BeginsWith log front → BeginsWith (log ++ added) front
begins_longer log front added h = (h.0 ++ added, ap (λ (xs : List Entry). xs ++ added) h.1 ∙ append_assoc front h.0 added)

-- ---- makers

pub made_by-append : (w : ℕ) (xs ys : List Entry) → made_by w (xs ++ ys) ≡ made_by w xs ++ made_by w ys
made_by-append w xs ys = filter-append (λ e. maker e == w) xs ys

kept : (t : Bool) (e : Entry) (xs : List Entry) → t ≡ true → cond t (e ∷ xs) xs ≡ e ∷ xs
kept true e xs h = refl
kept false e xs h = absurd (cc)

left_out : (t : Bool) (e : Entry) (xs : List Entry) → t ≡ false → cond t (e ∷ xs) xs ≡ xs
left_out true e xs h = absurd (cc)
left_out false e xs h = refl

pub made_by-own : (w : ℕ) (entries : List Entry) → All (λ e. maker e ≡ w) entries → made_by w entries ≡ entries
made_by-own w [] h = refl
made_by-own w (e ∷ entries) h =
    kept (maker e == w) e (made_by w entries) (eq-eqb (maker e) w (All-head (λ x. maker x ≡ w) e entries h))
    ∙ ap (λ (xs : List Entry). e ∷ xs) (made_by-own w entries (All-tail (λ x. maker x ≡ w) e entries h))

pub made_by-others : (w v : ℕ) (entries : List Entry) → w ≢ v → All (λ e. maker e ≡ v) entries → made_by w entries ≡ []
made_by-others w v [] n h = refl
made_by-others w v (e ∷ entries) n h =
    left_out (maker e == w) e (made_by w entries) (ne_eqb (maker e) w (λ same. n (sym same ∙ All-head (λ x. maker x ≡ v) e entries h)))
    ∙ made_by-others w v entries n (All-tail (λ x. maker x ≡ v) e entries h)

-- entries of another leave what one has in the log
pub others_add_none : (w v : ℕ) (old added : List Entry) → w ≢ v → All (λ e. maker e ≡ v) added → made_by w (old ++ added) ≡ made_by w old
others_add_none w v old added n own =
    made_by-append w old added ∙ ap (λ (xs : List Entry). made_by w old ++ xs) (made_by-others w v added n own) ∙ append-nil (made_by w old)

pub own_add_all : (w : ℕ) (old added : List Entry) → All (λ e. maker e ≡ w) added → made_by w (old ++ added) ≡ made_by w old ++ added
own_add_all w old added own =
    made_by-append w old added ∙ ap (λ (xs : List Entry). made_by w old ++ xs) (made_by-own w added own)
