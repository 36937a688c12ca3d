-- Words in a row: those of the items taken so far, and what is left of them.
use Rattle.std.proofs.Common.{◌≡◌, ◌≢◌, ℕ, suc, ◌⊎◌, inl, inr, List, [], ◌∷◌, ◌++◌, All, refl, sym, ap, ◌∙◌, map, arith, append_assoc}
use Rattle.std.proofs.lemmas.List.{map_push}

-- one more item is taken
pub taken : {X : Type 0} (f : X → List ℕ) (items : List X) (x : X) (whole rest more : List (List ℕ)) (word : List ℕ) → whole ≡ map f items ++ rest → rest ≡ word ∷ more → word ≡ f x → whole ≡ map f (items ++ x ∷ []) ++ more
taken f items x whole rest more word e split found =
    e ∙ ap (λ l. map f items ++ l) (split ∙ ap (λ w. w ∷ more) found) ∙ sym (append_assoc (map f items) (f x ∷ []) more) ∙ ap (λ l. l ++ more) (sym (map_push f items x))

-- the first word that isn't taken is the word of an item
pub stray : {X : Type 0} (f : X → List ℕ) (P : X → Type 0) (items others : List X) (word : List ℕ) (more : List (List ℕ)) → All P others → map f others ≡ map f items ++ word ∷ more → (x : X) × (P x × (word ≡ f x))
stray f P [] [] word more all e = absurd (cc)
stray f P [] (x ∷ xs) word more all e = (x, (all 0 x (omega arith), cc))
stray f P (i ∷ items) [] word more all e = absurd (cc)
stray f P (i ∷ items) (x ∷ xs) word more all e =
    stray f P items xs word more (λ k d within. all (suc k) d (omega (arith, within))) (cc)

-- where a mark ends the words, the first word that isn't taken is the word of an item or the mark
pub stray_or_mark : {X : Type 0} (f : X → List ℕ) (P : X → Type 0) (items others : List X) (word mark : List ℕ) (more after : List (List ℕ)) → All P others → map f others ++ mark ∷ after ≡ map f items ++ word ∷ more → ((x : X) → P x → f x ≢ mark) → All P items → ((x : X) × (P x × (word ≡ f x))) ⊎ (word ≡ mark)
stray_or_mark f P [] [] word mark more after all e apart known = inr cc
stray_or_mark f P [] (x ∷ xs) word mark more after all e apart known = inl (x, (all 0 x (omega arith), cc))
stray_or_mark f P (i ∷ items) [] word mark more after all e apart known = absurd (apart i (known 0 i (omega arith)) (cc))
stray_or_mark f P (i ∷ items) (x ∷ xs) word mark more after all e apart known =
    stray_or_mark f P items xs word mark more after (λ k d within. all (suc k) d (omega (arith, within))) (cc) apart (λ k d within. known (suc k) d (omega (arith, within)))

-- the words of items have no mark among them
pub unmarked : {X : Type 0} (f : X → List ℕ) (P : X → Type 0) (items others : List X) (mark : List ℕ) (after : List (List ℕ)) → map f others ++ mark ∷ after ≡ map f items → ((x : X) → P x → f x ≢ mark) → All P items → ⊥
unmarked f P [] [] mark after e apart known = cc
unmarked f P [] (x ∷ xs) mark after e apart known = cc
unmarked f P (i ∷ items) [] mark after e apart known = apart i (known 0 i (omega arith)) (cc)
unmarked f P (i ∷ items) (x ∷ xs) mark after e apart known =
    unmarked f P items xs mark after (cc) apart (λ k d within. known (suc k) d (omega (arith, within)))

-- where a mark ends the words of items, the words before it and those after it are determined
pub marked : {X : Type 0} (f : X → List ℕ) (P : X → Type 0) (items others : List X) (mark : List ℕ) (more after : List (List ℕ)) → map f others ++ mark ∷ after ≡ map f items ++ mark ∷ more → ((x : X) → P x → f x ≢ mark) → All P items → All P others → (map f others ≡ map f items) × (after ≡ more)
marked f P [] [] mark more after e apart known all = (refl, cc)
marked f P [] (x ∷ xs) mark more after e apart known all = absurd (apart x (all 0 x (omega arith)) (cc))
marked f P (i ∷ items) [] mark more after e apart known all = absurd (apart i (known 0 i (omega arith)) (cc))
marked f P (i ∷ items) (x ∷ xs) mark more after e apart known all =
    let rest = marked f P items xs mark more after (cc) apart (λ k d within. known (suc k) d (omega (arith, within))) (λ k d within. all (suc k) d (omega (arith, within))) in
    let first : f x ≡ f i = cc in
    (ap (λ l. f x ∷ l) rest.0 ∙ ap (λ w. w ∷ map f items) first, rest.1)
