-- Lists that are all empty.
use Rattle.std.proofs.Common.{◌≡◌, ℕ, zero, suc, List, [], ◌∷◌, ◌++◌, get_or, refl}

-- lists that are all empty, and one more
pub empty_more : {X : Type 0} (lists : List (List X)) → ((k : ℕ) → get_or lists k [] ≡ []) → (k : ℕ) → get_or (lists ++ [] ∷ []) k [] ≡ []
empty_more [] empty zero = refl
empty_more [] empty (suc k) = refl
empty_more (xs ∷ lists) empty zero = empty zero
empty_more (xs ∷ lists) empty (suc k) = empty_more lists (λ j. empty (suc j)) k
