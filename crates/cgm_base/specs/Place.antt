-- A fact of each item of a list together with its place, and the first place at which it fails.
use Rattle.std.specs.Prelude.{◌≡◌, ℕ, ◌+◌, ◌⊎◌, List, [], ◌∷◌}

-- the items, of which the first has this place
abbrev pub EachFrom : {X : Type 0} → ℕ → (ℕ → X → Type 0) → List X → Type 0
EachFrom place P [] = Unit {0}
EachFrom place P (x ∷ xs) = P place x × EachFrom (place + 1) P xs

abbrev pub FirstFailsFrom : {X : Type 0} → ℕ → (ℕ → X → Type 0) → List X → ℕ → Type 0
FirstFailsFrom place P [] failing = ⊥
FirstFailsFrom place P (x ∷ xs) failing =
    ((failing ≡ place) × (¬ P place x)) ⊎ (P place x × FirstFailsFrom (place + 1) P xs failing)

abbrev pub Each : {X : Type 0} → (ℕ → X → Type 0) → List X → Type 0
Each P xs = EachFrom 0 P xs

abbrev pub FirstFails : {X : Type 0} → (ℕ → X → Type 0) → List X → ℕ → Type 0
FirstFails P xs failing = FirstFailsFrom 0 P xs failing
