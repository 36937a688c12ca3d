-- A group of clauses, one part for each item of a list: what each part means, the whole means of each item.
use Rattle.std.proofs.Common.{◌≡◌, ℕ, ◌+◌, ◌*◌, ◌<◌, ◌≤◌, true, ◌&&◌, List, [], ◌∷◌, ◌++◌, length, refl, sym, ap, ◌∙◌, subst, Decides, arith}
use Rattle.std.specs.Prelude.{ℤ}
use Rattle.std.specs.List.{All, list_all}
use Rattle.std.proofs.lemmas.Bool.Decides.{Decides-and, Decides-at}
use Rattle.std.proofs.lemmas.List.{length-append}
use Rattle.std.proofs.lemmas.List.Elements.{All-append, All-head, All-nil, All-tail}
use Rattle.std.proofs.lemmas.List.Folds.{list_all-append}
use Rattle.cgm_atom.specs.declared.constraints.Clause.{Clause}
use Rattle.cgm_atom.specs.Atoms.{clause_true}
use Rattle.cgm_atom.proofs.Additions.{Steps}
use Rattle.cgm_base.specs.Place.{EachFrom}

-- the clauses are all true exactly where P holds
abbrev pub Mean : List ℤ → List Clause → Type 0 → Type 0
Mean values clauses P = Decides (list_all (clause_true values) clauses) P

pub Mean-append : (values : List ℤ) (xs ys : List Clause) (P Q : Type 0) → Mean values xs P → Mean values ys Q → Mean values (xs ++ ys) (P × Q)
Mean-append values xs ys P Q h k =
    let all = list_all (clause_true values) in
    Decides-at (all (xs ++ ys)) (all xs && all ys) (list_all-append (clause_true values) xs ys) (Decides-and (all xs) (all ys) h k)

-- what holds of each item by what is known of it and of its place
pub each_from : {X : Type 0} (A : X → Type 0) (P : ℕ → X → Type 0) (bound place : ℕ) (xs : List X) → place + length xs ≤ bound → All A xs → ((k : ℕ) (x : X) → k < bound → A x → P k x) → EachFrom place P xs
each_from A P bound place [] fits known h = tt
each_from A P bound place (x ∷ xs) fits known h =
    (h place x (omega arith) (All-head A x xs known), each_from A P bound (place + 1) xs (omega arith) (All-tail A x xs known) h)

module _ {X : Type 0} (whole : ℕ → List X → List Clause) (part : ℕ → X → List Clause) where
  abbrev pub Ends : Type 0
  Ends = (i : ℕ) → whole i [] ≡ []

  pub whole_means : (values : List ℤ) (Q : ℕ → X → Type 0) (place : ℕ) (xs : List X) → Steps whole part → Ends → EachFrom place (λ k x. Mean values (part k x) (Q k x)) xs → Mean values (whole place xs) (EachFrom place Q xs)
  whole_means values Q place [] steps ends h =
      Decides-at (list_all (clause_true values) (whole place [])) true (ap (λ (clauses : List Clause). list_all (clause_true values) clauses) (ends place)) (λ _. tt, λ _. refl)
  whole_means values Q place (x ∷ xs) steps ends h =
      let all = list_all (clause_true values) in
      Decides-at (all (whole place (x ∷ xs))) (all (part place x ++ whole (place + 1) xs)) (ap (λ (clauses : List Clause). all clauses) (steps place x xs))
      (Mean-append values (part place x) (whole (place + 1) xs) (Q place x) (EachFrom (place + 1) Q xs) h.0 (whole_means values Q (place + 1) xs steps ends h.1))

  pub whole_all : (P : Clause → Type 0) (place : ℕ) (xs : List X) → Steps whole part → Ends → EachFrom place (λ k x. All P (part k x)) xs → All P (whole place xs)
  whole_all P place [] steps ends h = subst (λ (clauses : List Clause). All P clauses) (sym (ends place)) (All-nil P)
  whole_all P place (x ∷ xs) steps ends h =
      subst (λ (clauses : List Clause). All P clauses) (sym (steps place x xs))
      (All-append P (part place x) (whole (place + 1) xs) h.0 (whole_all P (place + 1) xs steps ends h.1))

  pub whole_few : (most place : ℕ) (xs : List X) → Steps whole part → Ends → EachFrom place (λ k x. length (part k x) ≤ most) xs → length (whole place xs) ≤ length xs * most
  whole_few most place [] steps ends h =
      let none : length (whole place []) ≡ 0 = ap (λ (clauses : List Clause). length clauses) (ends place) in
      omega arith
  whole_few most place (x ∷ xs) steps ends h =
      let total : length (whole place (x ∷ xs)) ≡ length (part place x) + length (whole (place + 1) xs) =
      ap (λ (clauses : List Clause). length clauses) (steps place x xs) ∙ length-append (part place x) (whole (place + 1) xs) in
      let first = h.0 in
      let rest = whole_few most (place + 1) xs steps ends h.1 in
      grind arith
