-- A vector is less than another exactly where each clause of the cut holds.
use Rattle.std.proofs.Common.{◌≡◌, Bool, true, false, ◌||◌, List, [], ◌∷◌, map, refl, sym, inl, inr, arith}
use Rattle.std.specs.Prelude.{ℤ, pos, ◌-ℤ◌, ◌<ℤ◌, ◌↔◌, ◌⊎◌, int_le, IsTrue}
use Rattle.std.specs.List.{All, AllByRecursion}
use Rattle.std.proofs.lemmas.Bool.{false≢true, or_left, or_right}
use Rattle.std.proofs.lemmas.Int.{ints}
use Rattle.std.proofs.lemmas.List.Elements.{All-from_recursion, recursion_from_All}
use Rattle.cgm_atom.specs.declared.constraints.Clause.{Clause}
use Rattle.cgm_atom.specs.declared.constraints.Var.{Var}
use Rattle.cgm_atom.specs.Atoms.{clause_true}
use Rattle.cgm_atom.specs.Bounds.{value_of}
use Rattle.cgm_atom.specs.Cut.{cut, with_lesser}
use Rattle.cgm_atom.specs.Instance.{values_at}
use Rattle.cgm_base.specs.Order.{IsLess}
use Rattle.cgm_atom.proofs.SignedSteps.{le_is_true}
use borrow.Author.Differences.{same_in}

-- each clause holds
abbrev AreTrue : List ℤ → List Clause → Type 0
AreTrue values clauses = AllByRecursion (λ c. clause_true values c ≡ true) clauses

-- ---- clauses that begin with an atom that x is lesser

true_by_lesser : (values : List ℤ) (x : Var) (v : ℤ) (clauses : List Clause) → int_le (value_of values x.0) (v -ℤ pos 1) ≡ true → AreTrue values (map (with_lesser x v) clauses)
true_by_lesser values x v [] h = tt
true_by_lesser values x v (c ∷ clauses) h = (or_left _ (clause_true values c) h, true_by_lesser values x v clauses h)

true_by_others : (values : List ℤ) (x : Var) (v : ℤ) (clauses : List Clause) → AreTrue values clauses → AreTrue values (map (with_lesser x v) clauses)
true_by_others values x v [] h = tt
true_by_others values x v (c ∷ clauses) h = (or_right _ (clause_true values c) h.0, true_by_others values x v clauses h.1)

other_true : (t s : Bool) → t ≡ false → (t || s) ≡ true → s ≡ true
other_true true s e h = absurd (false≢true (sym e))
other_true false s e h = h

others_true : (values : List ℤ) (x : Var) (v : ℤ) (clauses : List Clause) → int_le (value_of values x.0) (v -ℤ pos 1) ≡ false → AreTrue values (map (with_lesser x v) clauses) → AreTrue values clauses
others_true values x v [] e h = tt
others_true values x v (c ∷ clauses) e h =
    (other_true _ (clause_true values c) e h.0, others_true values x v clauses e h.1)

-- ---- one way

lesser_test : (u v : ℤ) → u <ℤ v → int_le u (v -ℤ pos 1) ≡ true
lesser_test u v h = le_is_true u (v -ℤ pos 1) (omega (arith, ints))

at_most_test : (u v : ℤ) → u <ℤ v → int_le u v ≡ true
at_most_test u v h = le_is_true u v (omega (arith, ints))

equal_test : (u v : ℤ) → u ≡ v → int_le u v ≡ true
equal_test u v h = le_is_true u v (omega (arith, ints))

cut_of_lesser : (values : List ℤ) (x y : Var) (objectives : List Var) (v : ℤ) (vs : List ℤ) → (IsLess (values_at values (y ∷ objectives)) vs → AreTrue values (cut (y ∷ objectives) vs)) → ((value_of values x.0 <ℤ v) ⊎ ((value_of values x.0 ≡ v) × IsLess (values_at values (y ∷ objectives)) vs)) → AreTrue values (cut (x ∷ y ∷ objectives) (v ∷ vs))
unfolding cut
cut_of_lesser values x y objectives v vs rest (inl h) =
    (or_left _ false (at_most_test _ _ h), true_by_lesser values x v (cut (y ∷ objectives) vs) (lesser_test _ _ h))
cut_of_lesser values x y objectives v vs rest (inr h) =
    (or_left _ false (equal_test _ _ h.0), true_by_others values x v (cut (y ∷ objectives) vs) (rest h.1))

last_cut_of_lesser : (values : List ℤ) (x : Var) (v : ℤ) (vs : List ℤ) → ((value_of values x.0 <ℤ v) ⊎ ((value_of values x.0 ≡ v) × ⊥)) → AreTrue values (cut (x ∷ []) (v ∷ vs))
unfolding cut
last_cut_of_lesser values x v vs (inl h) = (or_left _ false (lesser_test _ _ h), tt)
last_cut_of_lesser values x v vs (inr h) = absurd h.1

cut_true : (objectives : List Var) (values v : List ℤ) → IsLess (values_at values objectives) v → AreTrue values (cut objectives v)
cut_true [] values v h = absurd h
cut_true (x ∷ objectives) values [] h = absurd h
cut_true (x ∷ []) values (v ∷ vs) h = last_cut_of_lesser values x v vs h
cut_true (x ∷ y ∷ objectives) values (v ∷ vs) h =
    cut_of_lesser values x y objectives v vs (cut_true (y ∷ objectives) values vs) h

-- ---- the other way

from_test : (u v : ℤ) → int_le u (v -ℤ pos 1) ≡ true → u <ℤ v
from_test u v h = omega (arith, ints)

same_from_tests : (u v : ℤ) → int_le u v ≡ true → int_le u (v -ℤ pos 1) ≡ false → u ≡ v
same_from_tests u v h k = same_in u v (omega (arith, ints))

only_test : (t : Bool) → (t || false) ≡ true → t ≡ true
only_test true h = refl
only_test false h = h

lesser_of_cut : (values : List ℤ) (x : Var) (v : ℤ) (clauses : List Clause) (others : Type 0) (t : Bool) → int_le (value_of values x.0) (v -ℤ pos 1) ≡ t → int_le (value_of values x.0) v ≡ true → AreTrue values (map (with_lesser x v) clauses) → (AreTrue values clauses → others) → (value_of values x.0 <ℤ v) ⊎ ((value_of values x.0 ≡ v) × others)
lesser_of_cut values x v clauses others true e h k rest = inl (from_test _ _ e)
lesser_of_cut values x v clauses others false e h k rest =
    inr (same_from_tests _ _ h e, rest (others_true values x v clauses e k))

pub less_from_cut : (objectives : List Var) (values v : List ℤ) → AreTrue values (cut objectives v) → IsLess (values_at values objectives) v
unfolding cut
less_from_cut [] values v h = absurd (false≢true h.0)
less_from_cut (x ∷ objectives) values [] h = absurd (false≢true h.0)
less_from_cut (x ∷ []) values (v ∷ vs) h = inl (from_test _ _ (only_test _ h.0))
less_from_cut (x ∷ y ∷ objectives) values (v ∷ vs) h =
    lesser_of_cut values x v (cut (y ∷ objectives) vs) (IsLess (values_at values (y ∷ objectives)) vs) _ refl (only_test _ h.0) h.1
    (less_from_cut (y ∷ objectives) values vs)

pub cut_of_less : (objectives : List Var) (values v : List ℤ) → IsLess (values_at values objectives) v → All (λ c. IsTrue (clause_true values c)) (cut objectives v)
cut_of_less objectives values v h =
    All-from_recursion (λ c. clause_true values c ≡ true) (cut objectives v) (cut_true objectives values v h)

pub cut_is_less : (objectives : List Var) (values v : List ℤ) → IsLess (values_at values objectives) v ↔ All (λ c. IsTrue (clause_true values c)) (cut objectives v)
cut_is_less objectives values v =
    (cut_of_less objectives values v, λ h. less_from_cut objectives values v (recursion_from_All (λ c. clause_true values c ≡ true) (cut objectives v) h))
