-- The box after changes: a change more, a change taken back, and that it stays a box of the problem.
use Rattle.std.proofs.Common.{◌≡◌, ℕ, zero, suc, ◌+◌, ◌<◌, Bool, true, false, List, [], ◌∷◌, ◌++◌, length, get_or, take, refl, ◌∙◌, ap, arith}
use Rattle.std.specs.Prelude.{ℤ, ◌≤ℤ◌, IsTrue, int_lt}
use Rattle.std.proofs.lemmas.Int.{ints}
use Rattle.std.proofs.lemmas.List.{take_more}
use Rattle.cgm_atom.specs.declared.constraints.Atom.{Atom}
use Rattle.cgm_atom.specs.declared.constraints.Var.{Var}
use Rattle.cgm_atom.specs.Bounds.{Bounds, IsBoxOf, AreProperBounds, lower_of, upper_of}
use Rattle.cgm_atom.specs.Laws.{IsSmaller}
use Rattle.cgm_atom.specs.Narrowing.{is_false_in, is_true_in, made_true}
use Rattle.cgm_atom.specs.Relaxing.{at_bound_of, relaxed}
use Rattle.cgm_atom.proofs.Assuming.{box_raised, box_reduced}
use Rattle.cgm_atom.proofs.Relaxing.{undone}
use Rattle.cgm_atom.proofs.Shrinking.{made_true_shrinks}
use Rattle.cgm_atom.proofs.SignedSteps.{le_is_true}
use Rattle.cgm_trail.specs.declared.changes.Change.{Change}
use Rattle.cgm_trail.specs.Earlier.{earlier_bound}
use Rattle.cgm_trail.specs.TrailState.{AreChanges, IsChangeOf, IsOpenIn, box_after}

pub box_after-append : (b : Bounds) (changes more : List Change) → box_after b (changes ++ more) ≡ box_after (box_after b changes) more
box_after-append b [] more = refl
box_after-append b (c ∷ changes) more = box_after-append (made_true b c.atom) changes more

pub AreChanges-append : (b : Bounds) (changes more : List Change) → AreChanges b changes → AreChanges (box_after b changes) more → AreChanges b (changes ++ more)
AreChanges-append b [] more h k = k
AreChanges-append b (c ∷ changes) more h k = (h.0, AreChanges-append (made_true b c.atom) changes more h.1 k)

pub AreChanges-take : (b : Bounds) (n : ℕ) (changes : List Change) → AreChanges b changes → AreChanges b (take n changes)
AreChanges-take b zero changes h = tt
AreChanges-take b (suc n) [] h = tt
AreChanges-take b (suc n) (c ∷ changes) h = (h.0, AreChanges-take (made_true b c.atom) n changes h.1)

-- the change at a place is one of the box after those before it
pub change_at : (b : Bounds) (changes : List Change) (n : ℕ) (d : Change) → n < length changes → AreChanges b changes → IsChangeOf (box_after b (take n changes)) (get_or changes n d)
change_at b [] n d h k = absurd (omega arith)
change_at b (c ∷ changes) zero d h k = k.0
change_at b (c ∷ changes) (suc n) d h k = change_at (made_true b c.atom) changes n d (omega arith) k.1

pub box_after-more : (b : Bounds) (changes : List Change) (n : ℕ) (d : Change) → n < length changes → box_after b (take (n + 1) changes) ≡ made_true (box_after b (take n changes)) (get_or changes n d).atom
box_after-more b changes n d h =
    ap (box_after b) (take_more changes n d h) ∙ box_after-append b (take n changes) (get_or changes n d ∷ [])

-- ---- taking back

below_is_true : (b : Bounds) (x : Var) (up : Bool) (k : ℤ) → IsTrue (is_true_in (made_true b (record { var = x; at_least = up; k = k })) (at_bound_of b (record { var = x; at_least = up; k = k })))
below_is_true b x true k =
    le_is_true _ _ ((made_true_shrinks b (record { var = x; at_least = true; k = k })).inside x.0).0
below_is_true b x false k =
    le_is_true _ _ ((made_true_shrinks b (record { var = x; at_least = false; k = k })).inside x.0).1

-- the bound that an atom had before is met after the atom was made true
pub earlier_bound_met : (b : Bounds) (a : Atom) → IsTrue (is_true_in (made_true b a) (at_bound_of b a))
earlier_bound_met b a = below_is_true b a.var a.at_least a.k

-- what relaxing to an atom asks of the box after `m` changes, and that it gives the box after the first `n`
pub record IsTakenBack (b : Bounds) (changes : List Change) (n m : ℕ) (a : Atom) : Type 0 where
  pub known : a.var.0 < length (box_after b (take m changes)).lower
  pub met : IsTrue (is_true_in (box_after b (take m changes)) a)
  pub after : relaxed (box_after b (take m changes)) a ≡ box_after b (take n changes)

taken_back_from : (b made : Bounds) (a : Atom) → IsOpenIn b a → made ≡ made_true b a → (a.var.0 < length made.lower) × IsTrue (is_true_in made (at_bound_of b a)) × (relaxed made (at_bound_of b a) ≡ b)
taken_back_from b made a h e =
    let smaller : IsSmaller (made_true b a) b = made_true_shrinks b a in
    let known = h.known in
    rw e (omega (arith, smaller.lower_count, known), earlier_bound_met b a, undone b a)

same_earlier : (b : Bounds) (c : Change) → IsChangeOf b c → earlier_bound c ≡ at_bound_of b c.atom
same_earlier b c h = ap (λ z. record { var = c.atom.var; at_least = c.atom.at_least; k = z }) h.before

pub taken_back : (b : Bounds) (changes : List Change) (n m : ℕ) (d : Change) (a : Atom) → a ≡ earlier_bound (get_or changes n d) → m ≡ n + 1 → n < length changes → AreChanges b changes → IsTakenBack b changes n m a
taken_back b changes n m d a same e h k =
    let q = change_at b changes n d h k in
    let t = taken_back_from (box_after b (take n changes)) (box_after b (take (n + 1) changes)) (get_or changes n d).atom q.undecided (box_after-more b changes n d h) in
    rw (e, same, same_earlier (box_after b (take n changes)) (get_or changes n d) q)
    (record { known = t.0; met = t.1; after = t.2 })

-- ---- boxes of the problem

not_above : (a b : ℤ) → int_lt a b ≡ false → b ≤ℤ a
not_above a b h = grind (arith, ints)

box_made_by : (limits b : Bounds) (x : Var) (up : Bool) (k : ℤ) → is_false_in b (record { var = x; at_least = up; k = k }) ≡ false → IsBoxOf limits b → IsBoxOf limits (made_true b (record { var = x; at_least = up; k = k }))
box_made_by limits b x true k h place = box_raised limits b x.0 k (not_above (upper_of b x.0) k h) place
box_made_by limits b x false k h place = box_reduced limits b x.0 k (not_above k (lower_of b x.0) h) place

pub box_made_true : (limits b : Bounds) (a : Atom) → IsOpenIn b a → IsBoxOf limits b → IsBoxOf limits (made_true b a)
box_made_true limits b a h place = box_made_by limits b a.var a.at_least a.k h.not_false place

pub box_after-of : (limits b : Bounds) (changes : List Change) → IsBoxOf limits b → AreChanges b changes → IsBoxOf limits (box_after b changes)
box_after-of limits b [] place h = place
box_after-of limits b (c ∷ changes) place h =
    box_after-of limits (made_true b c.atom) changes (box_made_true limits b c.atom h.0.undecided place) h.1

same_bound : (z : ℤ) → z ≤ℤ z
same_bound z = omega (arith, ints)

pub box_of_itself : (b : Bounds) → AreProperBounds b → IsBoxOf b b
box_of_itself b h = record {
  lower_count = refl;
  upper_count = h.same_count;
  inside = λ x. (same_bound (lower_of b x), same_bound (upper_of b x));
  ordered = h.ordered;
}
