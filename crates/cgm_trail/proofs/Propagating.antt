-- Steps of propagation one after another, and the reasons of the trail that they leave.
use Rattle.std.proofs.Common.{◌≡◌, ℕ, zero, suc, ◌+◌, List, [], ◌∷◌, ◌++◌, length, take, map, refl, ap, ◌∙◌, append_assoc, add-zero, arith, length-append}
use Rattle.std.proofs.lemmas.List.{append-nil}
use Rattle.cgm_atom.specs.declared.constraints.Atom.{Atom}
use Rattle.cgm_atom.specs.declared.entries.Hint.{Hint}
use Rattle.cgm_atom.specs.Bounds.{Bounds}
use Rattle.cgm_atom.specs.Constraints.{Constraint}
use Rattle.cgm_atom.specs.Narrowing.{made_true}
use Rattle.cgm_trail.specs.declared.changes.Change.{Change}
use Rattle.cgm_trail.specs.declared.changes.Reason.{Reason}
use Rattle.cgm_trail.specs.declared.changes.Reason.TheVariants.{Decision, By}
use Rattle.cgm_trail.specs.Landing.{hint_landed, landed_change, landed_reason}
use Rattle.cgm_trail.specs.Steps.{AreReasoned, AreSteps, IsGiven, IsPropagated, IsReason, IsStep, grown}
use Rattle.cgm_trail.specs.TrailState.{TrailState, box_after, box_of, change_of, cut_to, decided, jumped, tightened}
use Rattle.cgm_trail.proofs.Cuts.{cut_taken}
use Rattle.cgm_trail.proofs.Replaying.{box_after-append}

-- ---- a propagation

grown_none : (t : TrailState) → t ≡ grown t []
grown_none t = rw (append-nil, add-zero) refl

-- no step
pub none_made : (Names : Hint → Constraint → Type 0) (old new : TrailState) (left left' : ℕ) → new ≡ old → left' ≡ left → IsPropagated Names old new left left'
none_made Names old new left left' e f = record {
  added = [];
  after = e ∙ grown_none old;
  steps = tt;
  spent = omega arith;
}

-- one step
pub one_made : (Names : Hint → Constraint → Type 0) (old new : TrailState) (left left' : ℕ) (a : Atom) (by : Hint) (k : Constraint) → Names by k → IsGiven (box_of old) k a → new ≡ tightened old a by → left' + 1 ≡ left → IsPropagated Names old new left left'
one_made Names old new left left' a by k named given e f = record {
  added = change_of (box_of old) a (By by) ∷ [];
  after = e;
  steps = (record { hint = by; constraint = k; named = named; reason = refl; given = given }, tt);
  spent = f;
}

steps_of_more : (Names Names' : Hint → Constraint → Type 0) (b : Bounds) (added : List Change) → ((h : Hint) (k : Constraint) → Names h k → Names' h k) → AreSteps Names b added → AreSteps Names' b added
steps_of_more Names Names' b [] f h = tt
steps_of_more Names Names' b (c ∷ added) f h = (
  record { hint = h.0.hint; constraint = h.0.constraint; named = f h.0.hint h.0.constraint h.0.named; reason = h.0.reason; given = h.0.given },
  steps_of_more Names Names' (made_true b c.atom) added f h.1,
)

-- the same steps, where the hints may name more
pub more_names : (Names Names' : Hint → Constraint → Type 0) (old new : TrailState) (left left' : ℕ) → ((h : Hint) (k : Constraint) → Names h k → Names' h k) → IsPropagated Names old new left left' → IsPropagated Names' old new left left'
more_names Names Names' old new left left' f h = record {
  added = h.added;
  after = h.after;
  steps = steps_of_more Names Names' (box_of old) h.added f h.steps;
  spent = h.spent;
}

AreSteps-append : (Names : Hint → Constraint → Type 0) (b : Bounds) (xs ys : List Change) → AreSteps Names b xs → AreSteps Names (box_after b xs) ys → AreSteps Names b (xs ++ ys)
AreSteps-append Names b [] ys h k = k
AreSteps-append Names b (x ∷ xs) ys h k = (h.0, AreSteps-append Names (made_true b x.atom) xs ys h.1 k)

grown_twice : (t : TrailState) (xs ys : List Change) → grown (grown t xs) ys ≡ grown t (xs ++ ys)
grown_twice t xs ys =
    let moves : t.moves + length xs + length ys ≡ t.moves + length (xs ++ ys) = omega (arith, length-append xs ys) in
    rw (append_assoc t.changes xs ys, moves) refl

pub box_grown : (t : TrailState) (added : List Change) → box_of (grown t added) ≡ box_after (box_of t) added
box_grown t added = box_after-append t.problem.bounds t.changes added

-- one propagation after another
pub one_after_another : (Names : Hint → Constraint → Type 0) (old mid new : TrailState) (left left' left'' : ℕ) → IsPropagated Names old mid left left' → IsPropagated Names mid new left' left'' → IsPropagated Names old new left left''
one_after_another Names old mid new left left' left'' h k = record {
  added = h.added ++ k.added;
  after = k.after ∙ ap (λ t. grown t k.added) h.after ∙ grown_twice old h.added k.added;
  steps =
      let box : box_of mid ≡ box_after (box_of old) h.added = ap box_of h.after ∙ box_grown old h.added in
      AreSteps-append Names (box_of old) h.added k.added h.steps (rw box at k.steps);
  spent = omega (arith, h.spent, k.spent, length-append h.added k.added);
}

-- ---- reasons

step_is_reasoned : (Names : Hint → Constraint → Type 0) (b : Bounds) (c : Change) → IsStep Names b c → IsReason Names b c.atom c.reason
step_is_reasoned Names b c h = rw h.reason (h.constraint, h.named, h.given)

steps_are_reasoned : (Names : Hint → Constraint → Type 0) (b : Bounds) (added : List Change) → AreSteps Names b added → AreReasoned Names b added
steps_are_reasoned Names b [] h = tt
steps_are_reasoned Names b (c ∷ added) h =
    (step_is_reasoned Names b c h.0, steps_are_reasoned Names (made_true b c.atom) added h.1)

pub AreReasoned-append : (Names : Hint → Constraint → Type 0) (b : Bounds) (xs ys : List Change) → AreReasoned Names b xs → AreReasoned Names (box_after b xs) ys → AreReasoned Names b (xs ++ ys)
AreReasoned-append Names b [] ys h k = k
AreReasoned-append Names b (x ∷ xs) ys h k = (h.0, AreReasoned-append Names (made_true b x.atom) xs ys h.1 k)

pub AreReasoned-take : (Names : Hint → Constraint → Type 0) (b : Bounds) (n : ℕ) (changes : List Change) → AreReasoned Names b changes → AreReasoned Names b (take n changes)
AreReasoned-take Names b zero changes h = tt
AreReasoned-take Names b (suc n) [] h = tt
AreReasoned-take Names b (suc n) (c ∷ changes) h = (h.0, AreReasoned-take Names (made_true b c.atom) n changes h.1)

-- a propagation keeps that each change is a decision or has its reason
pub reasoned_after : (Names : Hint → Constraint → Type 0) (old new : TrailState) (left left' : ℕ) → AreReasoned Names old.problem.bounds old.changes → IsPropagated Names old new left left' → AreReasoned Names new.problem.bounds new.changes
reasoned_after Names old new left left' h k =
    rw k.after
    (AreReasoned-append Names old.problem.bounds old.changes k.added h (steps_are_reasoned Names (box_of old) k.added k.steps))

-- so do a decision,
pub reasoned_decided : (Names : Hint → Constraint → Type 0) (old : TrailState) (a : Atom) → AreReasoned Names old.problem.bounds old.changes → AreReasoned Names old.problem.bounds (decided old a).changes
reasoned_decided Names old a h =
    AreReasoned-append Names old.problem.bounds old.changes (change_of (box_of old) a Decision ∷ []) h (tt, tt)

-- a cut,
pub reasoned_cut : (Names : Hint → Constraint → Type 0) (b : Bounds) (level : ℕ) (changes : List Change) → AreReasoned Names b changes → AreReasoned Names b (cut_to level changes)
reasoned_cut Names b level changes h =
    rw (cut_taken level changes) (AreReasoned-take Names b (length (cut_to level changes)) changes h)

-- and a jump whose atom narrowing by the hint gives after the cut
pub reasoned_jumped : (Names : Hint → Constraint → Type 0) (old : TrailState) (level : ℕ) (a : Atom) (by : Hint) (k : Constraint) → AreReasoned Names old.problem.bounds old.changes → Names by k → IsGiven (box_after old.problem.bounds (cut_to level old.changes)) k a → AreReasoned Names old.problem.bounds (jumped old level a by).changes
reasoned_jumped Names old level a by k h named given =
    AreReasoned-append Names old.problem.bounds (cut_to level old.changes)
    (change_of (box_after old.problem.bounds (cut_to level old.changes)) a (By by) ∷ [])
    (reasoned_cut Names old.problem.bounds level old.changes h)
    ((k, named, given), tt)

reason_of_more : (Names Names' : Hint → Constraint → Type 0) (b : Bounds) (a : Atom) (r : Reason) → ((h : Hint) (k : Constraint) → Names h k → Names' h k) → IsReason Names b a r → IsReason Names' b a r
reason_of_more Names Names' b a Decision f h = tt
reason_of_more Names Names' b a (By by) f h = (h.0, f by h.0 h.1, h.2)

-- the same reasons, where the hints may name more
pub reasoned_by_more : (Names Names' : Hint → Constraint → Type 0) (b : Bounds) (changes : List Change) → ((h : Hint) (k : Constraint) → Names h k → Names' h k) → AreReasoned Names b changes → AreReasoned Names' b changes
reasoned_by_more Names Names' b [] f h = tt
reasoned_by_more Names Names' b (c ∷ changes) f h =
    (reason_of_more Names Names' b c.atom c.reason f h.0, reasoned_by_more Names Names' (made_true b c.atom) changes f h.1)

reason_landed : (Names Names' : Hint → Constraint → Type 0) (first : ℕ) (b : Bounds) (a : Atom) (r : Reason) → ((h : Hint) (k : Constraint) → Names h k → Names' (hint_landed first h) k) → IsReason Names b a r → IsReason Names' b a (landed_reason first r)
reason_landed Names Names' first b a Decision f h = tt
reason_landed Names Names' first b a (By by) f h = (h.0, f by h.0 h.1, h.2)

-- the reasons after landing, where a landed hint names what the hint named
pub reasoned_landed : (Names Names' : Hint → Constraint → Type 0) (first : ℕ) (b : Bounds) (changes : List Change) → ((h : Hint) (k : Constraint) → Names h k → Names' (hint_landed first h) k) → AreReasoned Names b changes → AreReasoned Names' b (map (landed_change first) changes)
reasoned_landed Names Names' first b [] f h = tt
reasoned_landed Names Names' first b (c ∷ changes) f h =
    (reason_landed Names Names' first b c.atom c.reason f h.0, reasoned_landed Names Names' first (made_true b c.atom) changes f h.1)
