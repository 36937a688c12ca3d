-- Steps of propagation: changes that narrowing by what their hints name makes, each from the box before it.
use Rattle.std.specs.Prelude.{◌≡◌, ℕ, ◌+◌, List, [], ◌∷◌, ◌++◌, length, IsTrue, IsSomeAnd}
use Rattle.cgm_atom.specs.declared.constraints.Atom.{Atom}
use Rattle.cgm_atom.specs.declared.entries.Hint.{Hint}
use Rattle.cgm_atom.specs.Bounds.{Bounds}
use Rattle.cgm_atom.specs.Constraints.{Constraint, left_by}
use Rattle.cgm_atom.specs.Narrowing.{is_true_in, made_true}
use Rattle.cgm_atom.specs.Relaxing.{bound_of}
use Rattle.cgm_trail.specs.declared.changes.Change.{Change}
use Rattle.cgm_trail.specs.declared.changes.Reason.{Reason}
use Rattle.cgm_trail.specs.declared.changes.Reason.TheVariants.{Decision, By}
use Rattle.cgm_trail.specs.TrailState.{TrailState, box_of}

-- the clause or row leaves a box of which the atom is true, with just the bound that making it true gives
pub record IsGiven (b : Bounds) (k : Constraint) (a : Atom) : Type 0 where
  pub cause : IsSomeAnd (left_by b k) (λ left. IsTrue (is_true_in left a))
  pub exact : IsSomeAnd (left_by b k) (λ left. bound_of left a ≡ bound_of (made_true b a) a)

-- the reason is a decision, or a hint by which narrowing gives the atom
abbrev pub IsReason : (Hint → Constraint → Type 0) → Bounds → Atom → Reason → Type 0
IsReason Names b a Decision = Unit {0}
IsReason Names b a (By h) = (k : Constraint) × Names h k × IsGiven b k a

-- each change that isn't a decision is one that narrowing by its hint makes from the box before it
abbrev pub AreReasoned : (Hint → Constraint → Type 0) → Bounds → List Change → Type 0
AreReasoned Names b [] = Unit {0}
AreReasoned Names b (c ∷ changes) =
    IsReason Names b c.atom c.reason × AreReasoned Names (made_true b c.atom) changes

-- a change that narrowing by its hint makes, and no decision
pub record IsStep (Names : Hint → Constraint → Type 0) (b : Bounds) (c : Change) : Type 0 where
  pub hint : Hint
  pub constraint : Constraint
  pub named : Names hint constraint
  pub reason : c.reason ≡ By hint
  pub given : IsGiven b constraint c.atom

abbrev pub AreSteps : (Hint → Constraint → Type 0) → Bounds → List Change → Type 0
AreSteps Names b [] = Unit {0}
AreSteps Names b (c ∷ changes) = IsStep Names b c × AreSteps Names (made_true b c.atom) changes

-- the trail with more changes at its end, each of them a move
abbrev pub grown : TrailState → List Change → TrailState
grown t added = record t { changes = t.changes ++ added; moves = t.moves + length added }

-- the trail grew by steps alone, each of which took one from `left`
pub record IsPropagated (Names : Hint → Constraint → Type 0) (old new : TrailState) (left left' : ℕ) : Type 0 where
  pub added : List Change
  pub after : new ≡ grown old added
  pub steps : AreSteps Names (box_of old) added
  pub spent : left' + length added ≡ left

-- the one hint, and what it names
abbrev pub IsOnly : Hint → Constraint → Hint → Constraint → Type 0
IsOnly hint constraint h k = (h ≡ hint) × (k ≡ constraint)
