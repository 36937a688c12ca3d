-- The walk back over a trail: the box that is still needed for the conflict, and the hints that lead from it to conflict.
use Rattle.std.specs.Prelude.{◌≡◌, ◌≢◌, Bool, true, false, cond, ℕ, ◌^◌, ◌<◌, ◌≤◌, ◌≤ℤ◌, List, [], ◌∷◌, length, map, take, reverse, slice_get, int_le, int_lt, pos, ◌+ℤ◌, ◌-ℤ◌, if◌then◌else◌, IfSome, IsSomeAnd, Option, Some, None, Result, Ok, Err}
use Rattle.std.specs.List.{All}
use Rattle.cgm_atom.specs.declared.constraints.Atom.{Atom}
use Rattle.cgm_atom.specs.declared.entries.Hint.{Hint}
use Rattle.cgm_atom.specs.Bounds.{Bounds, IsBoxOf, AreProperBounds, lower_of, upper_of}
use Rattle.cgm_atom.specs.ClauseAtoms.{AreKnown}
use Rattle.cgm_atom.specs.Constraints.{Constraint, left_by}
use Rattle.cgm_atom.specs.Laws.{IsSmaller}
use Rattle.cgm_atom.specs.Limits.{IsBound}
use Rattle.cgm_atom.specs.LogState.{all_narrowed, greatest_carried}
use Rattle.cgm_atom.specs.Narrowing.{is_false_in, is_true_in}
use Rattle.cgm_atom.specs.Placing.{placed}
use Rattle.cgm_atom.specs.Ranges.{IsAtomInRange, IsHintInRange}
use Rattle.cgm_atom.specs.Steps.{AreBounds}
use Rattle.cgm_trail.specs.declared.changes.Change.{Change}
use Rattle.cgm_trail.specs.Steps.{AreReasoned}
use Rattle.cgm_trail.specs.TrailState.{IsOpenIn, TrailState, box_after, is_decision, level_of}
use Rattle.cgm_learn.specs.declared.hints.Used.{Used}
use Rattle.cgm_learn.specs.declared.learned.Learned.{Learned}
use Rattle.cgm_learn.specs.declared.places.Place.{Place}
use Rattle.cgm_learn.specs.declared.walks.Turn.{Turn}
use Rattle.cgm_learn.specs.declared.walks.Walk.{Walk}
use Rattle.cgm_learn.specs.Grounds.{GroundState, IsKnownOn, whole_state}
use Rattle.cgm_learn.specs.Learning.{IsConflictIn, IsNameAfter, IsAcceptedLemma, IsLemmaInRange, IsUnitAfterCut, named_after}

-- the trail is one of the problem, and each change that isn't a decision has a reason
pub record IsReasoned (g : GroundState) (t : TrailState) : Type 0 where
  pub problem : t.problem ≡ g.problem
  pub reasons : AreReasoned (IsNameAfter g.problem g.state g.pending) g.problem.bounds t.changes

-- what the hint names is in conflict with the box
abbrev pub IsConflictOn : GroundState → Bounds → Hint → Type 0
IsConflictOn g b h = IsConflictIn g.problem g.state g.pending b h

-- ---- places of a trail

abbrev pub box_at : TrailState → ℕ → Bounds
box_at t n = box_after t.problem.bounds (take n t.changes)

-- the first changes, how many levels they open, and the box that they lead to
pub record IsPlaceOf (t : TrailState) (w : Place) : Type 0 where
  pub within : w.at ≤ length t.changes
  pub level : w.level ≡ level_of (take w.at t.changes)
  pub state : w.state ≡ box_at t w.at

-- the change after the first n is a decision
abbrev pub IsDecisionAt : TrailState → ℕ → Type 0
IsDecisionAt t n = (c : Change) × (slice_get t.changes n ≡ Some c) × (is_decision c ≡ true)

-- the bounds of variable x in the inner box lie in those of the outer
abbrev pub IsInsideAt : Bounds → Bounds → ℕ → Type 0
IsInsideAt inner outer x = (lower_of outer x ≤ℤ lower_of inner x) × (upper_of inner x ≤ℤ upper_of outer x)

-- the box has a bound that is met by what the bound was before the change
abbrev pub is_met_before : Bounds → Change → Bool
is_met_before b c =
    cond c.atom.at_least (int_le (lower_of b c.atom.var.0) c.was) (int_le c.was (upper_of b c.atom.var.0))

-- ---- the box that is needed, and the hints from the last to the first

-- the hints in the order in which they are followed, each placed
abbrev pub followed : ℕ → List Hint → List Hint
followed n hints = map (placed n) (reverse hints)

-- the hint names something, and its numbers are in range
pub record IsUsable (g : GroundState) (h : Hint) : Type 0 where
  pub known : IsKnownOn g h
  pub range : IsHintInRange h
  pub there : named_after g.problem g.state g.pending h ≢ None

-- the bound is the greatest that the hints carry
pub record IsUsed (g : GroundState) (u : Used) : Type 0 where
  pub usable : All (IsUsable g) u.hints.items
  pub fits : u.bound < 2 ^ 64
  pub bound : u.bound ≡ greatest_carried (whole_state g) (followed (length g.state.entries) u.hints.items)

-- what is left of a box by the hints
abbrev pub left_by_used : GroundState → Used → Bounds → Option Bounds
left_by_used g u b = all_narrowed g.problem (whole_state g) b (followed (length g.state.entries) u.hints.items)

-- before anything is needed
pub record IsFirst (g : GroundState) (w : Walk) : Type 0 where
  pub whole : w.need ≡ g.problem.bounds
  pub no_hints : w.used.hints.items ≡ []
  pub no_bound : w.used.bound ≡ 0

-- a box of the problem, larger than that of the place, from which the hints lead to conflict
pub record IsNeeded (g : GroundState) (w : Walk) : Type 0 where
  pub limits : IsBoxOf g.problem.bounds w.need
  pub inside : IsSmaller w.place.state w.need
  pub refuted : left_by_used g w.used w.need ≡ None
  pub used : IsUsed g w.used

-- the same at a place of the trail
pub record IsWalk (g : GroundState) (t : TrailState) (w : Walk) : Type 0 where
  pub place : IsPlaceOf t w.place
  pub needed : IsNeeded g w

-- without the atom a box is left that is larger than this one; in this one the atom is open; with it the hints lead to conflict
pub record IsRest (g : GroundState) (work : Bounds) (w : Walk) (a : Atom) : Type 0 where
  pub limits : IsBoxOf g.problem.bounds w.need
  pub inside : IsSmaller work w.need
  pub undecided : IsOpenIn work a
  pub size : IsBound a.k
  pub refuted : (b : Bounds) → IsSmaller b w.need → is_true_in b a ≡ true → left_by_used g w.used b ≡ None
  pub used : IsUsed g w.used

-- a box is left, in which the atom is true
abbrev pub HasGiven : Atom → Option Bounds → Type 0
HasGiven a left = IsSomeAnd left (λ b. is_true_in b a ≡ true)

-- what the hint names leaves of the box one in which the atom is true
abbrev pub IsCause : GroundState → Bounds → Hint → Atom → Type 0
IsCause g b h a =
    (k : Constraint) × IsNameAfter g.problem g.state g.pending h k × HasGiven a (left_by b k)

-- an earlier place, before a decision, whose box lies in the rest
pub record IsTurn (g : GroundState) (t : TrailState) (w : Walk) (turn : Turn) : Type 0 where
  pub place : IsPlaceOf t turn.base
  pub decision : IsDecisionAt t turn.base.at
  pub enough : IsRest g turn.base.state w turn.atom

-- the hints lead from the problem's own bounds to conflict
pub record IsWalkEnd (g : GroundState) (w : Walk) : Type 0 where
  pub refuted : left_by_used g w.used g.problem.bounds ≡ None
  pub used : IsUsed g w.used

-- one step back: the walk goes on, or it turns
abbrev pub IsStepped : {E : Type 0} → GroundState → TrailState → Walk → Result (Option Turn) E → Type 0
IsStepped g t w (Ok None) = IsWalk g t w
IsStepped g t w (Ok (Some turn)) = IsTurn g t w turn
IsStepped g t w (Err e) = Unit {0}

-- the whole walk: it turns, or it ends
abbrev pub IsWalkedTo : GroundState → TrailState → Walk → Option Turn → Type 0
IsWalkedTo g t w None = IsWalkEnd g w
IsWalkedTo g t w (Some turn) = IsTurn g t w turn

-- ---- explanations

-- between the box before the change and what was needed before
pub record IsExplained (limits work old new : Bounds) : Type 0 where
  pub inside : IsSmaller work new
  pub more : IsSmaller new old
  pub within : IsBoxOf limits new

-- so it is whatever limits the box had that was needed before
abbrev pub IsExplainedIn : (work old new : Bounds) → Type 0
IsExplainedIn work old new = (limits : Bounds) → IsBoxOf limits old → IsExplained limits work old new

-- the same for limits of both boxes
abbrev pub IsExplainedInBoth : (work old new : Bounds) → Type 0
IsExplainedInBoth work old new =
    (limits : Bounds) → IsBoxOf limits work → IsBoxOf limits old → IsExplained limits work old new

-- what is needed of a box, both within the limits of bounds
pub record IsNeedOf (work need : Bounds) : Type 0 where
  pub proper : AreProperBounds work
  pub inside : IsSmaller work need
  pub work_sizes : AreBounds work
  pub need_sizes : AreBounds need

-- conflict is left, or a box in which the atom is true
abbrev pub HasLed : Atom → Option Bounds → Type 0
HasLed a left = IfSome left (λ b. is_true_in b a ≡ true)

abbrev pub IsLedTo : Bounds → Constraint → Atom → Type 0
IsLedTo b k a = HasLed a (left_by b k)

-- ---- the negations of what a box says beyond the limits

-- that variable x is less than its least value, where that is beyond the limits
abbrev pub lower_negation : Bounds → Bounds → ℕ → List Atom
lower_negation limits rest x =
    if int_lt (lower_of limits x) (lower_of rest x)
    then record { var = record { 0 = x }; at_least = false; k = lower_of rest x -ℤ pos 1 } ∷ []
    else []

-- that it is greater than its greatest
abbrev pub upper_negation : Bounds → Bounds → ℕ → List Atom
upper_negation limits rest x =
    if int_lt (upper_of rest x) (upper_of limits x)
    then record { var = record { 0 = x }; at_least = true; k = upper_of rest x +ℤ pos 1 } ∷ []
    else []

-- all are false in the rest; a smaller box in which all are false is inside the rest at the first variables
pub record AreNegations (limits rest : Bounds) (count : ℕ) (atoms : List Atom) : Type 0 where
  pub falses : All (λ a. is_false_in rest a ≡ true) atoms
  pub known : AreKnown (length limits.lower) atoms
  pub range : All IsAtomInRange atoms
  pub covered : (b : Bounds) → IsSmaller b limits → All (λ a. is_false_in b a ≡ true) atoms → (x : ℕ) → x < count → IsInsideAt b rest x

-- ---- the lemma

pub record IsLesson (g : GroundState) (t : TrailState) (l : Learned) : Type 0 where
  pub accepted : IsAcceptedLemma g.problem g.state g.pending l
  pub known : All (IsKnownOn g) l.hints
  pub range : IsLemmaInRange l
  pub last : level_of t.changes ≡ 0 → l.clause.atoms ≡ []
  pub unit : IsUnitAfterCut t l
