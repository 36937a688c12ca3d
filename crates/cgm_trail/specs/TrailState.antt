-- A trail as contracts see it: its problem, the changes in their order, and two counts. The box and the levels are functions of these.
use Rattle.std.specs.Prelude.{◌≡◌, Bool, true, false, ℕ, zero, suc, ◌+◌, ◌<◌, ◌==◌, List, [], ◌∷◌, ◌++◌, length, if◌then◌else◌, Some}
use Rattle.std.specs.List.{All}
use Rattle.cgm_atom.specs.declared.constraints.Atom.{Atom}
use Rattle.cgm_atom.specs.declared.entries.Hint.{Hint}
use Rattle.cgm_atom.specs.Bounds.{Bounds}
use Rattle.cgm_atom.specs.Instance.{Instance}
use Rattle.cgm_atom.specs.Narrowing.{is_false_in, is_true_in, left_by_clause, left_by_row, made_true}
use Rattle.cgm_atom.specs.Relaxing.{bound_of}
use Rattle.cgm_trail.specs.declared.changes.Change.{Change}
use Rattle.cgm_trail.specs.declared.changes.Reason.{Reason}
use Rattle.cgm_trail.specs.declared.changes.Reason.TheVariants.{Decision, By}

pub record TrailState : Type 0 where
  pub problem : Instance
  pub changes : List Change
  pub moves : ℕ
  pub restarts : ℕ

-- a trail's problem and changes, without the counts
pub record PathState : Type 0 where
  pub problem : Instance
  pub changes : List Change

-- ---- the box

-- the box after the changes, in their order
abbrev pub box_after : Bounds → List Change → Bounds
box_after b [] = b
box_after b (c ∷ changes) = box_after (made_true b c.atom) changes

abbrev pub box_of : TrailState → Bounds
box_of t = box_after t.problem.bounds t.changes

-- the atom's variable exists, and the atom is neither true nor false in the box
pub record IsOpenIn (b : Bounds) (a : Atom) : Type 0 where
  pub known : a.var.0 < length b.lower
  pub not_true : is_true_in b a ≡ false
  pub not_false : is_false_in b a ≡ false

-- the atom was open, and the bound was what the change keeps
pub record IsChangeOf (b : Bounds) (c : Change) : Type 0 where
  pub undecided : IsOpenIn b c.atom
  pub before : c.was ≡ bound_of b c.atom

-- each change, of the box before it
abbrev pub AreChanges : Bounds → List Change → Type 0
AreChanges b [] = Unit {0}
AreChanges b (c ∷ changes) = IsChangeOf b c × AreChanges (made_true b c.atom) changes

-- every clause and every row of the problem leaves the box as it is
pub record IsAtRest (p : Instance) (b : Bounds) : Type 0 where
  pub clauses : All (λ c. left_by_clause b c ≡ Some b) p.clauses
  pub rows : All (λ r. left_by_row b r ≡ Some b) p.rows

-- ---- levels

abbrev pub is_decision_reason : Reason → Bool
is_decision_reason Decision = true
is_decision_reason (By h) = false

abbrev pub is_decision : Change → Bool
is_decision c = is_decision_reason c.reason

-- each decision opens a level, after level 0
abbrev pub level_of : List Change → ℕ
level_of [] = 0
level_of (c ∷ changes) = if is_decision c then level_of changes + 1 else level_of changes

-- the changes of the levels up to this one
abbrev pub cut_to : ℕ → List Change → List Change
cut_to level [] = []
cut_to zero (c ∷ changes) = if is_decision c then [] else c ∷ cut_to zero changes
cut_to (suc level) (c ∷ changes) = c ∷ cut_to (if is_decision c then level else suc level) changes

-- a change more in the first level
abbrev pub with_first : Change → List (List Change) → List (List Change)
with_first c [] = (c ∷ []) ∷ []
with_first c (l ∷ levels) = (c ∷ l) ∷ levels

-- the changes of each level: level 0 first, and each later level begins with its decision
abbrev pub levels_of : List Change → List (List Change)
levels_of [] = [] ∷ []
levels_of (c ∷ changes) =
    if is_decision c then [] ∷ with_first c (levels_of changes) else with_first c (levels_of changes)

-- the places of the decisions, the first change having this place
abbrev pub decision_places : ℕ → List Change → List ℕ
decision_places at [] = []
decision_places at (c ∷ changes) =
    if is_decision c then at ∷ decision_places (at + 1) changes else decision_places (at + 1) changes

-- where a level begins: level 0 at 0, each later one after the changes of the levels before it
abbrev pub begin_of : ℕ → List Change → ℕ
begin_of zero changes = 0
begin_of (suc level) changes = length (cut_to level changes)

-- the place of the level's first change, or the count of changes where it has none
abbrev pub level_start : ℕ → List Change → ℕ
level_start level changes =
    if length (cut_to level changes) == begin_of level changes then length changes else begin_of level changes

-- ---- moves

abbrev pub change_of : Bounds → Atom → Reason → Change
change_of b a reason = record { atom = a; was = bound_of b a; reason = reason }

abbrev pub trail_started : Instance → TrailState
trail_started p = record { problem = p; changes = []; moves = 0; restarts = 0 }

abbrev pub with_change : TrailState → Atom → Reason → TrailState
with_change t a reason =
    record t { changes = t.changes ++ change_of (box_of t) a reason ∷ []; moves = t.moves + 1 }

abbrev pub tightened : TrailState → Atom → Hint → TrailState
tightened t a by = with_change t a (By by)

abbrev pub decided : TrailState → Atom → TrailState
decided t a = with_change t a Decision

abbrev pub cut_trail : ℕ → TrailState → TrailState
cut_trail level t = record t { changes = cut_to level t.changes }

abbrev pub jumped : TrailState → ℕ → Atom → Hint → TrailState
jumped t level a by = tightened (cut_trail level t) a by

abbrev pub restarted : TrailState → TrailState
restarted t =
    record { problem = t.problem; changes = cut_to 0 t.changes; moves = t.moves + 1; restarts = t.restarts + 1 }

-- the same moves, of a path
abbrev pub path_with : PathState → Atom → Reason → PathState
path_with t a reason = record t { changes = t.changes ++ change_of (box_after t.problem.bounds t.changes) a reason ∷ [] }

abbrev pub cut_path : ℕ → PathState → PathState
cut_path level t = record t { changes = cut_to level t.changes }
