-- Laws over the definitions: on narrowing, cuts, bounds of lemmas, and closed logs.
use Rattle.std.specs.Prelude.{◌++◌, ◌≡◌, ◌↔◌, ℕ, ◌≤◌, ℤ, List, [], ◌∷◌, length, Option, Some, None, IsTrue, IsSomeAnd}
use Rattle.std.specs.List.{All, last_or}
use Rattle.std.specs.Option.{option_map}
use Rattle.cgm_atom.specs.declared.constraints.Atom.{Atom}
use Rattle.cgm_atom.specs.declared.constraints.Clause.{Clause}
use Rattle.cgm_atom.specs.declared.constraints.Row.{Row}
use Rattle.cgm_atom.specs.declared.constraints.Var.{Var}
use Rattle.cgm_atom.specs.declared.entries.Entry.{Entry}
use Rattle.cgm_atom.specs.declared.entries.Entry.TheVariants.{Best, Lemma}
use Rattle.cgm_atom.specs.declared.entries.Hint.{Hint}
use Rattle.cgm_atom.specs.Acceptance.{IsAccepted, IsAcceptedState, IsClosed, first_fault}
use Rattle.cgm_atom.specs.Atoms.{atom_true, clause_true, row_true}
use Rattle.cgm_atom.specs.Bounds.{Bounds, IsInside, AreProperBounds, IsWithin}
use Rattle.cgm_atom.specs.Cut.{cut}
use Rattle.cgm_atom.specs.Entailment.{Follows, best_values}
use Rattle.cgm_atom.specs.Instance.{Instance, HasNoSolution, IsLeast, IsSolution, values_at, vector}
use Rattle.cgm_atom.specs.LogState.{LogState, all_narrowed, carried, is_closing, last_best, named, state_of, state_with}
use Rattle.cgm_atom.specs.Constraints.{Constraint, left_by}
use Rattle.cgm_atom.specs.Narrowing.{all_assumed, left_by_clause, left_by_row, made_true}
use Rattle.cgm_atom.specs.Order.{IsBelow}
use Rattle.cgm_base.specs.Order.{IsLess}

-- ---- narrowing keeps solutions

-- what is left is a box, and the values lie in it
abbrev pub IsLeft : Option Bounds → List ℤ → Type 0
IsLeft left values = IsSomeAnd left (λ b. IsWithin b values)

abbrev pub MadeTrueKeepsValues : Type 0
MadeTrueKeepsValues =
    (b : Bounds) (a : Atom) (values : List ℤ)
    → IsWithin b values
    → IsTrue (atom_true values a)
    → IsWithin (made_true b a) values

abbrev pub AssumedKeepValues : Type 0
AssumedKeepValues =
    (b : Bounds) (atoms : List Atom) (values : List ℤ)
    → IsWithin b values
    → All (λ a. IsTrue (atom_true values a)) atoms
    → IsLeft (all_assumed b atoms) values

abbrev pub ClauseKeepsValues : Type 0
ClauseKeepsValues =
    (b : Bounds) (c : Clause) (values : List ℤ)
    → IsWithin b values
    → IsTrue (clause_true values c)
    → IsLeft (left_by_clause b c) values

abbrev pub RowKeepsValues : Type 0
RowKeepsValues =
    (b : Bounds) (r : Row) (values : List ℤ)
    → IsWithin b values
    → IsTrue (row_true values r)
    → IsLeft (left_by_row b r) values

-- ---- smaller boxes

-- a box of the same variables, each value of which is one of the outer box
pub record IsSmaller (inner outer : Bounds) : Type 0 where
  pub lower_count : length inner.lower ≡ length outer.lower
  pub upper_count : length inner.upper ≡ length outer.upper
  pub inside : IsInside inner outer

-- what is left of the inner box is conflict, or smaller than what is left of the outer
abbrev pub IsLeftSmaller : Option Bounds → Option Bounds → Type 0
IsLeftSmaller None outer = Unit {0}
IsLeftSmaller (Some inner) None = ⊥
IsLeftSmaller (Some inner) (Some outer) = IsSmaller inner outer

abbrev pub NarrowingShrinks : Type 0
NarrowingShrinks = (b : Bounds) (c : Constraint) → IsLeftSmaller (left_by b c) (Some b)

abbrev pub SmallerBoxesNarrow : Type 0
SmallerBoxesNarrow =
    (inner outer : Bounds) (c : Constraint)
    → IsSmaller inner outer
    → IsLeftSmaller (left_by inner c) (left_by outer c)

abbrev pub SmallerBoxesAssume : Type 0
SmallerBoxesAssume =
    (inner outer : Bounds) (atoms : List Atom)
    → IsSmaller inner outer
    → IsLeftSmaller (all_assumed inner atoms) (all_assumed outer atoms)

abbrev pub SmallerBoxesFollowHints : Type 0
SmallerBoxesFollowHints =
    (p : Instance) (s : LogState) (inner outer : Bounds) (hints : List Hint)
    → IsSmaller inner outer
    → IsLeftSmaller (all_narrowed p s inner hints) (all_narrowed p s outer hints)

-- ---- a lesser vector and the cut

abbrev pub CutIsLess : Type 0
CutIsLess =
    (objectives : List Var) (values v : List ℤ)
    → IsLess (values_at values objectives) v ↔ All (λ c. IsTrue (clause_true values c)) (cut objectives v)

-- ---- accepted and closed logs

abbrev pub LaterBoundsFollow : Type 0
LaterBoundsFollow =
    (p : Instance) (log : List Entry) (c : Clause) (bound later : ℕ)
    → IsAccepted p log
    → bound ≤ later
    → Follows p log bound c
    → Follows p log later c

-- a lemma follows under its bound, which is 0 or the ordinal of a best
abbrev pub IsEntailed : Instance → List Entry → Entry → Type 0
IsEntailed p log (Best by values) = Unit {0}
IsEntailed p log (Lemma by clause hints bound) = Follows p log bound clause × (bound ≤ length (best_values log))

abbrev pub LemmasFollow : Type 0
LemmasFollow = (p : Instance) (log : List Entry) → IsAccepted p log → All (IsEntailed p log) log

abbrev pub BestsAreSolutions : Type 0
BestsAreSolutions =
    (p : Instance) (log : List Entry)
    → AreProperBounds p.bounds
    → IsAccepted p log
    → All (IsSolution p) (best_values log)

-- the vector of each is less than that of the one before it, of the first than that of the limit, if there is one
abbrev pub AreDescending : Instance → Option (List ℤ) → List (List ℤ) → Type 0
AreDescending p limit [] = Unit {0}
AreDescending p limit (values ∷ others) = IsBelow (vector p values) (option_map (vector p) limit) × AreDescending p (Some values) others

abbrev pub BestsDescend : Type 0
BestsDescend = (p : Instance) (log : List Entry) → IsAccepted p log → AreDescending p None (best_values log)

-- the last entry is a lemma without atoms
abbrev pub EndsWithClosing : List Entry → Type 0
EndsWithClosing log = IsSomeAnd (last_or None log) (λ e. IsTrue (is_closing e))

abbrev pub ClosedLogEnds : Type 0
ClosedLogEnds = (p : Instance) (log : List Entry) → IsAccepted p log → IsClosed log ↔ EndsWithClosing log

-- the state after one more entry that has no fault is that of an accepted log
abbrev pub AcceptedStatesGrow : Type 0
AcceptedStatesGrow =
    (p : Instance) (s : LogState) (e : Entry)
    → IsAcceptedState p s
    → first_fault p s e ≡ None
    → IsAcceptedState p (state_with s e)

-- the best is a least solution, or without one there is no solution
abbrev pub IsConcluded : Instance → Option (List ℤ) → Type 0
IsConcluded p None = HasNoSolution p
IsConcluded p (Some values) = IsSolution p values × IsLeast p values

abbrev pub ClosedLogIsLeast : Type 0
ClosedLogIsLeast =
    (p : Instance) (log : List Entry)
    → AreProperBounds p.bounds
    → IsAccepted p log
    → IsClosed log
    → IsConcluded p (last_best (state_of log))

-- ---- hints in a longer log

-- a hint that names a clause or a row names it still
abbrev pub NamesStay : Type 0
NamesStay =
    (p : Instance) (log more : List Entry) (h : Hint) (c : Constraint)
    → named p (state_of log) h ≡ Some c
    → named p (state_of (log ++ more)) h ≡ Some c

-- and carries what it carried
abbrev pub CarriedStays : Type 0
CarriedStays =
    (p : Instance) (log more : List Entry) (h : Hint) (c : Constraint)
    → named p (state_of log) h ≡ Some c
    → carried (state_of (log ++ more)) h ≡ carried (state_of log) h
