-- Accepted logs: each entry passes the tests, in the stated order, after the entries before it.
use Rattle.std.specs.Prelude.{◌≡◌, Bool, not, ℕ, ◌+◌, nat_lt, ◌==◌, List, [], ◌∷◌, map, length, is_none, IsTrue, Option, None}
use Rattle.std.specs.List.{position_from}
use Rattle.std.specs.Option.{option_map, option_and_then}
use Rattle.cgm_atom.specs.declared.checks.Violated.{Violated}
use Rattle.cgm_atom.specs.declared.checks.Violated.TheVariants as violated
use Rattle.cgm_atom.specs.declared.constraints.Clause.{Clause}
use Rattle.cgm_atom.specs.declared.entries.BadStep.{BadStep}
use Rattle.cgm_atom.specs.declared.entries.BadStep.TheVariants as fault
use Rattle.cgm_atom.specs.declared.entries.Entry.{Entry}
use Rattle.cgm_atom.specs.declared.entries.Entry.TheVariants.{Best, Lemma}
use Rattle.cgm_atom.specs.declared.entries.Hint.{Hint}
use Rattle.cgm_atom.specs.Atoms.{negation}
use Rattle.cgm_atom.specs.Instance.{Instance, var_count, vector, first_some, fault_unless, first_violation}
use Rattle.cgm_atom.specs.LogState.{LogState, all_narrowed, empty_state, greatest_carried, last_best, named, state_of, state_with}
use Rattle.cgm_atom.specs.Narrowing.{all_assumed}
use Rattle.cgm_atom.specs.Order.{is_below}

-- from the problem's bounds with each atom's negation made true, the hints reach conflict
unfoldable pub is_refuted : Instance → LogState → Clause → List Hint → Bool
is_refuted p s c hints =
    is_none (option_and_then (λ b. all_narrowed p s b hints) (all_assumed p.bounds (map negation c.atoms)))

-- why a best with so many values is refused that aren't a solution
abbrev pub fault_of : ℕ → Violated → BadStep
fault_of given violated.Count = fault.Values given
fault_of given (violated.Bound x) = fault.Bounds x
fault_of given (violated.Clause n) = fault.Clause n
fault_of given (violated.Row n) = fault.Row n

-- the tests of the next entry, in their order, each with its fault where it fails
abbrev pub faults : Instance → LogState → Entry → List (Option BadStep)
faults p s (Best by values) =
    fault_unless (not s.closed) fault.AfterEnd
    ∷ option_map (fault_of (length values)) (first_violation p values)
    ∷ fault_unless (is_below (vector p values) (option_map (vector p) (last_best s))) fault.NotLess
    ∷ []
faults p s (Lemma by clause hints bound) =
    fault_unless (not s.closed) fault.AfterEnd
    ∷ option_map (λ i. fault.Atom (i + 1)) (position_from (λ a. not (nat_lt a.var.0 (var_count p))) 0 clause.atoms)
    ∷ option_map (λ i. fault.Hint (i + 1)) (position_from (λ h. is_none (named p s h)) 0 hints)
    ∷ fault_unless (bound == greatest_carried s hints) (fault.Bound (greatest_carried s hints))
    ∷ fault_unless (is_refuted p s clause hints) fault.NoConflict
    ∷ []

-- the fault of the first test that fails
unfoldable pub first_fault : Instance → LogState → Entry → Option BadStep
first_fault p s e = first_some (faults p s e)

abbrev pub IsAcceptedAfter : Instance → LogState → List Entry → Type 0
IsAcceptedAfter p s [] = Unit {0}
IsAcceptedAfter p s (e ∷ entries) = (first_fault p s e ≡ None) × IsAcceptedAfter p (state_with s e) entries

unfoldable pub IsAccepted : Instance → List Entry → Type 0
IsAccepted p log = IsAcceptedAfter p empty_state log

-- the state of some accepted log
abbrev pub IsAcceptedState : Instance → LogState → Type 0
IsAcceptedState p s = (log : List Entry) × IsAccepted p log × (s ≡ state_of log)

-- a lemma without atoms stands in the log; where the log is accepted, it is the last entry
abbrev pub IsClosed : List Entry → Type 0
IsClosed log = IsTrue (state_of log).closed
