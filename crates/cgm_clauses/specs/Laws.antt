-- Laws over the definitions: what tightens is unit, what is quiet is neither false nor unit, and what a store's clauses and names are.
use Rattle.std.specs.Prelude.{◌≡◌, ◌↔◌, List, length, Some}
use Rattle.std.specs.List.{All, Contains}
use Rattle.cgm_atom.specs.declared.constraints.Atom.{Atom}
use Rattle.cgm_atom.specs.declared.constraints.Clause.{Clause}
use Rattle.cgm_atom.specs.declared.entries.Hint.{Hint}
use Rattle.cgm_atom.specs.Bounds.{Bounds}
use Rattle.cgm_atom.specs.ClauseAtoms.{AreKnown}
use Rattle.cgm_atom.specs.Constraints.{Constraint, of_clause}
use Rattle.cgm_atom.specs.Instance.{Instance}
use Rattle.cgm_atom.specs.LogState.{LogState, named}
use Rattle.cgm_trail.specs.Steps.{IsGiven}
use Rattle.cgm_trail.specs.TrailState.{IsOpenIn}
use Rattle.cgm_clauses.specs.declared.named.Named.{Named}
use Rattle.cgm_clauses.specs.StoreState.{IsForgotten, IsPairIn, IsStoreOf, StoreState, all_clauses, numbered}
use Rattle.cgm_clauses.specs.Sweeping.{AreQuiet}
use Rattle.cgm_clauses.specs.Standing.{IsFalseIn, IsQuietIn, IsUnitBy, IsUnitIn}

-- an open atom that the clause gives is the one atom of it that isn't false
abbrev pub TighteningsAreByUnits : Type 0
TighteningsAreByUnits =
    (b : Bounds) (c : Clause) (a : Atom)
    → length b.upper ≡ length b.lower
    → AreKnown (length b.lower) c.atoms
    → IsOpenIn b a
    → IsGiven b (of_clause c) a
    → IsUnitBy b c a

abbrev pub QuietIsNeither : Type 0
QuietIsNeither =
    (b : Bounds) (c : Clause)
    → length b.upper ≡ length b.lower
    → AreKnown (length b.lower) c.atoms
    → IsQuietIn b c ↔ ((¬ IsFalseIn b c) × (¬ IsUnitIn b c))

-- where all clauses of a store are quiet, those of its problem leave the box
abbrev pub QuietStoresRest : Type 0
QuietStoresRest =
    (p : Instance) (s : StoreState) (b : Bounds)
    → IsStoreOf p s
    → AreQuiet b (all_clauses s)
    → All (IsQuietIn b) p.clauses

-- after every log, the names of the problem's clauses name them
abbrev pub ProblemClausesAreNamed : Type 0
ProblemClausesAreNamed =
    (p : Instance) (log : LogState) (h : Hint) (k : Constraint)
    → IsPairIn (numbered 0 p.clauses) h k
    → named p log h ≡ Some k

-- what is left after forgetting was there
abbrev pub ForgettingAddsNothing : Type 0
ForgettingAddsNothing =
    (name : Hint) (old new : List Named) (n : Named)
    → IsForgotten name old new
    → Contains new n
    → Contains old n
