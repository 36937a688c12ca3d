-- What a hint names and carries, as it is looked up.
use Rattle.std.specs.Prelude.{◌≡◌, Option, Some, None}
use Rattle.cgm_atom.specs.declared.entries.Hint.{Hint}
use Rattle.cgm_atom.specs.ClauseAtoms.{AreKnown, IsReadable, atoms_of}
use Rattle.cgm_atom.specs.Constraints.{Constraint, of_clause, of_row}
use Rattle.cgm_atom.specs.Instance.{Instance, var_count}
use Rattle.cgm_atom.specs.Limits.{IsRowOf}
use Rattle.cgm_atom.specs.LogState.{LogState, carried, named}
use Rattle.cgm_step.specs.declared.naming.Found.{Found}
use Rattle.cgm_step.specs.declared.naming.Named.{Named}
use Rattle.cgm_step.specs.declared.naming.Named.TheVariants as item

abbrev pub constraint_of : Named → Constraint
constraint_of (item.Clause atoms) = of_clause (record { atoms = atoms_of atoms })
constraint_of (item.Row r) = of_row r.now

-- boxes of the problem can be narrowed by it
abbrev pub IsNamedIn : Instance → Named → Type 0
IsNamedIn p (item.Clause atoms) = IsReadable atoms × AreKnown (var_count p) (atoms_of atoms)
IsNamedIn p (item.Row r) = IsRowOf p.bounds r.now

-- the clause or row, if it is there
abbrev pub IsNamedConstraint : Instance → Option Constraint → Option Named → Type 0
IsNamedConstraint p there None = there ≡ None
IsNamedConstraint p there (Some n) = (there ≡ Some (constraint_of n)) × IsNamedIn p n

-- what a hint names and carries, if what it names is there
abbrev pub IsFound : Instance → LogState → Hint → Option Found → Type 0
IsFound p s h None = named p s h ≡ None
IsFound p s h (Some f) = (named p s h ≡ Some (constraint_of f.named)) × IsNamedIn p f.named × (f.carried ≡ carried s h)
