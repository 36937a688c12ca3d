-- The bound before a change, as an atom.
use Rattle.cgm_atom.specs.declared.constraints.Atom.{Atom}
use Rattle.cgm_trail.specs.declared.changes.Change.{Change}

-- the atom of the same variable and direction, at the number that the bound had
abbrev pub earlier_bound : Change → Atom
earlier_bound c = record { var = c.atom.var; at_least = c.atom.at_least; k = c.was }
