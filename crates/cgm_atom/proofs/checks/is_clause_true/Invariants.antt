use Rattle.std.proofs.Common.{◌≡◌, drop}
use Rattle.std.specs.List.{list_any}
use Rattle.cgm_atom.specs.Atoms.{atom_true}
use Rattle.cgm_atom.proofs.checks.is_clause_true.Given as goal

abbrev pub invariant-loop-atom : goal.invariant-loop-atom
invariant-loop-atom l =
    list_any (atom_true l.values) l.clause.atoms ≡ list_any (atom_true l.values) (drop l.atom-index l.clause.atoms)
