use Rattle.std.proofs.Common.{◌≡◌, ◌++◌, drop}
use Rattle.cgm_atom.specs.ClauseAtoms.{part_atoms}
use Rattle.cgm_atom.specs.Instance.{values_at}
use Rattle.cgm_search.proofs.cuts.part_atoms_of.Given as goal

abbrev pub invariant-loop-i : goal.invariant-loop-i
invariant-loop-i l =
    l.atoms.items ++ drop l.i (part_atoms l.objectives (values_at l.values l.objectives) l.part)
    ≡ part_atoms l.objectives (values_at l.values l.objectives) l.part
