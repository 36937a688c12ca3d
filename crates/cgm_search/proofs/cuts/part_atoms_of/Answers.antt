use Rattle.cgm_atom.specs.ClauseAtoms.{part_atoms}
use Rattle.cgm_atom.specs.Instance.{values_at}
use Rattle.cgm_search.proofs.CutNames.{one_more}
use Rattle.cgm_search.proofs.cuts.part_atoms_of.Goals as goal

pub loop-i-preserved : goal.loop-i-preserved
loop-i-preserved c =
    one_more (part_atoms c.args.objectives.now (values_at c.args.values.now c.args.objectives.now) c.args.part) c.loop-i.atoms.items _ c.loop-i.i c.atom.result
    c.atom.ensures c.loop-i.invariant c.in_ok-push.ensures.items
