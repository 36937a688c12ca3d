use Rattle.std.proofs.Common.{◌≡◌, ◌∙◌}
use Rattle.cgm_atom.specs.ClauseAtoms.{part_atoms}
use Rattle.cgm_atom.specs.Instance.{values_at, var_count}
use Rattle.cgm_atom.proofs.CutParts.{AreKnown-part_atoms}
use Rattle.cgm_search.proofs.CutNames.{part_found}
use Rattle.cgm_search.proofs.cuts.part_clause.Goals as goal

pub returns-clause-part : goal.returns-clause-part
returns-clause-part c =
    part_found c.args.problem.now c.args.values.now c.args.part c.of.result c.requires.part
    (c.of.ensures ∙ (rw c.objectives.ensures.objectives at c.in_ok-atoms.ensures))

pub returns-clause-known : goal.returns-clause-known
returns-clause-known c =
    let p = c.args.problem.now in
    let same : c.of.result ≡ part_atoms p.objectives (values_at c.args.values.now p.objectives) c.args.part = c.of.ensures ∙ (rw c.objectives.ensures.objectives at c.in_ok-atoms.ensures) in
    rw same (AreKnown-part_atoms (var_count p) c.args.values.now p.objectives c.args.part c.requires.part c.objectives.ensures.valid.objectives)
