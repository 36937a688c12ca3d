use Rattle.std.proofs.Common.{arith}
use Rattle.std.proofs.lemmas.Bool.Decides.{nat_tests}
use Rattle.cgm_atom.proofs.CutParts.{length-part_atoms}
use Rattle.cgm_atom.proofs.clauses.count_of_part.Goals as goal

pub returns-then-is_empty : goal.returns-then-is_empty
returns-then-is_empty c = λ values.
    let e = length-part_atoms values c.args.objectives.now c.args.part c.requires in
    grind (arith, nat_tests)

pub returns : goal.returns
returns c = λ values.
    let e = length-part_atoms values c.args.objectives.now c.args.part c.requires in
    grind (arith, nat_tests)
