use Rattle.std.proofs.Common.{arith}
use Rattle.cgm_atom.specs.Instance.{var_count}
use Rattle.cgm_step.proofs.Accepted.{AreKnown-from_none}
use Rattle.cgm_step.proofs.Testing.{first_nowhere, is_unknown}
use Rattle.cgm_step.proofs.accepting.test_atoms.Goals as goal

pub returns-clause-known : goal.returns-clause-known
returns-clause-known c =
    let count = var_count c.args.problem.now in
    AreKnown-from_none count c.args.atoms.now
    (first_nowhere (is_unknown count) c.args.atoms.now c.loop-i.i (omega arith) c.loop-i.invariant)
