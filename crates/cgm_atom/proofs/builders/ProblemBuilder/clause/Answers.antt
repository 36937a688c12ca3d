use Rattle.std.proofs.Common.{◌≡◌, [], rules}
use Rattle.cgm_atom.specs.Building.{first_atoms}
use Rattle.cgm_atom.specs.Instance.{var_count}
use Rattle.cgm_atom.specs.Limits.{IsAtomOf}
use Rattle.cgm_atom.proofs.Fresh.{All-first_atoms}
use Rattle.cgm_atom.proofs.builders.ProblemBuilder.clause.Goals as goal

pub push_clause-requires-clause-known : goal.push_clause-requires-clause-known
push_clause-requires-clause-known c =
    let kept : c.of.result ≡ first_atoms [] c.args.added.atoms = search rules in
    rw (kept, c.self.view_is) (All-first_atoms (IsAtomOf (var_count c.args.self.now)) [] c.args.added.atoms c.requires.known)
