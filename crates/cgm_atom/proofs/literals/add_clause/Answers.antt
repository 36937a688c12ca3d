use Rattle.std.proofs.Common.{◌≡◌, ◌∙◌, rules}
use Rattle.std.proofs.lemmas.List.Elements.{All-same}
use Rattle.cgm_atom.specs.Instance.{var_count}
use Rattle.cgm_atom.specs.Limits.{IsAtomOf}
use Rattle.cgm_atom.specs.Literals.{clause}
use Rattle.cgm_atom.proofs.literals.add_clause.Goals as goal

pub clause-requires-clause-known : goal.clause-requires-clause-known
clause-requires-clause-known c =
    let same : c.of.result ≡ c.args.atoms.now = c.of.ensures ∙ c.in_ok-atoms.ensures.items in
    All-same (IsAtomOf (var_count c.args.builder.now)) c.of.result c.args.atoms.now same (c.requires.known 0 (clause c.args.atoms.now) (search rules))
