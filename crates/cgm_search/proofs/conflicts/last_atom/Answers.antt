use Rattle.cgm_search.proofs.TakenLemmas.{front_and_last}
use Rattle.cgm_search.proofs.conflicts.last_atom.Goals as goal

pub returns-in-len1-up-clause-last : goal.returns-in-len1-up-clause-last
returns-in-len1-up-clause-last c = front_and_last c.args.atoms.now _ c.in-len1-up.len_at_least
