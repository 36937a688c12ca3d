use Rattle.cgm_atom.proofs.Fresh.{contains_more}
use Rattle.cgm_atom.proofs.builders.insert_new.Goals as goal

pub returns-clause-seen : goal.returns-clause-seen
returns-clause-seen c = λ q.
    contains_more c.args.seen.now c.insert.new.self c.args.atom q (c.in_ok-is_new.ensures.updates.0 q)
