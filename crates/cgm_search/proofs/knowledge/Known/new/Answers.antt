use Rattle.std.proofs.Common.{refl}
use Rattle.cgm_search.proofs.Absorbing.{known_at_first}
use Rattle.cgm_search.proofs.knowledge.Known.new.Goals as goal

pub returns-clause-known : goal.returns-clause-known
returns-clause-known c =
    known_at_first _ c.args.problem.now c.new-2.result.items c.in_ok-copy.ensures c.recall_well_formed.ensures refl c.new-2.ensures.items
    c.new-3.ensures.own c.in_ok-store.ensures.store
