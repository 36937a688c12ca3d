use Rattle.std.proofs.Common.{ap, refl}
use Rattle.cgm_clauses.specs.StoreState.{StoreState}
use Rattle.cgm_search.proofs.Readiness.{level_propagated, outcome_settled, ready_propagated}
use Rattle.cgm_search.proofs.searches.Search.propagate.Goals as goal

pub returns-clause-ready : goal.returns-clause-ready
returns-clause-ready c =
    ready_propagated c.args.self.now _ _ _ c.requires
    (record {
      same = record { known = ap (λ (store : StoreState). record c.args.self.now.known { store = store }) c.settle.ensures.store; choice = refl; plan = refl; worker = refl };
      budget = c.moves_left-left.ensures;
      made = c.settle.ensures.made;
    })

pub returns-clause-answer : goal.returns-clause-answer
returns-clause-answer c =
    outcome_settled c.args.self.now (record c.args.self.now { known = record c.args.self.now.known { store = c.settle.new.store }; trail = c.settle.new.trail }) _ _ c.settle.result c.requires
    (record {
      same = record { known = ap (λ (store : StoreState). record c.args.self.now.known { store = store }) c.settle.ensures.store; choice = refl; plan = refl; worker = refl };
      budget = c.moves_left-left.ensures;
      made = c.settle.ensures.made;
    })
    c.settle.ensures.answer

pub returns-clause-level : goal.returns-clause-level
returns-clause-level c = level_propagated _ _ _ _ _ c.settle.ensures.made
