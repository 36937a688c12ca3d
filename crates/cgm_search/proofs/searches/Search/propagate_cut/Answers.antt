use Rattle.std.proofs.Common.{ap, refl}
use Rattle.cgm_clauses.specs.StoreState.{StoreState}
use Rattle.cgm_search.specs.declared.searches.Search.{Search}
use Rattle.cgm_search.proofs.Readiness.{level_propagated, outcome_of_cut, ready_propagated, round_of_store}
use Rattle.cgm_search.proofs.searches.Search.propagate_cut.Goals as goal

pub returns-clause-ready : goal.returns-clause-ready
returns-clause-ready c =
    let new : Search = record c.args.self.now { known = record c.args.self.now.known { store = c.propagate.new.self }; trail = c.propagate.new.trail } in
    ready_propagated c.args.self.now new c.moves_left-left.result c.propagate.new.left c.requires.ready
    (round_of_store c.args.self.now new c.moves_left-left.result c.propagate.new.left
    (record { known = ap (λ (store : StoreState). record c.args.self.now.known { store = store }) c.propagate.ensures.store; choice = refl; plan = refl; worker = refl })
    c.moves_left-left.ensures c.propagate.ensures.made)

pub returns-clause-answer : goal.returns-clause-answer
returns-clause-answer c =
    let new : Search = record c.args.self.now { known = record c.args.self.now.known { store = c.propagate.new.self }; trail = c.propagate.new.trail } in
    outcome_of_cut c.args.self.now new c.moves_left-left.result c.propagate.new.left c.propagate.result c.requires.ready c.requires.behind
    (round_of_store c.args.self.now new c.moves_left-left.result c.propagate.new.left
    (record { known = ap (λ (store : StoreState). record c.args.self.now.known { store = store }) c.propagate.ensures.store; choice = refl; plan = refl; worker = refl })
    c.moves_left-left.ensures c.propagate.ensures.made)
    c.propagate.ensures.answer

pub returns-clause-level : goal.returns-clause-level
returns-clause-level c = level_propagated _ _ _ _ _ c.propagate.ensures.made
