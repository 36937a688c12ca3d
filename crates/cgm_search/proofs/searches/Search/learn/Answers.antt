use Rattle.std.proofs.Common.{◌∙◌}
use Rattle.cgm_search.proofs.TakenLemmas.{learned_atoms, learned_tradable}
use Rattle.cgm_search.proofs.searches.Search.learn.Goals as goal

pub analyse-requires-clause-reasons : goal.analyse-requires-clause-reasons
analyse-requires-clause-reasons c =
    rw (c.indexed-log.ensures.state, c.as_slice.ensures.value, c.new-none.ensures.items) c.requires.ready.reasons

pub returns-clause-lemma : goal.returns-clause-lemma
returns-clause-lemma c =
    learned_tradable c.args.self.now.known c.indexed-log.result c.as_slice.result.now c.analyse.result c.indexed-log.ensures.state
    (c.as_slice.ensures.value ∙ c.new-none.ensures.items) c.analyse.ensures.accepted c.analyse.ensures.known c.analyse.ensures.range

pub returns-clause-atoms : goal.returns-clause-atoms
returns-clause-atoms c =
    learned_atoms c.args.self.now.known.problem c.indexed-log.result c.as_slice.result.now c.analyse.result c.analyse.ensures.accepted
