-- The lists of a model.
use Rattle.cgm_model.specs.declared.lists.Lists.{Lists}
use Rattle.cgm_model.specs.declared.model.Model.{Model}
use Rattle.cgm_model.specs.Lists.{lists}

abbrev pub lists_of : Model → Lists
lists_of m =
    lists m.elements m.refinements m.vars m.sums m.contribs m.conflicts m.binds m.asserts m.values m.rewards m.penalties m.prefers m.rules m.interests m.objectives
