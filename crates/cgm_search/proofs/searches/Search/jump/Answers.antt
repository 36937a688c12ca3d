use Rattle.std.proofs.Common.{refl}
use Rattle.cgm_atom.specs.declared.entries.Hint.TheVariants as hint
use Rattle.cgm_atom.specs.Constraints.{of_clause}
use Rattle.cgm_search.proofs.Readiness.{need_jumped, ready_jumped}
use Rattle.cgm_search.proofs.searches.Search.jump.Goals as goal

pub returns-clause-ready : goal.returns-clause-ready
returns-clause-ready c =
    ready_jumped c.args.self.now _ c.args.level c.args.atom (hint.Entry c.count-place.result) (of_clause c.requires.given.0) c.requires.ready
    (record { known = refl; choice = refl; plan = refl; worker = refl }) c.requires.room (rw c.count-place.ensures c.requires.given.1) c.requires.given.2 c.jump.ensures.after

pub returns-clause-need : goal.returns-clause-need
returns-clause-need c =
    need_jumped c.args.self.now (record c.args.self.now { trail = c.jump.new.self }) c.args.level c.args.atom (hint.Entry c.count-place.result) refl c.requires.room c.requires.earlier c.jump.ensures.after
