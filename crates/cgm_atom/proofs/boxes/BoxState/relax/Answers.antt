use Rattle.std.proofs.Common.{w64, rules}
use Rattle.std.proofs.lemmas.Int.{to_z-of_z}
use Rattle.cgm_atom.specs.Fields.{box_bounds}
use Rattle.cgm_atom.proofs.Relaxing.{lower_relaxed, true_at_least, true_at_most, upper_relaxed, within_lower, within_upper}
use Rattle.cgm_atom.proofs.boxes.BoxState.relax.Goals as goal

pub returns-then-atom-clause-within : goal.returns-then-atom-clause-within
returns-then-atom-clause-within c = λ limits place near.
    let b = box_bounds c.self.inside in
    let a = c.args.atom in
    rw (to_z-of_z w64 a.k (search rules))
    (lower_relaxed limits b a.var.0 a.k (true_at_least b a c.if-atom.true (rw (← c.self.view_is) at c.requires.met))
    (within_lower limits a c.if-atom.true near) (rw (← c.self.view_is) at place))

pub returns-else-atom-clause-within : goal.returns-else-atom-clause-within
returns-else-atom-clause-within c = λ limits place near.
    let b = box_bounds c.self.inside in
    let a = c.args.atom in
    rw (to_z-of_z w64 a.k (search rules))
    (upper_relaxed limits b a.var.0 a.k (true_at_most b a c.if-atom.false (rw (← c.self.view_is) at c.requires.met))
    (within_upper limits a c.if-atom.false near) (rw (← c.self.view_is) at place))
