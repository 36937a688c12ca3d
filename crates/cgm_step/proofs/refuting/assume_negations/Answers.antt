use Rattle.std.proofs.Common.{◌+◌, ◌∙◌, ap, drop, get_or, false, pos}
use Rattle.cgm_atom.specs.declared.constraints.Atom.{Atom}
use Rattle.cgm_atom.specs.Narrowing.{made_true}
use Rattle.cgm_atom.proofs.RowSums.{rest_at}
use Rattle.cgm_step.proofs.Testing.{AreAssumedSoFar, assuming_steps, assuming_stops}
use Rattle.cgm_step.proofs.refuting.assume_negations.Goals as goal

abbrev filler : Atom
filler = record { var = record { 0 = 0 }; at_least = false; k = pos 0 }

pub returns-in-None-clause-exact : goal.returns-in-None-clause-exact
returns-in-None-clause-exact c =
    let old = c.args.bounds.now in
    let atoms = c.args.atoms.now in
    let i = c.loop-a.a-index in
    assuming_stops old atoms (drop (i + 1) atoms) (get_or atoms i filler) c.loop-a.bounds
    (rest_at (λ rest. AreAssumedSoFar old atoms rest c.loop-a.bounds) atoms i filler c.loop-a-test.true c.loop-a.invariant)
    c.in-None.ensures

pub loop-a-preserved : goal.loop-a-preserved
loop-a-preserved c =
    let old = c.args.bounds.now in
    let atoms = c.args.atoms.now in
    let i = c.loop-a.a-index in
    assuming_steps old atoms (drop (i + 1) atoms) (get_or atoms i filler) c.loop-a.bounds c.make_true.new.bounds
    (rest_at (λ rest. AreAssumedSoFar old atoms rest c.loop-a.bounds) atoms i filler c.loop-a-test.true c.loop-a.invariant)
    c.in-Some.ensures.0 (c.make_true.ensures.after ∙ ap (made_true c.loop-a.bounds) c.in-Some.ensures.1) c.make_true.ensures.within
