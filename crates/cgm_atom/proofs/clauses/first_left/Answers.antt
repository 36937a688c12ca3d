use Rattle.std.proofs.Common.{◌≡◌, ◌∙◌, true, false, arith}
use Rattle.cgm_atom.specs.Narrowing.{is_false_in}
use Rattle.cgm_atom.specs.ClauseAtoms.{atoms_of}
use Rattle.cgm_atom.proofs.Leaving.{first_left_at, left_past}
use Rattle.cgm_atom.proofs.clauses.first_left.Goals as goal

pub returns-then-not-is_false-clause-first : goal.returns-then-not-is_false-clause-first
returns-then-not-is_false-clause-first c =
    let e : is_false_in c.args.bounds.now c.atom.result ≡ false = cc in
    first_left_at c.args.bounds.now (atoms_of c.args.atoms) c.args.from c.loop-i.i c.atom.result (omega arith) c.atom.ensures e c.loop-i.invariant

pub loop-i-preserved : goal.loop-i-preserved
loop-i-preserved c =
    let e : is_false_in c.args.bounds.now c.atom.result ≡ true = cc in
    c.loop-i.invariant ∙ left_past c.args.bounds.now (atoms_of c.args.atoms) c.loop-i.i c.atom.result c.atom.ensures e
