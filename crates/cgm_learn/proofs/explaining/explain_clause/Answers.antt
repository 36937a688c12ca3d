use Rattle.std.proofs.Common.{arith, length}
use Rattle.cgm_atom.specs.ClauseAtoms.{atoms_of}
use Rattle.cgm_learn.proofs.Needs.{clause_begins, clause_steps, known_at, left_alike}
use Rattle.cgm_learn.proofs.explaining.explain_clause.Goals as goal

pub loop-i-init : goal.loop-i-init
loop-i-init c = clause_begins c.args.work.now c.args.need.now (atoms_of c.args.atoms) c.requires.inside

pub need_false-requires-clause-known : goal.need_false-requires-clause-known
need_false-requires-clause-known c = known_at (length c.args.work.now.lower) (atoms_of c.args.atoms) c.loop-i.i c.atom.result c.requires.known c.atom.ensures

pub need_false-requires-clause-inside : goal.need_false-requires-clause-inside
need_false-requires-clause-inside c = c.loop-i.invariant.inside

pub loop-i-preserved : goal.loop-i-preserved
loop-i-preserved c =
    clause_steps c.args.work.now c.args.need.now c.loop-i.need c.need_false.new.need (atoms_of c.args.atoms) c.loop-i.i c.atom.result c.requires.proper c.loop-i.invariant c.atom.ensures c.need_false.ensures.falsified c.need_false.ensures.explained

pub returns-clause-left : goal.returns-clause-left
returns-clause-left c =
    left_alike c.args.work.now c.loop-i.need (atoms_of c.args.atoms) c.loop-i.i c.loop-i.invariant.inside (omega (arith, c.loop-i-test.false, c.count-i-end.ensures)) c.loop-i.invariant.falsified

pub returns-clause-explained : goal.returns-clause-explained
returns-clause-explained c = c.loop-i.invariant.explained
