use Rattle.std.proofs.Common.{ap, arith, sym, ◌∙◌}
use Rattle.cgm_atom.specs.declared.constraints.Atom.{Atom}
use Rattle.cgm_atom.specs.Narrowing.{is_true_in}
use Rattle.cgm_learn.proofs.Needs.{explained_same, falsified_by, not_both, true_opposite}
use Rattle.cgm_learn.proofs.explaining.need_false.Goals as goal

pub returns-then-not-is_false-clause-falsified : goal.returns-then-not-is_false-clause-falsified
returns-then-not-is_false-clause-falsified c = λ e. let no = sym c.is_false.ensures ∙ c.if-not-is_false.true in absurd (cc)

pub returns-then-not-is_false-clause-explained : goal.returns-then-not-is_false-clause-explained
returns-then-not-is_false-clause-explained c = λ limits box. explained_same limits c.args.work.now c.args.need.now c.requires.inside box

pub returns-in-None-clause-falsified : goal.returns-in-None-clause-falsified
returns-in-None-clause-falsified c = λ e. absurd (not_both c.args.work.now c.args.atom c.requires.proper c.in-None.ensures e)

pub returns-in-None-clause-explained : goal.returns-in-None-clause-explained
returns-in-None-clause-explained c = λ limits box. explained_same limits c.args.work.now c.args.need.now c.requires.inside box

pub need_atom-requires-clause-known : goal.need_atom-requires-clause-known
need_atom-requires-clause-known c =
    let same = ap (λ (a : Atom). a.var.0) c.in-Some.ensures.1 in
    omega (arith, same, c.requires.known)

pub need_atom-requires-clause-met : goal.need_atom-requires-clause-met
need_atom-requires-clause-met c =
    ap (is_true_in c.args.work.now) c.in-Some.ensures.1 ∙ true_opposite c.args.work.now c.args.atom (sym c.is_false.ensures ∙ c.if-not-is_false.false)

pub returns-in-Some-clause-falsified : goal.returns-in-Some-clause-falsified
returns-in-Some-clause-falsified c = λ e.
    falsified_by c.args.work.now c.args.need.now c.need_atom.new.need c.args.atom c.in-Some.opposite c.requires.proper c.requires.inside c.requires.known c.in-Some.ensures.1 c.need_atom.ensures.after
