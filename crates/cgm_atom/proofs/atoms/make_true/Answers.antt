use Rattle.std.proofs.Common.{sym, ◌∙◌}
use Rattle.cgm_atom.proofs.Tightening.{made_true_narrower, made_when_open}
use Rattle.cgm_atom.proofs.atoms.make_true.Goals as goal

pub returns-clause-answer : goal.returns-clause-answer
returns-clause-answer c =
    let old = c.args.bounds.now in
    rw (made_when_open old c.assume.new.self c.args.atom c.assume.result c.requires.not_false c.assume.ensures.answer c.assume.ensures.after)
    (made_true_narrower old c.args.atom c.requires.known c.is_true.ensures.proper.same_count (sym c.is_true.ensures.value ∙ c.if-is_true.false))
