use Rattle.std.proofs.Common.{◌∙◌, ap, sym, refl}
use Rattle.std.proofs.lemmas.Option.{get_or_from_slice_get}
use Rattle.std.specs.declared.option.Option.TheVariants.{Some}
use Rattle.cgm_atom.specs.ClauseAtoms.{atoms_of}
use Rattle.cgm_atom.proofs.Leaving.{none_left, one_left, more_left}
use Rattle.cgm_atom.proofs.Tightening.{narrowing_from}
use Rattle.cgm_atom.proofs.clauses.narrow_by_atoms.Goals as goal

pub make_true-requires-clause-known : goal.make_true-requires-clause-known
make_true-requires-clause-known c =
    let a = c.atom.result in
    rw (← get_or_from_slice_get (atoms_of c.args.atoms) c.in-Some.only a a c.atom.ensures) (c.requires.known c.in-Some.only a c.in-Some.ensures.first.0)

pub returns-in-None-clause-exact : goal.returns-in-None-clause-exact
returns-in-None-clause-exact c = (none_left c.args.bounds.now (atoms_of c.args.atoms) c.in-None.ensures.first, refl)

pub returns-in-None-first_left-clause-exact : goal.returns-in-None-first_left-clause-exact
returns-in-None-first_left-clause-exact c =
    narrowing_from _ c.args.bounds.now c.make_true.new.bounds c.make_true.result
    (one_left c.args.bounds.now (atoms_of c.args.atoms) c.in-Some.only c.atom.result c.in-Some.ensures.first c.atom.ensures c.in-None-first_left.ensures.first
    ∙ ap Some (sym c.make_true.ensures.after))
    c.make_true.ensures.answer

pub returns-in-Some-first_left-clause-exact : goal.returns-in-Some-first_left-clause-exact
returns-in-Some-first_left-clause-exact c =
    (more_left c.args.bounds.now (atoms_of c.args.atoms) c.in-Some.only c.in-Some-first_left.field-0 c.in-Some.ensures.first c.in-Some-first_left.ensures.first, refl)
