use Rattle.std.proofs.Common.{◌∙◌, sym}
use Rattle.std.proofs.lemmas.Option.{slice_get-get_or}
use Rattle.cgm_atom.proofs.Leaving.{more_left}
use Rattle.cgm_clauses.proofs.Standings.{quiet_if_true, unit_if_only}
use Rattle.cgm_clauses.proofs.standing.standing_from.Goals as goal

pub returns-then-is_true : goal.returns-then-is_true
returns-then-is_true c =
    quiet_if_true c.args.bounds.now c.args.atoms.now c.args.place _ c.requires.first (slice_get-get_or c.args.atoms.now c.args.place _ c.requires.first.0) (sym c.is_true.ensures.value ∙ c.if-is_true.true)

pub returns-in-None : goal.returns-in-None
returns-in-None c =
    unit_if_only c.args.bounds.now c.args.atoms.now c.args.place _ c.requires.first (slice_get-get_or c.args.atoms.now c.args.place _ c.requires.first.0) c.in-None.ensures
    (c.requires.known c.args.place _ c.requires.first.0) (sym c.is_true.ensures.value ∙ c.if-is_true.false)

pub returns-in-Some : goal.returns-in-Some
returns-in-Some c = more_left c.args.bounds.now c.args.atoms.now c.args.place c.in-Some.field-0 c.requires.first c.in-Some.ensures
