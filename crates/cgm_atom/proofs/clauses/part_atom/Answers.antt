use Rattle.std.proofs.Common.{get_or, arith, rules, ◌∙◌, ap, sym}
use Rattle.std.specs.declared.option.Option.TheVariants.{Some}
use Rattle.std.proofs.lemmas.Option.{slice_get-get_or}
use Rattle.cgm_atom.proofs.CutParts.{part_within, slice_get-part_atoms}
use Rattle.cgm_atom.proofs.clauses.part_atom.Goals as goal

pub offset_bounds-objectives-i : goal.offset_bounds-objectives-i
offset_bounds-objectives-i c =
    let w = part_within c.args.values.now c.args.objectives.now c.args.part c.args.i c.requires.part_within c.requires.within in
    search rules

pub bounds-objectives-i : goal.bounds-objectives-i
bounds-objectives-i c =
    let w = part_within c.args.values.now c.args.objectives.now c.args.part c.args.i c.requires.part_within c.requires.within in
    omega arith

pub objective_atom-requires-clause-known : goal.objective_atom-requires-clause-known
objective_atom-requires-clause-known c =
    let w = part_within c.args.values.now c.args.objectives.now c.args.part c.args.i c.requires.part_within c.requires.within in
    c.requires.known c.args.i (record { 0 = 0 }) (omega arith)

pub objective_atom-requires-clause-part_within : goal.objective_atom-requires-clause-part_within
objective_atom-requires-clause-part_within c =
    let w = part_within c.args.values.now c.args.objectives.now c.args.part c.args.i c.requires.part_within c.requires.within in
    omega arith

pub returns : goal.returns
returns c =
    let os = c.args.objectives.now in
    let w = part_within c.args.values.now os c.args.part c.args.i c.requires.part_within c.requires.within in
    let there = slice_get-get_or os c.args.i (record { 0 = 0 }) (omega arith) in
    slice_get-part_atoms c.args.values.now os c.args.part c.args.i (get_or os c.args.i (record { 0 = 0 })) w.1 w.0 there ∙ ap Some (sym c.objective_atom.ensures)
