use Rattle.std.proofs.Common.{◌∙◌, sym}
use Rattle.cgm_atom.specs.Constraints.{of_clause}
use Rattle.cgm_trail.specs.TrailState.{box_of}
use Rattle.cgm_clauses.specs.Standing.{IsUnitBy}
use Rattle.cgm_clauses.proofs.Standings.{unit_given}
use Rattle.cgm_clauses.proofs.sweeping.look_at.Goals as goal

pub returns-in_ok-step-in-Unit-clause-made : goal.returns-in_ok-step-in-Unit-clause-made
returns-in_ok-step-in-Unit-clause-made c =
    let unit : IsUnitBy (box_of c.args.trail.now) c.args.named.now.clause c.in-Unit.only = rw c.state.ensures.state at c.in-Unit.ensures in
    let place = c.state.ensures.valid.place in
    c.step.ensures.made (of_clause c.args.named.now.clause)
    (unit_given (box_of c.args.trail.now) c.args.named.now.clause c.in-Unit.only unit (place.upper_count ∙ sym place.lower_count))
