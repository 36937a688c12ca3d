use Rattle.cgm_atom.proofs.PlacedHints.{placed_carry_pending, placed_name_pending}
use Rattle.cgm_atom.proofs.laws.placed_hints_name_pending_lemmas.Goals as goal

pub returns-clause-named : goal.returns-clause-named
returns-clause-named c = placed_name_pending

pub returns-clause-carried : goal.returns-clause-carried
returns-clause-carried c = placed_carry_pending
