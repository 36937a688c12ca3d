use Rattle.cgm_evolve.proofs.Outcomes.{never_both, never_neither}
use Rattle.cgm_evolve.proofs.laws.earlier_text_has_pairs_or_fault.Goals as goal

pub returns-clause-one : goal.returns-clause-one
returns-clause-one c = never_both

pub returns-clause-some : goal.returns-clause-some
returns-clause-some c = never_neither
