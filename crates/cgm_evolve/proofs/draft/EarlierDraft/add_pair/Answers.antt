use Rattle.std.proofs.Common.{inr, sym}
use Rattle.cgm_evolve.proofs.draft.EarlierDraft.add_pair.Goals as goal

pub returns-in-Some-name_fault-clause-stop : goal.returns-in-Some-name_fault-clause-stop
returns-in-Some-name_fault-clause-stop c = λ pairs index.
    inr ((c.in-Some.name.now, c.in-Some.truth), (c.in-Some.ensures.found, sym (c.in-Some-name_fault.ensures pairs index)))
