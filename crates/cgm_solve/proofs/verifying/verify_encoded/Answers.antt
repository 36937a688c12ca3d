use Rattle.std.proofs.Common.{refl}
use Rattle.cgm_solve.proofs.Bests.{best_of_entries}
use Rattle.cgm_solve.proofs.Verdicts.{shown_realized, shown_unrealizable}
use Rattle.cgm_solve.proofs.verifying.verify_encoded.Goals as goal

pub decoded_best-requires : goal.decoded_best-requires
decoded_best-requires c =
    let verdict = rw (c.in-Open.is, c.as_slice.ensures) at c.in_ok-verdict.ensures in
    best_of_entries c.args.encoded.now.problem c.args.entries c.in-Open.best c.recall_well_formed.ensures.proper verdict.0 verdict.2

pub returns-in_ok-found-in-Least : goal.returns-in_ok-found-in-Least
returns-in_ok-found-in-Least c =
    shown_realized c.args.encoded.now c.args.entries c.in-Least.values c.in_ok-found-in-Least.found c.args.entries c.recall_well_formed.ensures.proper
    (rw (c.in-Least.is, c.as_slice.ensures) at c.in_ok-verdict.ensures) (rw c.as_slice-in-Least.ensures at c.in_ok-found-in-Least.ensures) refl

pub returns-in-NoSolution : goal.returns-in-NoSolution
returns-in-NoSolution c =
    shown_unrealizable c.args.encoded.now c.args.entries c.args.entries c.recall_well_formed.ensures.proper
    (rw (c.in-NoSolution.is, c.as_slice.ensures) at c.in_ok-verdict.ensures) refl
