use Rattle.std.proofs.Common.{◌≡◌, sym, subst, ◌∙◌}
use Rattle.cgm_encode.specs.declared.answer.Answer.{Answer}
use Rattle.cgm_solve.specs.Runs.{IsToldOf}
use Rattle.cgm_solve.proofs.ClosedLogs.{told_closed}
use Rattle.cgm_solve.proofs.answering.tell.Goals as goal

pub returns-then-is_closed : goal.returns-then-is_closed
returns-then-is_closed c =
    subst (λ (a : Answer). IsToldOf c.args.encoded.now c.args.ended c.args.work.now c.args.work.now a) (sym c.closed_answer.ensures) (
    told_closed c.args.encoded.now c.args.ended c.args.work.now c.in-Ok.best c.into_entries-entries.result
    c.into_entries-entries.ensures
    (sym c.closed-is_closed.ensures.closed ∙ c.if-is_closed.true)
    c.in-Ok.ensures
    )
