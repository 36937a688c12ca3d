use Rattle.std.proofs.Common.{◌≡◌, sym, subst}
use Rattle.cgm_log.specs.LogBook.{LogBook}
use Rattle.cgm_turn.specs.PassParts.{view_of}
use Rattle.cgm_turn.specs.Passes.{IsLogAtClose, PassState}
use Rattle.cgm_turn.proofs.Ending.{end_of_pass, final_log, taken_log}
use Rattle.cgm_turn.proofs.Passing.{state_at}
use Rattle.cgm_turn.proofs.passes.Turn.close.Goals as goal

pub take_log-requires-clause-there : goal.take_log-requires-clause-there
take_log-requires-clause-there c =
    let x = c.first.inside in
    let e = final_log x.seat.id (view_of x) _ _ c.close_with.ensures.values.2 c.first.invariant.lives
    (subst (λ (p : PassState). p.number ≡ 0) (sym c.first.view_is) c.requires.first) c.first.invariant.ticket
    (subst (λ (p : PassState). p.out ≡ 0) (sym c.first.view_is) c.requires.alone) in
    (e.0, e.1)

pub returns : goal.returns
returns c =
    let x = c.first.inside in
    let e = final_log x.seat.id (view_of x) _ _ c.close_with.ensures.values.2 c.first.invariant.lives
    (subst (λ (p : PassState). p.number ≡ 0) (sym c.first.view_is) c.requires.first) c.first.invariant.ticket
    (subst (λ (p : PassState). p.out ≡ 0) (sym c.first.view_is) c.requires.alone) in
    subst (λ (p : PassState). IsLogAtClose p c.take_log.result) c.first.view_is
    (subst (λ (l : LogBook). IsLogAtClose (state_at x.seat.table_id (view_of x)) l) (taken_log _ e.0 c.take_log.result e.1 c.take_log.ensures)
    (end_of_pass x.seat.table_id (view_of x) e.0 e.2))
