use Rattle.std.proofs.Common.{◌∙◌, subst}
use Rattle.std.specs.declared.option.Option.{Option}
use Rattle.atomic_table.specs.Table.{Me}
use Rattle.cgm_log.specs.LogBook.{LogBook}
use Rattle.cgm_turn.specs.declared.views.View.{View}
use Rattle.cgm_turn.specs.PassParts.{view_of}
use Rattle.cgm_turn.specs.Passes.{IsTradeOf, PassState}
use Rattle.cgm_turn.specs.Plays.{drawing}
use Rattle.cgm_turn.specs.Turns.{TurnCame}
use Rattle.cgm_turn.proofs.Passing.{pass_traded, state_at}
use Rattle.cgm_turn.proofs.passes.Turn.trade.Goals as goal

pub returns : goal.returns
returns g c =
    let x = c.pass.inside in
    let v : View = view_of x in
    let r = c.trade_in_turn-answer.result.0 in
    let came : TurnCame (drawing v c.draw_ticket-ticket.result) c.wait.new.seat.me =
    subst (λ (m : Me (Option LogBook) View). TurnCame m.0 c.wait.new.seat.me) c.draw_ticket-ticket.ensures.after c.wait.ensures.came in
    let traded = pass_traded x.seat.table_id c.trade_in_turn-answer.new.seat.table_id v c.draw_ticket-ticket.result c.args.batch r c.wait.new.seat.me c.trade_in_turn-answer.new.seat.me
    (c.trade_in_turn-answer.ensures.same.0 ∙ c.wait.ensures.same.0 ∙ c.draw_ticket-ticket.ensures.same.0) came c.trade_in_turn-answer.ensures.after in
    subst (λ (p : PassState). IsTradeOf p c.args.batch r (state_at c.trade_in_turn-answer.new.seat.table_id c.trade_in_turn-answer.new.seat.me.0)) c.pass.view_is traded
