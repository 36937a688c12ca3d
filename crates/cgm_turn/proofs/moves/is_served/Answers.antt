use Rattle.std.proofs.Common.{rules, arith, ◌≡◌, ℕ, [], ap, subst, sym}
use Rattle.std.specs.declared.option.Option.{Option}
use mathlib.Core.Option as option
use Rattle.atomic_table.specs.Table.{Allows, Me, step}
use Rattle.cgm_log.specs.LogBook.{LogBook}
use Rattle.cgm_turn.specs.declared.views.View.{View}
use Rattle.cgm_turn.specs.Plays.{TurnComesAt, Waits}
use Rattle.cgm_turn.specs.Rule.{IsTurnTable}
use Rattle.cgm_turn.proofs.Turning.{come_now}
use Rattle.cgm_turn.proofs.Waiting.{waits}
use Rattle.cgm_turn.proofs.moves.is_served.Goals as goal

pub load-served-requires : goal.load-served-requires
load-served-requires c =
    let seat = c.args.seat.now in
    let v : View = seat.me.0 in
    let me : seat.me ≡ (v, []) = ap (λ xs. (v, xs)) c.requires.drawn.0 in (
      search rules,
      search rules,
      subst (λ (n : ℕ). Allows IsTurnTable n seat.id seat.me 0 (λ k. k) (Waits (step n 0 0 0 option.none) seat.me)) (sym c.requires.sized.1)
          (subst (λ (x : Me (Option LogBook) View). Allows IsTurnTable 1 seat.id x 0 (λ k. k) (Waits (step 1 0 0 0 option.none) x)) (sym me)
          (subst (λ (o : Option ℕ). Allows IsTurnTable 1 seat.id (v, []) 0 (λ k. k) (TurnComesAt o (step 1 0 0 0 option.none) (v, []))) (sym c.requires.drawn.1)
          (waits seat.id c.args.ticket v c.requires.drawn.1 c.requires.drawn.2))),
    )

pub returns-then-served-ticket-clause-came : goal.returns-then-served-ticket-clause-came
returns-then-served-ticket-clause-came c = λ e.
    come_now (step c.args.board.now.table_id.slots 0 0 0 option.none) c.args.seat.now.me.0.ticket c.args.ticket c.load-served.result c.args.seat.now.me c.load-served.new.seat.me c.requires.drawn.1 c.requires.drawn.0 c.load-served.ensures.2 (omega (arith, c.if-served-ticket.true))
