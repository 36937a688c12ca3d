use Rattle.std.proofs.Common.{rules, ◌≡◌, ℕ, ◌+◌, ◌%◌, ◌^◌, [], ap, subst, sym}
use Rattle.std.specs.declared.option.Option.{Option}
use mathlib.Core.Option as option
use Rattle.atomic_table.specs.Table.{Allows, Me, step}
use Rattle.cgm_log.specs.LogBook.{LogBook}
use Rattle.cgm_turn.specs.declared.views.View.{View}
use Rattle.cgm_turn.specs.Plays.{Draws}
use Rattle.cgm_turn.specs.Rule.{IsTurnTable}
use Rattle.cgm_turn.proofs.Drawing.{draws}
use Rattle.cgm_turn.proofs.moves.draw_ticket.Goals as goal

pub fetch_add-requires : goal.fetch_add-requires
fetch_add-requires c =
    let seat = c.args.seat.now in
    let me : seat.me ≡ (seat.me.0, []) = ap (λ xs. (seat.me.0, xs)) c.requires.rest.0 in (
      search rules,
      search rules,
      subst (λ (n : ℕ). Allows IsTurnTable n seat.id seat.me 1 (λ k. (k + 1) % 2 ^ 64) (Draws (step n 1 1 0 option.none) seat.me)) (sym c.requires.sized.1)
          (subst (λ (x : Me (Option LogBook) View). Allows IsTurnTable 1 seat.id x 1 (λ k. (k + 1) % 2 ^ 64) (Draws (step 1 1 1 0 option.none) x)) (sym me)
          (draws seat.id seat.me.0 c.requires.rest.1 c.requires.rest.2 c.requires.few)),
    )
