use Rattle.std.proofs.Common.{◌≡◌, ℕ, [], ◌∷◌, ◌++◌, drop, ap, subst, sym, ◌∙◌, arith}
use Rattle.std.specs.declared.option.Option.{Option}
use Rattle.std.specs.declared.option.Option.TheVariants.{None}
use Rattle.atomic_table.specs.Table.{Me}
use Rattle.cgm_atom.specs.Instance.{Instance}
use Rattle.cgm_atom.specs.Acceptance.{IsAccepted}
use Rattle.cgm_log.specs.LogBook.{LogBook}
use Rattle.cgm_turn.specs.declared.views.View.{View}
use Rattle.cgm_turn.specs.Plays.{count_held, handed_back, handed_on}
use Rattle.cgm_turn.specs.Views.{HasTurn, HasTurnUnused}
use Rattle.cgm_turn.proofs.Turning.{found_out, has_turn, proper_found, rested, seen_within}
use Rattle.cgm_turn.proofs.moves.trade_in_turn.Goals as goal

pub trade-requires-clause-seen : goal.trade-requires-clause-seen
trade-requires-clause-seen c =
    let v : View = c.args.seat.now.me.0 in
    let found = found_out c.args.seat.now.me c.take_out-log.result c.requires.turn c.take_out-log.ensures.log in
    seen_within v c.take_out-log.result c.args.seen found.0 (omega (arith, c.requires.seen))

pub trade-requires-clause-proper : goal.trade-requires-clause-proper
trade-requires-clause-proper c =
    let v : View = c.args.seat.now.me.0 in
    let found = found_out c.args.seat.now.me c.take_out-log.result c.requires.turn c.take_out-log.ensures.log in
    proper_found v c.take_out-log.result c.args.seen c.args.batch found.0 c.requires.seen c.requires.proper

pub hand_on-requires-clause-turn : goal.hand_on-requires-clause-turn
hand_on-requires-clause-turn c =
    let v : View = c.args.seat.now.me.0 in
    let before : LogBook = c.take_out-log.result in
    let log : LogBook = c.trade.new.self in
    let found = found_out c.args.seat.now.me before c.requires.turn c.take_out-log.ensures.log in
    subst (λ (x : Me (Option LogBook) View). HasTurn x log) (sym c.take_out-log.ensures.after)
    (has_turn v before log _ c.args.batch found.1 found.0.problem c.requires.number
    (proper_found v before c.args.seen c.args.batch found.0 c.requires.seen c.requires.proper) c.in-Ok.ensures.landed c.in-Ok.ensures.problem)

pub hand_back-requires-clause-turn : goal.hand_back-requires-clause-turn
hand_back-requires-clause-turn c =
    let v : View = c.args.seat.now.me.0 in
    let before : LogBook = c.take_out-log.result in
    let log : LogBook = c.trade.new.self in
    let found = found_out c.args.seat.now.me before c.requires.turn c.take_out-log.ensures.log in
    let same : log ≡ before = c.in-Err.ensures.refund in
    subst (λ (x : Me (Option LogBook) View). HasTurnUnused x log) (sym c.take_out-log.ensures.after)
    (record {
      old = before.entries;
      slot = None;
      held = found.1;
      only = λ i. (0, None) ∷ [];
      same = ap (λ (l : LogBook). l.entries) same;
      problem = ap (λ (l : LogBook). l.problem) same ∙ sym found.0.problem;
      begins = (found.0.seen.0, ap (λ (l : LogBook). l.entries) same ∙ found.0.seen.1);
    })

pub returns-in-Ok-clause-after : goal.returns-in-Ok-clause-after
returns-in-Ok-clause-after c =
    let v : View = c.args.seat.now.me.0 in
    let before : LogBook = c.take_out-log.result in
    let log : LogBook = c.trade.new.self in
    let found = found_out c.args.seat.now.me before c.requires.turn c.take_out-log.ensures.log in
    record {
      before = before;
      found = found.0;
      held = found.1;
      answer = (c.in-Ok.ensures.answer, c.in-Ok.ensures.news ∙ ap (λ (n : ℕ). drop n before.entries) c.requires.seen);
      landed = (log, c.recall_log.ensures, c.in-Ok.ensures.problem, c.in-Ok.ensures.landed, c.hand_on.ensures.after ∙ ap (λ (x : Me (Option LogBook) View). (handed_on x.0 log, [])) c.take_out-log.ensures.after);
      refund = tt;
    }

pub returns-in-Ok-clause-rested : goal.returns-in-Ok-clause-rested
returns-in-Ok-clause-rested c =
    let v : View = c.args.seat.now.me.0 in
    let before : LogBook = c.take_out-log.result in
    let log : LogBook = c.trade.new.self in
    let found = found_out c.args.seat.now.me before c.requires.turn c.take_out-log.ensures.log in
    rested v log.entries (v.landed ++ drop (count_held v.held) log.entries) c.hand_on.new.seat.me (c.hand_on.ensures.after ∙ ap (λ (x : Me (Option LogBook) View). (handed_on x.0 log, [])) c.take_out-log.ensures.after)
    (subst (λ (p : Instance). IsAccepted p log.entries) (c.in-Ok.ensures.problem ∙ sym found.0.problem) c.recall_log.ensures.accepted) c.recall_log.ensures.count

pub returns-in-Err-clause-after : goal.returns-in-Err-clause-after
returns-in-Err-clause-after c =
    let before : LogBook = c.take_out-log.result in
    let found = found_out c.args.seat.now.me before c.requires.turn c.take_out-log.ensures.log in
    record {
      before = before;
      found = found.0;
      held = found.1;
      answer = tt;
      landed = tt;
      refund = (c.in-Err.ensures.batch, c.hand_back.ensures.after ∙ ap (λ (x : Me (Option LogBook) View). (handed_back x.0, [])) c.take_out-log.ensures.after);
    }

pub returns-in-Err-clause-rested : goal.returns-in-Err-clause-rested
returns-in-Err-clause-rested c =
    let v : View = c.args.seat.now.me.0 in
    rested v v.seen v.landed c.hand_back.new.seat.me (c.hand_back.ensures.after ∙ ap (λ (x : Me (Option LogBook) View). (handed_back x.0, [])) c.take_out-log.ensures.after) c.requires.told.0 c.requires.told.1
