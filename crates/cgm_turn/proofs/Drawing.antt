-- Drawing a ticket keeps the rule.
use Rattle.std.proofs.Common.{◌≡◌, ℕ, ◌+◌, ◌*◌, ◌%◌, ◌^◌, ◌≤◌, ◌<◌, Bool, true, false, List, [], set, refl, sym, ap, subst, ◌∙◌, arith, length-set, get_or-set_same}
use Rattle.std.specs.Prelude.{IfSome, slice_index, slice_set}
use Rattle.std.specs.declared.option.Option.{Option}
use Rattle.std.specs.declared.option.Option.TheVariants.{Some, None}
use mathlib.Core.Option.{some, some-injective}
use mathlib.Core.Option as option
use mathlib.Core.Logic.{dite}
use native.Mathlib.Decide.{ℕ_discrete}
use lib.ListN.{get_elem?}
use Rattle.std.proofs.lemmas.List.{get_or-set_other}
use Rattle.std.proofs.Math.Nat.{mod-eq_of_lt}
use Rattle.atomic_table.specs.Table.{Allows, keeps, step}
use Rattle.atomic_table.proofs.Lists.{set_else}
use Rattle.cgm_atom.specs.declared.entries.Entry.{Entry}
use Rattle.cgm_log.specs.LogBook.{LogBook}
use Rattle.cgm_turn.specs.declared.views.Joined.{Joined}
use Rattle.cgm_turn.specs.declared.views.View.{View}
use Rattle.cgm_turn.specs.Plays.{Draws, drawing}
use Rattle.cgm_turn.specs.Rule.{IsAway, IsLive, IsServed, IsSpent, IsTurnTable, KnowsTurn, BySpent, trades_of, count_ticket, living, tickets_of, members_of}
use Rattle.cgm_turn.proofs.Keeping.{apart_new, bound_of, known_live, leads_kept, live_if, rests}
use Rattle.cgm_turn.proofs.Ledgers.{each_after, total-same, total-set}

later_next : (o : Option ℕ) (serving next : ℕ) → IfSome o (λ t. (serving ≤ t) × (t < next)) → IfSome o (λ t. (serving ≤ t) × (t < next + 1))
later_next None serving next h = tt
later_next (Some t) serving next h = (h.0, omega (arith, h.1))

other_knows : (t : Bool) (serving next : ℕ) (log : LogBook) (joined : List Joined) (j : ℕ) (u : View) → BySpent t (IsSpent joined j u) (IsLive serving next log joined j u) → BySpent t (IsSpent joined j u) (IsLive serving (next + 1) log joined j u)
other_knows true serving next log joined j u k = k
other_knows false serving next log joined j u k = record {
  number = k.number;
  problem = k.problem;
  seen = k.seen;
  landed = k.landed;
  unjoined = k.unjoined;
  waits = later_next u.ticket serving next k.waits;
  bounded = k.bounded;
  begun = k.begun;
  holds = k.holds;
}

not_next : (o : Option ℕ) (serving next : ℕ) → IfSome o (λ t. (serving ≤ t) × (t < next)) → ¬ (o ≡ Some next)
not_next None serving next h e = absurd (cc)
not_next (Some t) serving next h e = let same : t ≡ next = cc (e) in omega (arith, h.1, same)

new_to : (t : Bool) (serving next : ℕ) (log : LogBook) (joined : List Joined) (j : ℕ) (u : View) → BySpent t (IsSpent joined j u) (IsLive serving next log joined j u) → ¬ (u.ticket ≡ Some next)
new_to true serving next log joined j u k e = let none = k.ticket in absurd (cc)
new_to false serving next log joined j u k e = not_next u.ticket serving next k.waits e

draw_kept : (serving next : ℕ) (homes : List (option.Option (Option LogBook))) (views : List View) (id : ℕ) (v : View) → IsServed serving next homes views → get_elem? views id ≡ some v → v.is_spent ≡ false → v.ticket ≡ None → v.begun < 2 ^ 59
    → IsServed serving (next + 1) homes (set views id (drawing v next))
draw_kept serving next homes views id v g at lives rest few_begun =
    let w : View = drawing v next in
    let live = live_if v.is_spent serving next g.log g.joined id v (g.each id v at) lives in
    let held : v.held ≡ None = rests v.held v.ticket serving g.log rest live.holds in
    let trades = total-set trades_of views id v w at in
    let tickets = total-set tickets_of views id v w at in
    let none_before : tickets_of v ≡ 0 = ap count_ticket rest in
    let one_then : tickets_of w ≡ 1 = refl in
    record {
      log = g.log;
      accepted = g.accepted;
      joined = g.joined;
      out = g.out;
      splits = g.splits;
      slots = g.slots;
      leads = leads_kept views id v w g.joined g.out g.splits at refl refl refl refl g.leads;
      given = length-set views id w ∙ g.given;
      home = λ none.
          g.home (λ j u there.
          dite (ℕ_discrete j id)
          (λ here. ap (λ (x : View). x.held) (sym (some-injective v u (sym at ∙ ap (get_elem? views) (sym here) ∙ there))) ∙ held)
          (λ elsewhere. none j u (set_else views id j w elsewhere ∙ there)));
      away = each_after (λ (j : ℕ) (u : View). IsAway homes u) views id w (g.away id v at) (λ j u n there. g.away j u there);
      order = omega (arith, g.order);
      drawn = omega (arith, tickets, none_before, one_then, g.drawn);
      each =
          each_after (λ (j : ℕ) (u : View). KnowsTurn serving (next + 1) g.log g.joined j u) views id w
          (known_live v.is_spent serving (next + 1) g.log g.joined id w lives (record {
            number = live.number;
            problem = live.problem;
            seen = live.seen;
            landed = live.landed;
            unjoined = live.unjoined;
            waits = (g.order, omega arith);
            bounded = live.bounded;
            begun = omega (arith, few_begun);
            holds = subst (λ (o : Option (List Entry)). IfSome o (λ entries. (w.ticket ≡ Some serving) × (entries ≡ g.log.entries))) (sym held) tt;
          }))
          (λ j u n there. other_knows u.is_spent serving next g.log g.joined j u (g.each j u there));
      apart = apart_new views id w next refl (λ j u there. new_to u.is_spent serving next g.log g.joined j u (g.each j u there)) g.apart;
      accounts = g.accounts;
      fronts = g.fronts;
      distinct = g.distinct;
      later = λ x far. g.later x (omega (arith, length-set views id w, far));
      living = total-same living views id v w at refl ∙ g.living;
      trades = record {
        counted = omega (arith, trades, g.trades.counted);
        members = total-same members_of views id v w at refl ∙ g.trades.members ∙ sym (length-set views id w);
        bounded =
            each_after (λ (i : ℕ) (z : View). trades_of z ≤ z.members * 2 ^ 59) views id w (omega (arith, live.bounded, few_begun))
            (λ j u n there. g.trades.bounded j u there);
        few = omega (arith, length-set views id w, g.trades.few);
      };
    }

pub draws : (id : ℕ) (v : View) → v.is_spent ≡ false → v.ticket ≡ None → v.begun < 2 ^ 59 → Allows IsTurnTable 1 id (v, []) 1 (λ n. (n + 1) % 2 ^ 64) (Draws (step 1 1 1 0 option.none) (v, []))
draws id v lives rest few_begun s g wide at small =
    let serving : ℕ = slice_index s.words 0 in
    let next : ℕ = slice_index s.words 1 in
    let kept = draw_kept serving next s.homes s.views id v g.served at lives rest few_begun in
    let n : ℕ = (next + 1) % 2 ^ 64 in
    let no_wrap : (next + 1) % 2 ^ 64 ≡ next + 1 = mod-eq_of_lt (bound_of (set s.views id (drawing v next)) (next + 1) kept.trades) in
    let first : slice_index (slice_set s.words 1 n) 0 ≡ serving = get_or-set_other s.words 1 0 n 0 (λ e. omega arith) in
    let second : slice_index (slice_set s.words 1 n) 1 ≡ next + 1 = get_or-set_same s.words 1 n 0 (omega (arith, g.words)) ∙ no_wrap in (
      drawing v next,
      keeps,
      tt,
      record {
        words = length-set s.words 1 n ∙ g.words;
        served =
            subst (λ (k : ℕ). IsServed k (slice_index (slice_set s.words 1 n) 1) s.homes (set s.views id (drawing v next))) (sym first)
            (subst (λ (k : ℕ). IsServed serving k s.homes (set s.views id (drawing v next))) (sym second) kept);
      },
      refl,
    )
