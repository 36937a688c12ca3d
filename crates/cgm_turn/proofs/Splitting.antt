-- A split keeps the rule: the new pass has the next number, and has seen what the first has.
use Rattle.std.proofs.Common.{◌≡◌, ℕ, ◌+◌, ◌*◌, ◌^◌, ◌≤◌, ◌<◌, false, List, [], ◌∷◌, ◌++◌, length, set, refl, sym, ap, ◌∙◌, arith, length-set}
use Rattle.std.specs.Prelude.{slice_index}
use Rattle.std.specs.declared.option.Option.{Option}
use Rattle.std.specs.declared.option.Option.TheVariants.{Some, None}
use mathlib.Core.Option.{some, some-injective}
use mathlib.Core.Option as option
use mathlib.Core.Logic.{dite}
use native.Mathlib.Decide.{ℕ_discrete}
use lib.ListN.{get_elem?}
use Rattle.std.proofs.lemmas.List.{length_push}
use Rattle.atomic_table.specs.Table.{Splits}
use Rattle.atomic_table.proofs.Lists.{at_longer, set_else, set_here}
use Rattle.cgm_log.specs.LogBook.{LogBook}
use Rattle.cgm_turn.specs.declared.views.View.{View}
use Rattle.cgm_turn.specs.Plays.{split_off, splitting}
use Rattle.cgm_turn.specs.Rule.{AreTicketsApart, IsAway, IsServed, IsTurnTable, KnowsTurn, trades_of, living, tickets_of, members_of}
use Rattle.cgm_turn.proofs.Keeping.{apart_same, held_none, known_live, live_if}
use Rattle.cgm_turn.proofs.Ledgers.{each_after, each_more, total-more, total-same, within}

longer_apart : (views : List View) (a : View) → a.ticket ≡ None → AreTicketsApart views → AreTicketsApart (views ++ a ∷ [])
longer_apart views a none apart j k x y t at at' e e' =
    each_more (λ (i : ℕ) (z : View). z.ticket ≡ Some t → i ≡ k) views a (λ some_ticket. absurd (cc))
    (λ i z here some_ticket.
    each_more (λ (i' : ℕ) (z' : View). z'.ticket ≡ Some t → i ≡ i') views a (λ some_ticket'. absurd (cc))
    (λ i' z' here' some_ticket'. apart i i' z z' t here here' some_ticket some_ticket') k y at' e')
    j x at e

split_kept : (serving next : ℕ) (homes : List (option.Option (Option LogBook))) (views : List View) (id : ℕ) (v : View) → IsServed serving next homes views → get_elem? views id ≡ some v → v.is_spent ≡ false → v.number ≡ 0 → v.splits < 15
    → IsServed serving next homes (set views id (splitting v) ++ split_off v ∷ [])
split_kept serving next homes views id v g at lives number few_splits =
    let a : View = splitting v in
    let b : View = split_off v in
    let all : List View = set views id a ++ b ∷ [] in
    let live = live_if v.is_spent serving next g.log g.joined id v (g.each id v at) lives in
    let here : id ≡ 0 = sym live.number ∙ number in
    let place : get_elem? views 0 ≡ some v = ap (get_elem? views) (sym here) ∙ at in
    let same : g.leads.first ≡ v = some-injective g.leads.first v (sym g.leads.place ∙ place) in
    let splits : v.splits ≡ g.splits = ap (λ (x : View). x.splits) (sym same) ∙ g.leads.splits_is in
    let out : v.out ≡ g.out = ap (λ (x : View). x.out) (sym same) ∙ g.leads.out_is in
    let count : length all ≡ length views + 1 = length_push (set views id a) b ∙ ap (λ (n : ℕ). n + 1) (length-set views id a) in
    let at_end : v.splits + 1 ≡ length (set views id a) = omega (arith, splits, g.given, length-set views id a) in
    let none_new : tickets_of b ≡ 0 = refl in
    let fresh = g.later (length (set views id a)) (omega (arith, length-set views id a)) in
    record {
      log = g.log;
      accepted = g.accepted;
      joined = g.joined;
      out = g.out + 1;
      splits = g.splits + 1;
      slots = g.slots;
      leads = record {
        first = a;
        place = at_longer (set views id a) (b ∷ []) 0 a (ap (get_elem? (set views id a)) (sym here) ∙ set_here views id a (within views id v at));
        lives = lives;
        joined_is = ap (λ (x : View). x.joined) (sym same) ∙ g.leads.joined_is;
        out_is = ap (λ (n : ℕ). n + 1) out;
        splits_is = ap (λ (n : ℕ). n + 1) splits;
      };
      given = omega (arith, count, g.given);
      home = λ none.
          g.home (λ j u there.
          dite (ℕ_discrete j id)
          (λ own.
          ap (λ (x : View). x.held) (sym (some-injective v u (sym at ∙ ap (get_elem? views) (sym own) ∙ there)))
          ∙ none id a (at_longer (set views id a) (b ∷ []) id a (set_here views id a (within views id v at))))
          (λ elsewhere. none j u (at_longer (set views id a) (b ∷ []) j u (set_else views id j a elsewhere ∙ there))));
      away =
          each_more (λ (j : ℕ) (u : View). IsAway homes u) (set views id a) b
          (λ entries e. held_none b.held entries (get_elem? homes 0 ≡ some option.none) refl e)
          (each_after (λ (j : ℕ) (u : View). IsAway homes u) views id a (g.away id v at) (λ j u n there. g.away j u there));
      order = g.order;
      drawn = omega (arith, total-more tickets_of (set views id a) b, total-same tickets_of views id v a at refl, none_new, g.drawn);
      each =
          each_more (λ (j : ℕ) (u : View). KnowsTurn serving next g.log g.joined j u) (set views id a) b
          (record {
            number = at_end;
            problem = live.problem;
            seen = live.seen;
            landed = fresh.0;
            unjoined = fresh.1;
            waits = tt;
            bounded = omega arith;
            begun = omega arith;
            holds = tt;
          })
          (each_after (λ (j : ℕ) (u : View). KnowsTurn serving next g.log g.joined j u) views id a
          (known_live v.is_spent serving next g.log g.joined id a lives (record {
            number = live.number;
            problem = live.problem;
            seen = live.seen;
            landed = live.landed;
            unjoined = live.unjoined;
            waits = live.waits;
            bounded = live.bounded;
            begun = live.begun;
            holds = live.holds;
          }))
          (λ j u n there. g.each j u there));
      apart = longer_apart (set views id a) b refl (apart_same views id v a at refl g.apart);
      accounts = g.accounts;
      fronts = g.fronts;
      distinct = g.distinct;
      later = λ x far. g.later x (omega (arith, count, far));
      living = total-more living (set views id a) b ∙ ap (λ (n : ℕ). n + 1) (total-same living views id v a at refl ∙ g.living);
      trades = record {
        counted = omega (arith, total-more trades_of (set views id a) b, total-same trades_of views id v a at refl, g.trades.counted);
        members = omega (arith, total-more members_of (set views id a) b, total-same members_of views id v a at refl, g.trades.members, count);
        bounded =
            each_more (λ (i : ℕ) (z : View). trades_of z ≤ z.members * 2 ^ 59) (set views id a) b (omega arith)
            (each_after (λ (i : ℕ) (z : View). trades_of z ≤ z.members * 2 ^ 59) views id a (g.trades.bounded id v at) (λ j u n there. g.trades.bounded j u there));
        few = omega (arith, count, g.given, splits, few_splits);
      };
    }

pub splits_off : (id : ℕ) (v : View) → v.is_spent ≡ false → v.number ≡ 0 → v.splits < 15 → Splits IsTurnTable id v (splitting v) (split_off v)
splits_off id v lives number few_splits s g at = record {
  words = g.words;
  served = split_kept (slice_index s.words 0) (slice_index s.words 1) s.homes s.views id v g.served at lives number few_splits;
}
