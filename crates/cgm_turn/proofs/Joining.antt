-- A join keeps the rule: the first pass keeps what the other knew, and the other is spent.
use Rattle.std.proofs.Common.{◌≡◌, ℕ, ◌-◌, ◌*◌, ◌^◌, ◌≤◌, ◌≢◌, Bool, true, false, List, ◌∷◌, length, set, refl, sym, ap, subst, ◌∙◌, arith, length-set, eq-eqb, ne_eqb}
use Rattle.std.specs.Prelude.{IfSome, IsSome, slice_index, if◌then◌else◌, nat_le, ◌==◌}
use Rattle.std.specs.declared.option.Option.{Option}
use Rattle.std.specs.declared.option.Option.TheVariants.{Some, None}
use mathlib.Core.Option.{some, some-injective}
use mathlib.Core.Option as option
use mathlib.Core.Logic.{dite}
use native.Mathlib.Decide.{ℕ_discrete}
use lib.ListN.{get_elem?}
use Rattle.std.proofs.lemmas.Bool.{eqb-true}
use Rattle.atomic_table.specs.Table.{Joins}
use Rattle.atomic_table.proofs.Lists.{set_else, set_here}
use Rattle.cgm_atom.specs.declared.entries.Entry.{Entry}
use Rattle.cgm_log.specs.LogBook.{LogBook}
use Rattle.cgm_turn.specs.declared.views.Joined.{Joined}
use Rattle.cgm_turn.specs.declared.views.View.{View}
use Rattle.cgm_turn.specs.Entries.{BeginsWith, made_by}
use Rattle.cgm_turn.specs.Plays.{account, joining, longer, spent_view}
use Rattle.cgm_turn.specs.Rule.{IsAccountOf, IsAway, IsLive, IsServed, IsSpent, IsTurnTable, KnowsTurn, BySpent, trades_of, count_ticket, living, tickets_of, members_of}
use Rattle.cgm_turn.specs.Views.{account_with}
use Rattle.cgm_turn.proofs.Keeping.{apart_same, apart_without, held_none, known_live, live_if, rests}
use Rattle.cgm_turn.proofs.Ledgers.{each_after, terms_le, total-same, total-set, within}

-- ---- accounts with one more

chosen : {X : Type 0} (P : X → Type 0) (t : Bool) (x y : X) → (t ≡ true → P x) → (t ≡ false → P y) → P (if t then x else y)
chosen P true x y yes_case no_case = yes_case refl
chosen P false x y yes_case no_case = no_case refl

some_kept : (r : Joined) (joined : List Joined) (j : ℕ) → IsSome (account_with j joined) → IsSome (account_with j (r ∷ joined))
some_kept r joined j h = chosen (λ (o : Option Joined). IsSome o) (r.number == j) (Some r) (account_with j joined) (λ e. refl) (λ e. h)

some_new : (r : Joined) (joined : List Joined) (j : ℕ) → r.number ≡ j → IsSome (account_with j (r ∷ joined))
some_new r joined j same = rw (eq-eqb r.number j same) refl

none_kept : (r : Joined) (joined : List Joined) (j : ℕ) → r.number ≢ j → account_with j joined ≡ None → account_with j (r ∷ joined) ≡ None
none_kept r joined j other h = rw (ne_eqb r.number j other) h

other_knows : (t : Bool) (serving next : ℕ) (log : LogBook) (joined : List Joined) (r : Joined) (j : ℕ) (u : View) → r.number ≢ j → BySpent t (IsSpent joined j u) (IsLive serving next log joined j u) → BySpent t (IsSpent (r ∷ joined) j u) (IsLive serving next log (r ∷ joined) j u)
other_knows true serving next log joined r j u other k = record {
  ticket = k.ticket;
  held = k.held;
  account = some_kept r joined j k.account;
}
other_knows false serving next log joined r j u other k = record {
  number = k.number;
  problem = k.problem;
  seen = k.seen;
  landed = k.landed;
  unjoined = none_kept r joined j other k.unjoined;
  waits = k.waits;
  bounded = k.bounded;
  begun = k.begun;
  holds = k.holds;
}

accounted : (log : LogBook) (r : Joined) (joined : List Joined) (x : ℕ) → IsAccountOf log r.number r → IfSome (account_with x joined) (IsAccountOf log x) → IfSome (account_with x (r ∷ joined)) (IsAccountOf log x)
accounted log r joined x new old =
    chosen (λ (o : Option Joined). IfSome o (IsAccountOf log x)) (r.number == x) (Some r) (account_with x joined)
    (λ e. subst (λ (n : ℕ). IsAccountOf log n r) (eqb-true r.number x e) new) (λ e. old)

-- ---- the longer of two fronts

longer_begins : (log xs ys : List Entry) → BeginsWith log xs → BeginsWith log ys → BeginsWith log (longer xs ys)
longer_begins log xs ys h k = chosen (λ (zs : List Entry). BeginsWith log zs) (nat_le (length xs) (length ys)) ys xs (λ e. k) (λ e. h)

living_is : (v : View) (t : Bool) → v.is_spent ≡ t → t ≡ false → living v ≡ 1
living_is v true same e = absurd (cc)
living_is v false same e = rw same refl

-- ---- the step

join_kept : (serving next : ℕ) (homes : List (option.Option (Option LogBook))) (views : List View) (id : ℕ) (v : View) (other : ℕ) (w : View) → IsServed serving next homes views → get_elem? views id ≡ some v → other ≢ id → get_elem? views other ≡ some w
    → v.is_spent ≡ false → v.number ≡ 0 → v.ticket ≡ None → w.is_spent ≡ false → w.ticket ≡ None
    → IsServed serving next homes (set (set views id (joining v w)) other spent_view)
join_kept serving next homes views id v other w g at apart_ids at' lives number rest lives' rest' =
    let a : View = joining v w in
    let log : LogBook = g.log in
    let live = live_if v.is_spent serving next log g.joined id v (g.each id v at) lives in
    let live' = live_if w.is_spent serving next log g.joined other w (g.each other w at') lives' in
    let here : id ≡ 0 = sym live.number ∙ number in
    let r : Joined = account v w in
    let place : get_elem? views 0 ≡ some v = ap (get_elem? views) (sym here) ∙ at in
    let same : g.leads.first ≡ v = some-injective g.leads.first v (sym g.leads.place ∙ place) in
    let joined_is : v.joined ≡ g.joined = ap (λ (x : View). x.joined) (sym same) ∙ g.leads.joined_is in
    let out : v.out ≡ g.out = ap (λ (x : View). x.out) (sym same) ∙ g.leads.out_is in
    let one : List View = set views id a in
    let all : List View = set one other spent_view in
    let at_one : get_elem? one other ≡ some w = set_else views id other a apart_ids ∙ at' in
    let count : length all ≡ length views = length-set one other spent_view ∙ length-set views id a in
    let alive : living v ≡ 1 = living_is v v.is_spent refl lives in
    let alive' : living w ≡ 1 = living_is w w.is_spent refl lives' in
    let two = terms_le living views id other v w apart_ids at at' in
    let living_one = total-same living views id v a at refl in
    let living_all = total-set living one other w spent_view at_one in
    let tickets_one = total-same tickets_of views id v a at refl in
    let tickets_all = total-set tickets_of one other w spent_view at_one in
    let none_other : tickets_of w ≡ 0 = ap count_ticket rest' in
    let none_spent : tickets_of spent_view ≡ 0 = refl in
    let trades_one = total-set trades_of views id v a at in
    let trades_all = total-set trades_of one other w spent_view at_one in
    let members_one = total-set members_of views id v a at in
    let members_all = total-set members_of one other w spent_view at_one in
    record {
      log = log;
      accepted = g.accepted;
      joined = r ∷ g.joined;
      out = g.out - 1;
      splits = g.splits;
      slots = g.slots;
      leads = record {
        first = a;
        place = set_else one other 0 spent_view (λ e. apart_ids (sym e ∙ sym here)) ∙ ap (get_elem? one) (sym here) ∙ set_here views id a (within views id v at);
        lives = lives;
        joined_is = ap (λ (xs : List Joined). r ∷ xs) joined_is;
        out_is = ap (λ (n : ℕ). n - 1) out;
        splits_is = ap (λ (x : View). x.splits) (sym same) ∙ g.leads.splits_is;
      };
      given = count ∙ g.given;
      home = λ none.
          g.home (λ j u there.
          dite (ℕ_discrete j id)
          (λ own. ap (λ (x : View). x.held) (sym (some-injective v u (sym at ∙ ap (get_elem? views) (sym own) ∙ there))) ∙ rests v.held v.ticket serving log rest live.holds)
          (λ n.
          dite (ℕ_discrete j other)
          (λ its. ap (λ (x : View). x.held) (sym (some-injective w u (sym at' ∙ ap (get_elem? views) (sym its) ∙ there))) ∙ rests w.held w.ticket serving log rest' live'.holds)
          (λ n'. none j u (set_else one other j spent_view n' ∙ set_else views id j a n ∙ there))));
      away =
          each_after (λ (j : ℕ) (u : View). IsAway homes u) one other spent_view
          (λ entries e. held_none spent_view.held entries (get_elem? homes 0 ≡ some option.none) refl e)
          (λ j u n' there.
          each_after (λ (i : ℕ) (z : View). IsAway homes z) views id a (g.away id v at) (λ i z n there'. g.away i z there') j u there);
      order = g.order;
      drawn = omega (arith, tickets_one, tickets_all, none_other, none_spent, g.drawn);
      each =
          each_after (λ (j : ℕ) (u : View). KnowsTurn serving next log (r ∷ g.joined) j u) one other spent_view
          (record { ticket = refl; held = refl; account = some_new r g.joined other live'.number })
          (λ j u n' there.
          dite (ℕ_discrete j id)
          (λ own.
          let is_a : a ≡ u = some-injective a u (sym (set_here views id a (within views id v at)) ∙ ap (get_elem? one) (sym own) ∙ there) in
          subst (λ (i : ℕ). KnowsTurn serving next log (r ∷ g.joined) i u) (sym own)
          (subst (λ (x : View). KnowsTurn serving next log (r ∷ g.joined) id x) is_a
          (known_live v.is_spent serving next log (r ∷ g.joined) id a lives (record {
            number = live.number;
            problem = live.problem;
            seen = longer_begins log.entries v.seen w.seen live.seen live'.seen;
            landed = live.landed;
            unjoined = none_kept r g.joined id (λ e. apart_ids (sym live'.number ∙ e)) live.unjoined;
            waits = live.waits;
            bounded = omega (arith, live.bounded, g.trades.bounded other w at');
            begun = live.begun;
            holds = live.holds;
          }))))
          (λ n. other_knows u.is_spent serving next log g.joined r j u (λ e. n' (sym e ∙ live'.number)) (g.each j u (sym (set_else views id j a n) ∙ there))));
      apart = apart_without one other spent_view refl (apart_same views id v a at refl g.apart);
      accounts = λ x.
          accounted log r g.joined x (record { seen = live'.seen; landed = subst (λ (n : ℕ). made_by n log.entries ≡ w.landed) (sym live'.number) live'.landed }) (g.accounts x);
      fronts = ((live'.seen, live.seen), g.fronts);
      distinct = (subst (λ (n : ℕ). account_with n g.joined ≡ None) (sym live'.number) live'.unjoined, g.distinct);
      later = λ x far.
          let past = g.later x (omega (arith, count, far)) in
          (past.0, none_kept r g.joined x (λ e. omega (arith, e, live'.number, count, far, within views other w at')) past.1);
      living = omega (arith, living_one, living_all, alive, alive', two, g.living);
      trades = record {
        counted = omega (arith, trades_one, trades_all, g.trades.counted);
        members = omega (arith, members_one, members_all, g.trades.members, count);
        bounded =
            each_after (λ (i : ℕ) (z : View). trades_of z ≤ z.members * 2 ^ 59) one other spent_view (omega arith)
            (λ j u n' there.
            each_after (λ (i : ℕ) (z : View). trades_of z ≤ z.members * 2 ^ 59) views id a
            (omega (arith, g.trades.bounded id v at, g.trades.bounded other w at'))
            (λ i z n there'. g.trades.bounded i z there') j u there);
        few = omega (arith, count, g.trades.few);
      };
    }

pub joins_in : (id : ℕ) (v : View) (other : ℕ) (w : View) → v.is_spent ≡ false → v.number ≡ 0 → v.ticket ≡ None → w.is_spent ≡ false → w.ticket ≡ None → Joins IsTurnTable id v other w (joining v w) spent_view
joins_in id v other w lives number rest lives' rest' s g at apart_ids at' = record {
  words = g.words;
  served =
      join_kept (slice_index s.words 0) (slice_index s.words 1) s.homes s.views id v other w g.served at apart_ids (sym (set_else s.views id other (joining v w) apart_ids) ∙ at') lives number rest lives' rest';
}
