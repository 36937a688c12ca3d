-- A look at the ticket that is served keeps the rule: whose turn it is takes the log.
use Rattle.std.proofs.Common.{◌≡◌, ℕ, ◌+◌, List, [], length, set, refl, sym, ap, subst, ◌∙◌, arith, length-set}
use Rattle.std.specs.Prelude.{slice_index, slice_set}
use Rattle.std.specs.declared.option.Option.{Option}
use Rattle.std.specs.declared.option.Option.TheVariants.{Some, None}
use mathlib.Core.Option.{some, some-injective}
use mathlib.Core.Option as option
use mathlib.Core.Logic.{dite}
use native.Mathlib.Decide.{ℕ_discrete}
use lib.ListN.{get_elem?}
use Rattle.std.proofs.lemmas.List.{set-get_or}
use Rattle.atomic_table.specs.Table.{Act, Allows, State, keeps, step, Valid, carried_after, stepped, takes}
use Rattle.atomic_table.proofs.Lists.{set_again, set_here}
use Rattle.cgm_log.specs.LogBook.{LogBook}
use Rattle.cgm_turn.specs.declared.views.View.{View}
use Rattle.cgm_turn.specs.Entries.{made_by}
use Rattle.cgm_turn.specs.Plays.{TurnComes, holding}
use Rattle.cgm_turn.specs.Rule.{IsServed, IsTurnTable, KnowsTurn, NoneHolds, living, tickets_of}
use Rattle.cgm_turn.proofs.Keeping.{apart_same, known_with_ticket, leads_kept, live_if_ticket, other_holds_none, counted_kept}
use Rattle.cgm_turn.proofs.Ledgers.{each_after, total-same, within}

none_holds : (serving next : ℕ) (homes : List (option.Option (Option LogBook))) (views : List View) (id : ℕ) (v : View) → IsServed serving next homes views → get_elem? views id ≡ some v → v.ticket ≡ Some serving → v.held ≡ None → NoneHolds views
none_holds serving next homes views id v g at mine rest j u there =
    dite (ℕ_discrete j id)
    (λ here. ap (λ (x : View). x.held) (sym (some-injective v u (sym at ∙ ap (get_elem? views) (sym here) ∙ there))) ∙ rest)
    (λ elsewhere. other_holds_none u.is_spent serving next g.log g.joined j u (λ e. elsewhere (g.apart j id u v serving there at e mine)) (g.each j u there))

take_kept : (serving next : ℕ) (homes : List (option.Option (Option LogBook))) (views : List View) (id : ℕ) (v : View) → (g : IsServed serving next homes views) → get_elem? views id ≡ some v → v.ticket ≡ Some serving
    → IsServed serving next (set homes 0 option.none) (set views id (holding v g.log.entries))
take_kept serving next homes views id v g at mine =
    let w : View = holding v g.log.entries in
    let live = live_if_ticket v.is_spent serving next g.log g.joined id v serving (g.each id v at) mine in
    record {
      log = g.log;
      accepted = g.accepted;
      joined = g.joined;
      out = g.out;
      splits = g.splits;
      slots = length-set homes 0 option.none ∙ g.slots;
      leads = leads_kept views id v w g.joined g.out g.splits at refl refl refl refl g.leads;
      given = length-set views id w ∙ g.given;
      home = λ none. let held = none id w (set_here views id w (within views id v at)) in absurd (cc);
      away = λ j u there entries e. set_here homes 0 option.none (omega (arith, g.slots));
      order = g.order;
      drawn = ap (λ (n : ℕ). serving + n) (total-same tickets_of views id v w at refl) ∙ g.drawn;
      each =
          each_after (λ (j : ℕ) (u : View). KnowsTurn serving next g.log g.joined j u) views id w
          (known_with_ticket v.is_spent serving serving next next g.log g.log g.joined id v w serving (g.each id v at) mine (record {
            number = live.number;
            problem = live.problem;
            seen = live.seen;
            landed = live.landed;
            unjoined = live.unjoined;
            waits = live.waits;
            bounded = live.bounded;
            begun = live.begun;
            holds = (mine, refl);
          }))
          (λ j u n there. g.each j u there);
      apart = apart_same views id v w at refl g.apart;
      accounts = g.accounts;
      fronts = g.fronts;
      distinct = g.distinct;
      later = λ x far. g.later x (omega (arith, length-set views id w, far));
      living = total-same living views id v w at refl ∙ g.living;
      trades = counted_kept next views id v w at refl refl g.trades;
    }

same_words : (words : List ℕ) → slice_set words 0 (slice_index words 0) ≡ words
same_words words = set-get_or words 0 0

comes : (id t : ℕ) (v : View) (s : State (Option LogBook) View) → IsTurnTable s → get_elem? s.views id ≡ some v → v.ticket ≡ Some t → v.held ≡ None → Dec (t ≡ slice_index s.words 0)
    → (w : View) × (a : Act (Option LogBook)) × Valid s.homes [] a × IsTurnTable (stepped s 0 (slice_index s.words 0) id [] w a) × TurnComes t (step 1 0 0 0 option.none) (v, []) (slice_index s.words 0) (w, carried_after [] a)
comes id t v s g at ticket rest (yes hit) =
    let serving : ℕ = slice_index s.words 0 in
    let next : ℕ = slice_index s.words 1 in
    let mine : v.ticket ≡ Some serving = ticket ∙ ap Some hit in
    let live = live_if_ticket v.is_spent serving next g.served.log g.served.joined id v serving (g.served.each id v at) mine in
    let log : LogBook = g.served.log in (
      holding v log.entries,
      takes 0 (Some log),
      g.served.home (none_holds serving next s.homes s.views id v g.served at mine rest),
      record {
        words = ap length (same_words s.words) ∙ g.words;
        served =
            subst (λ (ws : List ℕ). IsServed (slice_index ws 0) (slice_index ws 1) (set s.homes 0 option.none) (set s.views id (holding v log.entries))) (sym (same_words s.words))
            (take_kept serving next s.homes s.views id v g.served at mine);
      },
      (
        λ e. (log, record { problem = live.problem; seen = live.seen; landed = subst (λ (n : ℕ). made_by n log.entries ≡ v.landed) (sym live.number) live.landed }, refl),
        λ n. absurd (n hit),
      ),
    )
comes id t v s g at ticket rest (no miss) = (
  v,
  keeps,
  tt,
  record {
    words = ap length (same_words s.words) ∙ g.words;
    served =
        subst (λ (ws : List ℕ). IsServed (slice_index ws 0) (slice_index ws 1) s.homes (set s.views id v)) (sym (same_words s.words))
        (subst (λ (vs : List View). IsServed (slice_index s.words 0) (slice_index s.words 1) s.homes vs) (sym (set_again s.views id v at)) g.served);
  },
  (λ e. absurd (miss e), λ n. refl),
)

pub waits : (id t : ℕ) (v : View) → v.ticket ≡ Some t → v.held ≡ None → Allows IsTurnTable 1 id (v, []) 0 (λ n. n) (TurnComes t (step 1 0 0 0 option.none) (v, []))
waits id t v ticket rest s g wide at small = comes id t v s g at ticket rest (ℕ_discrete t (slice_index s.words 0))
