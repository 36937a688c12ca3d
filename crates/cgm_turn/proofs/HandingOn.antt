-- The step by which a pass puts the log back and passes the turn on keeps the rule.
use Rattle.std.proofs.Common.{◌≡◌, ℕ, ◌+◌, ◌%◌, ◌^◌, ◌≤◌, ◌<◌, ◌≢◌, List, [], ◌∷◌, ◌++◌, set, drop, refl, sym, ap, subst, ◌∙◌, arith, length-set, get_or-set_same, append-nil}
use Rattle.std.specs.Prelude.{slice_index, slice_set}
use Rattle.std.specs.declared.option.Option.{Option}
use Rattle.std.specs.declared.option.Option.TheVariants.{Some, None}
use mathlib.Core.Option.{some, some-injective}
use mathlib.Core.Option as option
use lib.ListN.{get_elem?}
use Rattle.std.specs.List.{All}
use Rattle.std.proofs.lemmas.List.Elements.{All-nil}
use Rattle.std.proofs.lemmas.List.{get_or-set_other}
use Rattle.std.proofs.Math.Nat.{mod-eq_of_lt}
use Rattle.std.proofs.Math.Seq.{drop-append_seam}
use Rattle.atomic_table.specs.Table.{Allows, State, gives, step, stepped}
use Rattle.atomic_table.proofs.Lists.{set_here}
use Rattle.cgm_atom.specs.declared.entries.Entry.{Entry}
use Rattle.cgm_atom.specs.Acceptance.{IsAccepted}
use Rattle.cgm_log.specs.LogBook.{LogBook}
use Rattle.cgm_log.specs.Makers.{maker}
use Rattle.cgm_turn.specs.declared.views.Joined.{Joined}
use Rattle.cgm_turn.specs.declared.views.View.{View}
use Rattle.cgm_turn.specs.Entries.{AreOfLog, BeginsWith, made_by}
use Rattle.cgm_turn.specs.Plays.{HandsBack, HandsOn, count_held, handed_back, handed_on, put_back}
use Rattle.cgm_turn.specs.Rule.{IsAway, IsLive, IsServed, IsTurnTable, KnowsTurn, count_ticket, living, tickets_of}
use Rattle.cgm_turn.specs.Views.{account_with}
use Rattle.cgm_turn.proofs.Keeping.{accounts_on, apart_without, at_some, bound_of, known_again, leads_kept, held_none, live_if_held, other_holds_none, other_knows, counted_kept}
use Rattle.cgm_turn.proofs.Ledgers.{begins_longer, begins_self, each_after, others_add_none, own_add_all, total-same, total-set, within}

-- ---- fronts of a longer log

begins_on : (old new added front : List Entry) → new ≡ old ++ added → BeginsWith old front → BeginsWith new front
begins_on old new added front e h = subst (λ (xs : List Entry). BeginsWith xs front) (sym e) (begins_longer old front added h)

fronts_longer : (old new added : List Entry) (joined : List Joined) → new ≡ old ++ added → AreOfLog old joined → AreOfLog new joined
fronts_longer old new added [] e h = tt
fronts_longer old new added (r ∷ others) e h =
    ((begins_on old new added r.seen e h.0.0, begins_on old new added r.before e h.0.1), fronts_longer old new added others e h.1)

-- ---- the step

landed_on : (v : View) (log' : LogBook) (old added : List Entry) → v.held ≡ Some old → log'.entries ≡ old ++ added → made_by v.number (old ++ added) ≡ made_by v.number old ++ added → made_by v.number old ≡ v.landed → v.landed ++ drop (count_held v.held) log'.entries ≡ made_by v.number log'.entries
landed_on v log' old added held grown more landed =
    ap (λ (xs : List Entry). v.landed ++ xs) (ap (drop (count_held v.held)) grown ∙ ap (λ (o : Option (List Entry)). drop (count_held o) (old ++ added)) held ∙ drop-append_seam old added)
    ∙ sym (ap (made_by v.number) grown ∙ more ∙ ap (λ (xs : List Entry). xs ++ added) landed)

pub hand_on_kept : (serving next : ℕ) (homes : List (option.Option (Option LogBook))) (views : List View) (id : ℕ) (v : View) (log' : LogBook) (old added : List Entry) → IsServed serving next homes views → get_elem? views id ≡ some v → v.held ≡ Some old → log'.entries ≡ old ++ added → All (λ e. maker e ≡ v.number) added → log'.problem ≡ v.problem → IsAccepted log'.problem log'.entries
    → (seen landed : List Entry) → BeginsWith log'.entries seen → (made_by v.number (old ++ added) ≡ made_by v.number old ++ added → made_by v.number old ≡ v.landed → landed ≡ made_by v.number log'.entries) → IsServed (serving + 1) next (set homes 0 (some (Some log'))) (set views id (put_back v seen landed))
hand_on_kept serving next homes views id v log' old added g at held grown own problem accepted seen landed begins all_own =
    let w : View = put_back v seen landed in
    let log : LogBook = g.log in
    let live : IsLive serving next log g.joined id v = live_if_held v.is_spent serving next log g.joined id v old (g.each id v at) held in
    let here = at_some (λ (entries : List Entry). (v.ticket ≡ Some serving) × (entries ≡ log.entries)) v.held old held live.holds in
    let mine : v.ticket ≡ Some serving = here.0 in
    let found : old ≡ log.entries = here.1 in
    let longer : log'.entries ≡ log.entries ++ added = grown ∙ ap (λ (xs : List Entry). xs ++ added) found in
    let own_here : All (λ e. maker e ≡ id) added = subst (λ (n : ℕ). All (λ e. maker e ≡ n) added) live.number own in
    let same : log'.problem ≡ log.problem = problem ∙ live.problem in
    let homes' : List (option.Option (Option LogBook)) = set homes 0 (some (Some log')) in
    let one_before : tickets_of v ≡ 1 = ap count_ticket mine in
    let none_then : tickets_of w ≡ 0 = refl in
    let ticket = at_some (λ (t : ℕ). (serving ≤ t) × (t < next)) v.ticket serving mine live.waits in
    record {
      log = log';
      accepted = accepted;
      joined = g.joined;
      out = g.out;
      slots = length-set homes 0 (some (Some log')) ∙ g.slots;
      splits = g.splits;
      leads = leads_kept views id v w g.joined g.out g.splits at refl refl refl refl g.leads;
      given = length-set views id w ∙ g.given;
      home = λ rest. set_here homes 0 (some (Some log')) (omega (arith, g.slots));
      away =
          each_after (λ (j : ℕ) (u : View). IsAway homes' u) views id w
          (λ entries e. held_none w.held entries (get_elem? homes' 0 ≡ some option.none) refl e)
          (λ j u n there entries e.
          held_none u.held entries (get_elem? homes' 0 ≡ some option.none)
          (other_holds_none u.is_spent serving next log g.joined j u (λ t. n (g.apart j id u v serving there at t mine)) (g.each j u there)) e);
      order = omega (arith, ticket.1);
      drawn = omega (arith, total-set tickets_of views id v w at, one_before, none_then, g.drawn);
      each =
          each_after (λ (j : ℕ) (u : View). KnowsTurn (serving + 1) next log' g.joined j u) views id w
          (known_again v.is_spent serving (serving + 1) next next log log' g.joined id v w old (g.each id v at) held (record {
            number = live.number;
            problem = sym problem;
            seen = begins;
            landed = subst (λ (n : ℕ). made_by n log'.entries ≡ landed) live.number (sym (all_own (own_add_all v.number old added own) (ap (made_by v.number) found ∙ ap (λ (n : ℕ). made_by n log.entries) live.number ∙ live.landed)));
            unjoined = live.unjoined;
            waits = tt;
            bounded = live.bounded;
            begun = live.begun;
            holds = tt;
          }))
          (λ j u n there.
          other_knows u.is_spent serving next id log log' added g.joined j u n longer own_here same (λ e. n (g.apart j id u v serving there at e mine)) (g.each j u there));
      apart = apart_without views id w refl g.apart;
      accounts = λ x.
          accounts_on (account_with x g.joined) x id log log' added (λ there same_number. there (subst (λ (n : ℕ). account_with n g.joined ≡ None) (sym same_number) live.unjoined)) longer own_here (g.accounts x);
      fronts = fronts_longer log.entries log'.entries added g.joined longer g.fronts;
      distinct = g.distinct;
      later = λ x far.
          let past = g.later x (omega (arith, length-set views id w, far)) in
          let n : x ≢ id = λ e. omega (arith, e, far, length-set views id w, within views id v at) in
          (ap (made_by x) longer ∙ others_add_none x id log.entries added n own_here ∙ past.0, past.1);
      living = total-same living views id v w at refl ∙ g.living;
      trades = counted_kept next views id v w at refl refl g.trades;
    }

-- ---- on the table

goes_home : (id : ℕ) (v : View) (log : LogBook) (old added : List Entry) (seen landed : List Entry) (s : State (Option LogBook) View) → v.held ≡ Some old → log.entries ≡ old ++ added → All (λ e. maker e ≡ v.number) added → log.problem ≡ v.problem → IsAccepted log.problem log.entries → BeginsWith log.entries seen
    → (made_by v.number (old ++ added) ≡ made_by v.number old ++ added → made_by v.number old ≡ v.landed → landed ≡ made_by v.number log.entries)
    → IsTurnTable s → get_elem? s.views id ≡ some v → IsTurnTable (stepped s 0 ((slice_index s.words 0 + 1) % 2 ^ 64) id ((0, Some log) ∷ []) (put_back v seen landed) gives)
goes_home id v log old added seen landed s held grown own problem accepted begins all_own g at =
    let serving : ℕ = slice_index s.words 0 in
    let next : ℕ = slice_index s.words 1 in
    let w : View = put_back v seen landed in
    let kept = hand_on_kept serving next s.homes s.views id v log old added g.served at held grown own problem accepted seen landed begins all_own in
    let n : ℕ = (serving + 1) % 2 ^ 64 in
    let no_wrap : (serving + 1) % 2 ^ 64 ≡ serving + 1 = mod-eq_of_lt (omega (arith, kept.order, bound_of s.views next g.served.trades)) in
    let first : slice_index (slice_set s.words 0 n) 0 ≡ serving + 1 = get_or-set_same s.words 0 n 0 (omega (arith, g.words)) ∙ no_wrap in
    let second : slice_index (slice_set s.words 0 n) 1 ≡ next = get_or-set_other s.words 0 1 n 0 (λ e. omega arith) in
    record {
      words = length-set s.words 0 n ∙ g.words;
      served =
          subst (λ (k : ℕ). IsServed k (slice_index (slice_set s.words 0 n) 1) (set s.homes 0 (some (Some log))) (set s.views id w)) (sym first)
          (subst (λ (k : ℕ). IsServed (serving + 1) k (set s.homes 0 (some (Some log))) (set s.views id w)) (sym second) kept);
    }

pub hands_on : (id : ℕ) (v : View) (log : LogBook) (old added : List Entry) → v.held ≡ Some old → log.entries ≡ old ++ added → All (λ e. maker e ≡ v.number) added → log.problem ≡ v.problem → IsAccepted log.problem log.entries
    → Allows IsTurnTable 1 id (v, (0, Some log) ∷ []) 0 (λ n. (n + 1) % 2 ^ 64) (HandsOn (step 1 0 1 0 option.none) (v, (0, Some log) ∷ []))
hands_on id v log old added held grown own problem accepted s g wide at small = (
  handed_on v log,
  gives,
  tt,
  goes_home id v log old added log.entries (v.landed ++ drop (count_held v.held) log.entries) s held grown own problem accepted (begins_self log.entries) (landed_on v log old added held grown) g at,
  refl,
)

back_on : (v : View) (log : LogBook) (old : List Entry) → log.entries ≡ old → made_by v.number old ≡ v.landed → v.landed ≡ made_by v.number log.entries
back_on v log old same landed = sym landed ∙ ap (made_by v.number) (sym same)

-- the log goes back as it was found, and what was seen stays
pub hands_back : (id : ℕ) (v : View) (log : LogBook) (old : List Entry) → v.held ≡ Some old → log.entries ≡ old → log.problem ≡ v.problem → IsAccepted log.problem log.entries → BeginsWith log.entries v.seen
    → Allows IsTurnTable 1 id (v, (0, Some log) ∷ []) 0 (λ n. (n + 1) % 2 ^ 64) (HandsBack (step 1 0 1 0 option.none) (v, (0, Some log) ∷ []))
hands_back id v log old held same problem accepted begins s g wide at small = (
  handed_back v,
  gives,
  tt,
  goes_home id v log old [] v.seen v.landed s held (same ∙ sym (append-nil old)) (All-nil (λ e. maker e ≡ v.number)) problem accepted begins (λ more landed. back_on v log old same landed) g at,
  refl,
)
