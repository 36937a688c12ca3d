-- What the steps of all kinds keep.
use Rattle.std.proofs.Common.{◌≡◌, ℕ, zero, suc, ◌+◌, ◌*◌, ◌^◌, ◌≤◌, ◌<◌, ◌≢◌, Bool, true, false, List, [], ◌∷◌, ◌++◌, set, refl, sym, ap, subst, ◌∙◌, arith, length-set}
use Rattle.std.specs.Prelude.{IfSome}
use Rattle.std.specs.declared.option.Option.{Option}
use Rattle.std.specs.declared.option.Option.TheVariants.{Some, None}
use mathlib.Core.Option.{some, some-injective}
use mathlib.Core.Logic.{dite}
use native.Mathlib.Decide.{ℕ_discrete}
use lib.ListN.{get_elem?}
use Rattle.std.specs.List.{All}
use Rattle.atomic_table.proofs.Lists.{set_else, set_here}
use Rattle.cgm_atom.specs.declared.entries.Entry.{Entry}
use Rattle.cgm_log.specs.LogBook.{LogBook}
use Rattle.cgm_log.specs.Makers.{maker}
use Rattle.cgm_turn.specs.declared.views.Joined.{Joined}
use Rattle.cgm_turn.specs.declared.views.View.{View}
use Rattle.cgm_turn.specs.Entries.{BeginsWith, made_by}
use Rattle.cgm_turn.specs.Rule.{AreTicketsApart, IsAccountOf, IsLive, AreTradesCounted, IsSpent, BySpent, Leads, trades_of, total_of, members_of}
use Rattle.cgm_turn.proofs.Ledgers.{begins_longer, each_after, others_add_none, total-same, within}

-- ---- what a pass that has the log knows

pub live_if_held : (t : Bool) (serving next : ℕ) (log : LogBook) (joined : List Joined) (j : ℕ) (v : View) (old : List Entry) → BySpent t (IsSpent joined j v) (IsLive serving next log joined j v) → v.held ≡ Some old → IsLive serving next log joined j v
live_if_held true serving next log joined j v old k e = let none = k.held in absurd (cc)
live_if_held false serving next log joined j v old k e = k

pub known_again : (t : Bool) (s s' n n' : ℕ) (log log' : LogBook) (joined : List Joined) (j : ℕ) (v w : View) (old : List Entry) → BySpent t (IsSpent joined j v) (IsLive s n log joined j v) → v.held ≡ Some old → IsLive s' n' log' joined j w → BySpent t (IsSpent joined j w) (IsLive s' n' log' joined j w)
known_again true s s' n n' log log' joined j v w old k e live = let none = k.held in absurd (cc)
known_again false s s' n n' log log' joined j v w old k e live = live

pub live_if_ticket : (t : Bool) (serving next : ℕ) (log : LogBook) (joined : List Joined) (j : ℕ) (v : View) (ticket : ℕ) → BySpent t (IsSpent joined j v) (IsLive serving next log joined j v) → v.ticket ≡ Some ticket → IsLive serving next log joined j v
live_if_ticket true serving next log joined j v ticket k e = let none = k.ticket in absurd (cc)
live_if_ticket false serving next log joined j v ticket k e = k

pub known_with_ticket : (t : Bool) (s s' n n' : ℕ) (log log' : LogBook) (joined : List Joined) (j : ℕ) (v w : View) (ticket : ℕ) → BySpent t (IsSpent joined j v) (IsLive s n log joined j v) → v.ticket ≡ Some ticket → IsLive s' n' log' joined j w → BySpent t (IsSpent joined j w) (IsLive s' n' log' joined j w)
known_with_ticket true s s' n n' log log' joined j v w ticket k e live = let none = k.ticket in absurd (cc)
known_with_ticket false s s' n n' log log' joined j v w ticket k e live = live

pub live_if : (t : Bool) (serving next : ℕ) (log : LogBook) (joined : List Joined) (j : ℕ) (v : View) → BySpent t (IsSpent joined j v) (IsLive serving next log joined j v) → t ≡ false → IsLive serving next log joined j v
live_if true serving next log joined j v k e = absurd (cc)
live_if false serving next log joined j v k e = k

pub known_live : (t : Bool) (serving next : ℕ) (log : LogBook) (joined : List Joined) (j : ℕ) (v : View) → t ≡ false → IsLive serving next log joined j v → BySpent t (IsSpent joined j v) (IsLive serving next log joined j v)
known_live true serving next log joined j v e live = absurd (cc)
known_live false serving next log joined j v e live = live

-- a pass without a ticket holds nothing
pub rests : (o : Option (List Entry)) (ticket : Option ℕ) (serving : ℕ) (log : LogBook) → ticket ≡ None → IfSome o (λ entries. (ticket ≡ Some serving) × (entries ≡ log.entries)) → o ≡ None
rests None ticket serving log e h = refl
rests (Some entries) ticket serving log e h = let some_ticket = h.0 in absurd (cc)

pub at_some : {X : Type 0} (P : X → Type 0) (o : Option X) (x : X) → o ≡ Some x → IfSome o P → P x
at_some P o x e h = subst (λ (p : Option _). IfSome p P) e h

pub if_none : {X : Type 0} (P : X → Type 0) (o : Option X) → o ≡ None → IfSome o P
if_none P None e = tt
if_none P (Some x) e = absurd (cc)

-- nothing is held, and something is
pub held_none : (o : Option (List Entry)) (entries : List Entry) (P : Type 0) → o ≡ None → o ≡ Some entries → P
held_none o entries P none held = absurd (cc)

-- who isn't served holds nothing
holds_unserved : (o : Option (List Entry)) (ticket : Option ℕ) (serving : ℕ) (log : LogBook) → ¬ (ticket ≡ Some serving) → IfSome o (λ entries. (ticket ≡ Some serving) × (entries ≡ log.entries)) → o ≡ None
holds_unserved None ticket serving log other h = refl
holds_unserved (Some entries) ticket serving log other h = absurd (other h.0)

pub other_holds_none : (t : Bool) (serving next : ℕ) (log : LogBook) (joined : List Joined) (j : ℕ) (u : View) → ¬ (u.ticket ≡ Some serving) → BySpent t (IsSpent joined j u) (IsLive serving next log joined j u) → u.held ≡ None
other_holds_none true serving next log joined j u other k = k.held
other_holds_none false serving next log joined j u other k = holds_unserved u.held u.ticket serving log other k.holds

-- ---- the others

pub waits_on : (o : Option ℕ) (serving next : ℕ) → ((t : ℕ) → o ≡ Some t → t ≢ serving) → IfSome o (λ t. (serving ≤ t) × (t < next)) → IfSome o (λ t. (serving + 1 ≤ t) × (t < next))
waits_on None serving next other h = tt
waits_on (Some t) serving next other h = let n : t ≢ serving = other t refl in (omega arith, h.1)

pub holds_none : (o : Option (List Entry)) (ticket : Option ℕ) (serving : ℕ) (log : LogBook) (P : List Entry → Type 0) → ¬ (ticket ≡ Some serving) → IfSome o (λ entries. (ticket ≡ Some serving) × (entries ≡ log.entries)) → IfSome o P
holds_none None ticket serving log P other h = tt
holds_none (Some entries) ticket serving log P other h = absurd (other h.0)

pub other_knows : (t : Bool) (serving next by : ℕ) (log log' : LogBook) (added : List Entry) (joined : List Joined) (j : ℕ) (u : View) → j ≢ by → log'.entries ≡ log.entries ++ added → All (λ e. maker e ≡ by) added → log'.problem ≡ log.problem → ¬ (u.ticket ≡ Some serving)
    → BySpent t (IsSpent joined j u) (IsLive serving next log joined j u) → BySpent t (IsSpent joined j u) (IsLive (serving + 1) next log' joined j u)
other_knows true serving next by log log' added joined j u n grown own same other k = k
other_knows false serving next by log log' added joined j u n grown own same other k = record {
  number = k.number;
  problem = k.problem ∙ sym same;
  seen = subst (λ (xs : List Entry). BeginsWith xs u.seen) (sym grown) (begins_longer log.entries u.seen added k.seen);
  landed = ap (made_by j) grown ∙ others_add_none j by log.entries added n own ∙ k.landed;
  unjoined = k.unjoined;
  waits = waits_on u.ticket serving next (λ t e same_ticket. other (e ∙ ap Some same_ticket)) k.waits;
  bounded = k.bounded;
  begun = k.begun;
  holds = holds_none u.held u.ticket serving log (λ entries. (u.ticket ≡ Some (serving + 1)) × (entries ≡ log'.entries)) other k.holds;
}

-- ---- the first pass, where a view keeps what it says of the others

pub leads_kept : (views : List View) (id : ℕ) (v w : View) (joined : List Joined) (out splits : ℕ) → get_elem? views id ≡ some v → w.is_spent ≡ v.is_spent → w.joined ≡ v.joined → w.out ≡ v.out → w.splits ≡ v.splits → Leads views joined out splits → Leads (set views id w) joined out splits
leads_kept views id v w joined out splits at spent_same joined_same out_same splits_same h =
    dite (ℕ_discrete 0 id)
    (λ here.
    let v_is : h.first ≡ v = some-injective h.first v (sym h.place ∙ ap (get_elem? views) here ∙ at) in
    record {
      first = w;
      place = ap (get_elem? (set views id w)) here ∙ set_here views id w (within views id v at);
      lives = spent_same ∙ ap (λ (x : View). x.is_spent) (sym v_is) ∙ h.lives;
      joined_is = joined_same ∙ ap (λ (x : View). x.joined) (sym v_is) ∙ h.joined_is;
      out_is = out_same ∙ ap (λ (x : View). x.out) (sym v_is) ∙ h.out_is;
      splits_is = splits_same ∙ ap (λ (x : View). x.splits) (sym v_is) ∙ h.splits_is;
    })
    (λ elsewhere. record {
      first = h.first;
      place = set_else views id 0 w elsewhere ∙ h.place;
      lives = h.lives;
      joined_is = h.joined_is;
      out_is = h.out_is;
      splits_is = h.splits_is;
    })

-- ---- tickets

pub apart_without : (views : List View) (id : ℕ) (w : View) → w.ticket ≡ None → AreTicketsApart views → AreTicketsApart (set views id w)
apart_without views id w none apart j k x y t at at' e e' =
    each_after (λ (i : ℕ) (z : View). z.ticket ≡ Some t → i ≡ k) views id w (λ some_ticket. absurd (cc))
    (λ i z n here some_ticket.
    each_after (λ (i' : ℕ) (z' : View). z'.ticket ≡ Some t → i ≡ i') views id w (λ some_ticket'. absurd (cc))
    (λ i' z' n' here' some_ticket'. apart i i' z z' t here here' some_ticket some_ticket') k y at' e')
    j x at e

-- a view that keeps its ticket
pub apart_same : (views : List View) (id : ℕ) (v w : View) → get_elem? views id ≡ some v → w.ticket ≡ v.ticket → AreTicketsApart views → AreTicketsApart (set views id w)
apart_same views id v w here same apart j k x y t at at' e e' =
    each_after (λ (i : ℕ) (z : View). z.ticket ≡ Some t → i ≡ k) views id w
    (λ some_ticket.
    each_after (λ (i' : ℕ) (z' : View). z'.ticket ≡ Some t → id ≡ i') views id w (λ some_ticket'. refl)
    (λ i' z' n' there' some_ticket'. apart id i' v z' t here there' (sym same ∙ some_ticket) some_ticket') k y at' e')
    (λ i z n there some_ticket.
    each_after (λ (i' : ℕ) (z' : View). z'.ticket ≡ Some t → i ≡ i') views id w (λ some_ticket'. apart i id z v t there here some_ticket (sym same ∙ some_ticket'))
    (λ i' z' n' there' some_ticket'. apart i i' z z' t there there' some_ticket some_ticket') k y at' e')
    j x at e

-- a view that gets a ticket that nobody has
pub apart_new : (views : List View) (id : ℕ) (w : View) (new : ℕ) → w.ticket ≡ Some new → ((j : ℕ) (u : View) → get_elem? views j ≡ some u → ¬ (u.ticket ≡ Some new)) → AreTicketsApart views → AreTicketsApart (set views id w)
apart_new views id w new drawn nobody apart j k x y t at at' e e' =
    each_after (λ (i : ℕ) (z : View). z.ticket ≡ Some t → i ≡ k) views id w
    (λ some_ticket.
    each_after (λ (i' : ℕ) (z' : View). z'.ticket ≡ Some t → id ≡ i') views id w (λ some_ticket'. refl)
    (λ i' z' n' there' some_ticket'. absurd (nobody i' z' there' (some_ticket' ∙ sym some_ticket ∙ drawn))) k y at' e')
    (λ i z n there some_ticket.
    each_after (λ (i' : ℕ) (z' : View). z'.ticket ≡ Some t → i ≡ i') views id w (λ some_ticket'. absurd (nobody i z there (some_ticket ∙ sym some_ticket' ∙ drawn)))
    (λ i' z' n' there' some_ticket'. apart i i' z z' t there there' some_ticket some_ticket') k y at' e')
    j x at e

pub counted_kept : (next : ℕ) (views : List View) (id : ℕ) (v w : View) → get_elem? views id ≡ some v → trades_of w ≡ trades_of v → w.members ≡ v.members → AreTradesCounted next views → AreTradesCounted next (set views id w)
counted_kept next views id v w at trades_same members_same h = record {
  counted = total-same trades_of views id v w at trades_same ∙ h.counted;
  members = total-same members_of views id v w at members_same ∙ h.members ∙ sym (length-set views id w);
  bounded =
      each_after (λ (i : ℕ) (z : View). trades_of z ≤ z.members * 2 ^ 59) views id w
      (subst (λ (n : ℕ). trades_of w ≤ n * 2 ^ 59) (sym members_same) (subst (λ (n : ℕ). n ≤ v.members * 2 ^ 59) (sym trades_same) (h.bounded id v at)))
      (λ j u n here. h.bounded j u here);
  few = omega (arith, length-set views id w, h.few);
}

-- ---- accounts of the joined

pub accounts_on : (o : Option Joined) (w by : ℕ) (log log' : LogBook) (added : List Entry) → (o ≢ None → w ≢ by) → log'.entries ≡ log.entries ++ added → All (λ e. maker e ≡ by) added → IfSome o (IsAccountOf log w) → IfSome o (IsAccountOf log' w)
accounts_on None w by log log' added other grown own h = tt
accounts_on (Some r) w by log log' added other grown own h = record {
  seen = subst (λ (xs : List Entry). BeginsWith xs r.seen) (sym grown) (begins_longer log.entries r.seen added h.seen);
  landed = ap (made_by w) grown ∙ others_add_none w by log.entries added (other (λ none. absurd (cc))) own ∙ h.landed;
}

-- ---- no word wraps

total_at_most : (g h : View → ℕ) (views : List View) → ((j : ℕ) (v : View) → get_elem? views j ≡ some v → g v ≤ h v * 2 ^ 59) → total_of g views ≤ total_of h views * 2 ^ 59
total_at_most g h [] each = omega arith
total_at_most g h (v ∷ views) each =
    omega (arith, each zero v refl, total_at_most g h views (λ j u e. each (suc j) u e))

pub bound_of : (views : List View) (next : ℕ) → AreTradesCounted next views → next < 2 ^ 64
bound_of views next h =
    omega (arith, sym h.counted, total_at_most trades_of members_of views h.bounded, h.members, h.few)
