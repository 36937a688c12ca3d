-- Where all others were joined to the first pass, and it is at rest, the log is at home, and each pass's entries are what it landed.
use Rattle.std.proofs.Common.{◌≡◌, ℕ, zero, suc, ◌≤◌, ◌<◌, ◌≢◌, Bool, true, false, eq-eqb, ne_eqb, List, [], ◌∷◌, length, refl, sym, ap, subst, ◌∙◌, arith}
use Rattle.std.specs.Prelude.{IfSome, IsSome, if◌then◌else◌, ◌==◌}
use Rattle.std.specs.Option.{option_map_or}
use Rattle.std.specs.declared.option.Option.{Option}
use Rattle.std.specs.declared.option.Option.TheVariants.{Some, None}
use mathlib.Core.Option.{some, some-injective}
use mathlib.Core.Option as option
use mathlib.Core.Logic.{dite}
use native.Mathlib.Decide.{ℕ_discrete, dec_le}
use lib.ListN.{get_elem?}
use Rattle.std.proofs.Math.Nat.{lt_of_not-le}
use Rattle.std.proofs.lemmas.Bool.{false≢true}
use Rattle.cgm_log.specs.LogBook.{LogBook}
use Rattle.cgm_turn.specs.declared.views.Joined.{Joined}
use Rattle.cgm_turn.specs.declared.views.View.{View}
use Rattle.cgm_turn.specs.Entries.{AreOfLog, BeginsWith, made_by}
use Rattle.cgm_turn.specs.Rule.{IsAccountOf, IsLive, IsServed, IsSpent, BySpent, NoneHolds, living, total_of}
use Rattle.cgm_turn.specs.Views.{IsLogAtEnd, account_with, landed_of}
use Rattle.cgm_turn.proofs.Keeping.{live_if, rests}
use Rattle.cgm_turn.proofs.Ledgers.{terms_le}

there : {A : Type 0} (l : List A) (i : ℕ) → i < length l → (a : A) × (get_elem? l i ≡ some a)
there [] i h = absurd (omega arith)
there (x ∷ xs) zero h = (x, refl)
there (x ∷ xs) (suc i) h = there xs i (omega arith)

one_if : (v : View) (t : Bool) → t ≡ false → v.is_spent ≡ t → 1 ≤ living v
one_if v true e same = absurd (cc)
one_if v false e same = rw same (omega arith)

-- another that lives is one too many
abbrev total_living : List View → ℕ
total_living views = total_of living views

others_spent : (views : List View) (v : View) (j : ℕ) (u : View) (t : Bool) → get_elem? views 0 ≡ some v → v.is_spent ≡ false → total_living views ≤ 1 → j ≢ 0 → get_elem? views j ≡ some u → u.is_spent ≡ t → t ≡ true
others_spent views v j u true place lives only n at e = refl
others_spent views v j u false place lives only n at e =
    let two = terms_le living views 0 j v u n place at in
    absurd (omega (arith, two, only, one_if v v.is_spent lives refl, one_if u u.is_spent e refl))

spent_if : (t : Bool) (serving next : ℕ) (log : LogBook) (joined : List Joined) (j : ℕ) (v : View) → BySpent t (IsSpent joined j v) (IsLive serving next log joined j v) → t ≡ true → IsSpent joined j v
spent_if true serving next log joined j v k e = k
spent_if false serving next log joined j v k e = absurd (cc)

none_holds : (serving next : ℕ) (homes : List (option.Option (Option LogBook))) (views : List View) (v : View) → (g : IsServed serving next homes views) → get_elem? views 0 ≡ some v → v.is_spent ≡ false → v.ticket ≡ None → total_living views ≤ 1 → NoneHolds views
none_holds serving next homes views v g place lives rest only j u at =
    dite (ℕ_discrete j 0)
    (λ here.
    let same : v ≡ u = some-injective v u (sym place ∙ ap (get_elem? views) (sym here) ∙ at) in
    let live = live_if v.is_spent serving next g.log g.joined 0 v (g.each 0 v place) lives in
    ap (λ (x : View). x.held) (sym same) ∙ rests v.held v.ticket serving g.log rest live.holds)
    (λ elsewhere. (spent_if u.is_spent serving next g.log g.joined j u (g.each j u at) (others_spent views v j u u.is_spent place lives only elsewhere at refl)).held)

-- what others have in the log
of_joined : (o : Option Joined) (w : ℕ) (log : LogBook) → (o ≡ None → made_by w log.entries ≡ []) → IfSome o (IsAccountOf log w) → made_by w log.entries ≡ option_map_or landed_of o []
of_joined None w log none h = none refl
of_joined (Some r) w log none h = h.landed

absent : (o : Option Joined) → o ≡ None → ¬ IsSome o
absent None e h = absurd (false≢true h)
absent (Some r) e h = absurd (cc)

unjoined_made_none : (serving next : ℕ) (homes : List (option.Option (Option LogBook))) (views : List View) (v : View) → (g : IsServed serving next homes views) → get_elem? views 0 ≡ some v → v.is_spent ≡ false → total_living views ≤ 1 → (w : ℕ) → w ≢ 0 → account_with w g.joined ≡ None → made_by w g.log.entries ≡ []
unjoined_made_none serving next homes views v g place lives only w n none =
    dite (dec_le (length views) w)
    (λ far. (g.later w far).0)
    (λ near.
    let found = there views w (lt_of_not-le near) in
    let spent = spent_if found.0.is_spent serving next g.log g.joined w found.0 (g.each w found.0 found.1) (others_spent views v w found.0 found.0.is_spent place lives only n found.1 refl) in
    absurd (absent (account_with w g.joined) none spent.account))

chosen : {X : Type 0} (t : Bool) (x y : X) → t ≡ true → (if t then x else y) ≡ x
chosen true x y e = refl
chosen false x y e = absurd (cc)

passed : {X : Type 0} (t : Bool) (x y : X) → t ≡ false → (if t then x else y) ≡ y
passed true x y e = absurd (cc)
passed false x y e = refl

seen_on : (o : Option Joined) (w : ℕ) (log : LogBook) → IfSome o (IsAccountOf log w) → IfSome o (λ r. BeginsWith log.entries r.seen)
seen_on None w log h = tt
seen_on (Some r) w log h = h.seen

pub ends : (serving next : ℕ) (homes : List (option.Option (Option LogBook))) (views : List View) (id : ℕ) (v : View) → IsServed serving next homes views → get_elem? views id ≡ some v → v.is_spent ≡ false → v.number ≡ 0 → v.ticket ≡ None → v.out ≡ 0
    → (log : LogBook) × (get_elem? homes 0 ≡ some (some (Some log))) × IsLogAtEnd v log
ends serving next homes views id v g at lives number rest out =
    let live_at = live_if v.is_spent serving next g.log g.joined id v (g.each id v at) lives in
    let place : get_elem? views 0 ≡ some v = ap (get_elem? views) (sym number ∙ live_at.number) ∙ at in
    let live = live_if v.is_spent serving next g.log g.joined 0 v (g.each 0 v place) lives in
    let same : g.leads.first ≡ v = some-injective g.leads.first v (sym g.leads.place ∙ place) in
    let none_out : g.out ≡ 0 = sym g.leads.out_is ∙ ap (λ (x : View). x.out) same ∙ out in
    let only : total_living views ≤ 1 = omega (arith, g.living, none_out) in
    let joined_is : v.joined ≡ g.joined = ap (λ (x : View). x.joined) (sym same) ∙ g.leads.joined_is in (
      g.log,
      g.home (none_holds serving next homes views v g place lives rest only),
      record {
        problem = sym live.problem;
        seen = live.seen;
        made = λ w.
            dite (ℕ_discrete w 0)
            (λ own.
            ap (λ (n : ℕ). made_by n g.log.entries) own ∙ live.landed
            ∙ sym (chosen (w == v.number) v.landed (option_map_or landed_of (account_with w v.joined) []) (eq-eqb w v.number (own ∙ sym number))))
            (λ other.
            of_joined (account_with w g.joined) w g.log (unjoined_made_none serving next homes views v g place lives only w other) (g.accounts w)
            ∙ ap (λ (xs : List Joined). option_map_or landed_of (account_with w xs) []) (sym joined_is)
            ∙ sym (passed (w == v.number) v.landed (option_map_or landed_of (account_with w v.joined) []) (ne_eqb w v.number (λ e. other (e ∙ number)))));
        fronts = subst (λ (xs : List Joined). AreOfLog g.log.entries xs) (sym joined_is) g.fronts;
        seen_by_joined = λ w. subst (λ (xs : List Joined). IfSome (account_with w xs) (λ r. BeginsWith g.log.entries r.seen)) (sym joined_is) (seen_on (account_with w g.joined) w g.log (g.accounts w));
      },
    )
