-- A trade, as the pass sees it.
use Rattle.std.proofs.Common.{◌≡◌, ℕ, List, ◌++◌, length, drop, refl, sym, ap, subst, ◌∙◌}
use Rattle.std.specs.Prelude.{Result, Ok, Err}
use Rattle.std.specs.declared.option.Option.{Option}
use Rattle.std.specs.declared.option.Option.TheVariants.{Some}
use Rattle.std.proofs.Math.Seq.{drop-append_seam}
use Rattle.atomic_table.specs.Seated.{TableId}
use Rattle.atomic_table.specs.Table.{Me}
use Rattle.cgm_atom.specs.declared.entries.Entry.{Entry}
use Rattle.cgm_atom.specs.Instance.{Instance}
use Rattle.cgm_log.specs.declared.batches.Batch.{Batch}
use Rattle.cgm_log.specs.declared.batches.Refund.{Refund}
use Rattle.cgm_log.specs.declared.batches.Traded.{Traded}
use Rattle.cgm_log.specs.Landing.{landed, with_landed}
use Rattle.cgm_log.specs.LogBook.{LogBook}
use Rattle.cgm_log.specs.Trading.{IsAnswer, news_of}
use Rattle.cgm_turn.specs.declared.views.View.{View}
use Rattle.cgm_turn.specs.Passes.{IsSamePass, IsTradeOf, PassState}
use Rattle.cgm_turn.specs.Plays.{IsFoundBy, drawing, holding, put_back}
use Rattle.cgm_turn.specs.Turns.{IsInTurn, IsTurnTaken, TurnCame}

abbrev pub state_at : TableId → View → PassState
state_at table v =
    record {
      table = table;
      problem = v.problem;
      number = v.number;
      told = v.seen;
      own = v.landed;
      trades = v.begun;
      splits = v.splits;
      out = v.out;
      joined = v.joined;
    }

-- ---- the turn came

pub in_turn : (v : View) (ticket : ℕ) (me : Me (Option LogBook) View) → TurnCame (drawing v ticket) me → IsInTurn me
in_turn v ticket me w =
    subst (λ (x : Me (Option LogBook) View). IsInTurn x) (sym w.after)
    (record { log = w.log; found = record { problem = w.found.problem; seen = w.found.seen; landed = w.found.landed }; held = refl; only = refl })

-- ---- the turn was taken

-- what was told and the news are the log before
news_after : (v : View) (before : LogBook) (news : List Entry) → IsFoundBy v before → news ≡ drop (length v.seen) before.entries → v.seen ++ news ≡ before.entries
news_after v before news found e =
    ap (λ (xs : List Entry). v.seen ++ xs) (e ∙ ap (drop (length v.seen)) found.seen.1 ∙ drop-append_seam v.seen found.seen.0) ∙ sym found.seen.1

same_pass : (table table' : TableId) (v : View) (ticket : ℕ) (entries seen own : List Entry) → table' ≡ table → IsSamePass (state_at table v) (state_at table' (put_back (holding (drawing v ticket) entries) seen own))
same_pass table table' v ticket entries seen own e = record { table = e; problem = refl; number = refl; splits = refl; out = refl; joined = refl }

Some-same : {X : Type 0} (x y : X) → Some x ≡ Some y → x ≡ y
Some-same x y e = cc

trade_by_result : (table table' : TableId) (v : View) (ticket : ℕ) (entries : List Entry) (b : Batch) (r : Result Traded Refund) (me : Me (Option LogBook) View) → table' ≡ table → IsTurnTaken (holding (drawing v ticket) entries) b r me → IsTradeOf (state_at table v) b r (state_at table' me.0)
trade_by_result table table' v ticket entries b (Ok t) me e taken =
    let before : LogBook = taken.before in
    let log : LogBook = taken.landed.0 in
    let w : View = holding (drawing v ticket) entries in
    let found : IsFoundBy v before = record { problem = taken.found.problem; seen = taken.found.seen; landed = taken.found.landed } in
    let held : entries ≡ before.entries = Some-same entries before.entries taken.held in
    let news : v.seen ++ news_of t ≡ before.entries = news_after v before (news_of t) found taken.answer.1 in
    let same : before.problem ≡ v.problem = sym found.problem in
    let on_told : with_landed before.problem before.entries b ≡ with_landed v.problem (v.seen ++ news_of t) b =
    ap (λ (p : Instance). with_landed p before.entries b) same ∙ ap (λ (xs : List Entry). with_landed v.problem xs b) (sym news) in
    let landed_told : landed before.problem before.entries b ≡ landed v.problem (v.seen ++ news_of t) b =
    ap (λ (p : Instance). landed p before.entries b) same ∙ ap (λ (xs : List Entry). landed v.problem xs b) (sym news) in
    subst (λ (x : View). IsTradeOf (state_at table v) b (Ok t) (state_at table' x)) (sym (ap (λ (m : Me (Option LogBook) View). m.0) taken.landed.4))
    (record {
      answer =
          subst (λ (xs : List Entry). IsAnswer v.problem xs b t) (sym news)
          (subst (λ (p : Instance). IsAnswer p before.entries b t) same taken.answer.0);
      told = taken.landed.3 ∙ on_told;
      own =
          ap (λ (xs : List Entry). v.landed ++ xs)
          (ap (drop (length entries)) (taken.landed.3 ∙ ap (λ (xs : List Entry). xs ++ landed before.problem before.entries b) (sym held))
          ∙ drop-append_seam entries (landed before.problem before.entries b) ∙ landed_told);
      refund = tt;
      trades = refl;
      same = same_pass table table' v ticket entries log.entries (v.landed ++ drop (length entries) log.entries) e;
    })
trade_by_result table table' v ticket entries b (Err x) me e taken =
    subst (λ (y : View). IsTradeOf (state_at table v) b (Err x) (state_at table' y)) (sym (ap (λ (m : Me (Option LogBook) View). m.0) taken.refund.1))
    (record { answer = tt; told = tt; own = tt; refund = (taken.refund.0, refl, refl); trades = refl; same = same_pass table table' v ticket entries v.seen v.landed e })

pub pass_traded : (table table' : TableId) (v : View) (ticket : ℕ) (b : Batch) (r : Result Traded Refund) (me me' : Me (Option LogBook) View) → table' ≡ table → TurnCame (drawing v ticket) me → IsTurnTaken me.0 b r me' → IsTradeOf (state_at table v) b r (state_at table' me'.0)
pass_traded table table' v ticket b r me me' e came taken =
    trade_by_result table table' v ticket came.log.entries b r me' e (subst (λ (x : View). IsTurnTaken x b r me') (ap (λ (x : Me (Option LogBook) View). x.0) came.after) taken)
