-- What each worker was told is a front of the log at the end.
use Rattle.std.proofs.Common.{◌≡◌, ℕ, ◌≤◌, Bool, true, false, List, [], ◌∷◌, ◌++◌, refl, sym, ap, subst, ◌∙◌, inl, inr, ne_eqb, arith}
use Rattle.std.specs.Prelude.{◌==◌, ◌||◌, if◌then◌else◌, IsTrue}
use Rattle.std.specs.Option.{option_map_or}
use Rattle.std.specs.declared.option.Option.{Option}
use Rattle.std.specs.declared.option.Option.TheVariants.{Some, None}
use Rattle.cgm_atom.specs.Acceptance.{IsClosed}
use Rattle.cgm_atom.specs.declared.entries.Entry.{Entry}
use Rattle.cgm_atom.specs.Instance.{Instance}
use Rattle.cgm_atom.specs.LogState.{LogState, empty_state, is_closing, state_after, state_of, state_with}
use Rattle.cgm_log.specs.LogBook.{LogBook}
use Rattle.cgm_search.specs.declared.plans.Plan.{Plan}
use Rattle.cgm_search.specs.declared.plans.Stopped.{Stopped}
use Rattle.cgm_search.specs.declared.plans.Stopped.TheVariants as stopped
use Rattle.cgm_search.specs.Spending.{IsSpentTrail}
use Rattle.cgm_search.specs.Storing.{IsSeenName}
use Rattle.cgm_search.specs.Working.{IsAt, IsWorker, WorkerState}
use Rattle.cgm_search.proofs.Reasons.{reasons_longer}
use Rattle.cgm_trail.specs.Steps.{AreReasoned}
use Rattle.cgm_trail.specs.TrailState.{TrailState}
use Rattle.cgm_crew.specs.Crews.{AreEndsOver, IsEndOver}
use Rattle.cgm_crew.specs.Ends.{AreBelow, AreEndsBy, HasSeen, IsEndBy, IsOwnEnd, KeepsSeen, WereSeen}
use Rattle.cgm_turn.specs.declared.views.Joined.{Joined}
use Rattle.cgm_turn.specs.Entries.{AreOfLog, BeginsWith, made_by}
use Rattle.cgm_turn.specs.Passes.{IsLogAtClose, PassState, joined_pass}
use Rattle.cgm_turn.specs.Views.{account_with, landed_of}

-- ---- closed logs

state_append : (s : LogState) (xs ys : List Entry) → state_after s (xs ++ ys) ≡ state_after (state_after s xs) ys
state_append s [] ys = refl
state_append s (x ∷ xs) ys = state_append (state_with s x) xs ys

or_true : (t u : Bool) → t ≡ true → (t || u) ≡ true
or_true true u e = refl
or_true false u e = absurd (cc)

closed_after : (s : LogState) (more : List Entry) → IsTrue s.closed → IsTrue (state_after s more).closed
closed_after s [] h = h
closed_after s (e ∷ more) h = closed_after (state_with s e) more (or_true s.closed (is_closing e) h)

closed_append : (told more : List Entry) → IsClosed told → IsClosed (told ++ more)
unfolding state_of
closed_append told more h = subst (λ (s : LogState). IsTrue s.closed) (sym (state_append empty_state told more)) (closed_after (state_after empty_state told) more h)

pub closed_longer : (log told : List Entry) → BeginsWith log told → IsClosed told → IsClosed log
closed_longer log told b h = subst (λ (xs : List Entry). IsClosed xs) (sym b.1) (closed_append told b.0 h)

-- a trail on which the budget was spent, over a longer log
spent_longer : (p : Instance) (plan : Plan) (log told : List Entry) (t : TrailState) → BeginsWith log told → IsSpentTrail p plan told t → IsSpentTrail p plan log t
spent_longer p plan log told t b h =
    record {
      problem = h.problem;
      moves = h.moves;
      restarts = h.restarts;
      reasons = subst (λ (xs : List Entry). AreReasoned (IsSeenName p (state_of xs)) p.bounds t.changes) (sym b.1) (reasons_longer p told b.0 p.bounds t.changes h.reasons);
      few = h.few;
    }

-- ---- what was seen

seen_in_log : (log told : List Entry) (joined : List Joined) → AreOfLog log joined → WereSeen told joined → BeginsWith log told
seen_in_log log told [] h k = absurd k
seen_in_log log told (r ∷ others) h (inl e) = subst (λ (xs : List Entry). BeginsWith log xs) e h.0.0
seen_in_log log told (r ∷ others) h (inr (inl e)) = subst (λ (xs : List Entry). BeginsWith log xs) e h.0.1
seen_in_log log told (r ∷ others) h (inr (inr k)) = seen_in_log log told others h.1 k

pub front_of_log : (x : PassState) (log told : List Entry) → BeginsWith log x.told → AreOfLog log x.joined → HasSeen x told → BeginsWith log told
front_of_log x log told b h (inl e) = subst (λ (xs : List Entry). BeginsWith log xs) e b
front_of_log x log told b h (inr k) = seen_in_log log told x.joined h k

pub keeps_seen : (first other : PassState) → KeepsSeen first (joined_pass first other)
keeps_seen first other told (inl e) = inr (inr (inl e))
keeps_seen first other told (inr k) = inr (inr (inr k))

pub sees_other : (first other : PassState) → HasSeen (joined_pass first other) other.told
sees_other first other = inr (inl refl)

-- ---- ends

pub end_on : (p : Instance) (plan : Plan) (x y : PassState) (s : Stopped) (t : TrailState) → ((told : List Entry) → HasSeen x told → HasSeen y told) → IsEndBy p plan x s t → IsEndBy p plan y s t
end_on p plan x y stopped.Final t keeps h = (h.0, record { told = h.1.told; closed = h.1.closed; seen = keeps h.1.told h.1.seen })
end_on p plan x y stopped.Spent t keeps h = record { told = h.told; spent = h.spent; seen = keeps h.told h.seen }
end_on p plan x y stopped.Memory t keeps h = h

pub ends_on : (p : Instance) (plan : Plan) (x y : PassState) (ss : List Stopped) (ts : List TrailState) → ((told : List Entry) → HasSeen x told → HasSeen y told) → AreEndsBy p plan x ss ts → AreEndsBy p plan y ss ts
ends_on p plan x y [] [] keeps h = tt
ends_on p plan x y [] (t ∷ ts) keeps h = absurd h
ends_on p plan x y (s ∷ ss) [] keeps h = absurd h
ends_on p plan x y (s ∷ ss) (t ∷ ts) keeps h = (end_on p plan x y s t keeps h.0, ends_on p plan x y ss ts keeps h.1)

pub ends_push : (p : Instance) (plan : Plan) (x : PassState) (ss : List Stopped) (ts : List TrailState) (s : Stopped) (t : TrailState) → AreEndsBy p plan x ss ts → IsEndBy p plan x s t → AreEndsBy p plan x (ss ++ s ∷ []) (ts ++ t ∷ [])
ends_push p plan x [] [] s t h k = (k, tt)
ends_push p plan x [] (t' ∷ ts) s t h k = absurd h
ends_push p plan x (s' ∷ ss) [] s t h k = absurd h
ends_push p plan x (s' ∷ ss) (t' ∷ ts) s t h k = (h.0, ends_push p plan x ss ts s t h.1 k)

end_over : (p : Instance) (plan : Plan) (x : PassState) (log : List Entry) (s : Stopped) (t : TrailState) → ((told : List Entry) → HasSeen x told → BeginsWith log told) → IsEndBy p plan x s t → IsEndOver p plan log s t
end_over p plan x log stopped.Final t front h = (h.0, closed_longer log h.1.told (front h.1.told h.1.seen) h.1.closed)
end_over p plan x log stopped.Spent t front h = spent_longer p plan log h.told t (front h.told h.seen) h.spent
end_over p plan x log stopped.Memory t front h = h

pub ends_over : (p : Instance) (plan : Plan) (x : PassState) (log : List Entry) (ss : List Stopped) (ts : List TrailState) → ((told : List Entry) → HasSeen x told → BeginsWith log told) → AreEndsBy p plan x ss ts → AreEndsOver p plan log ss ts
ends_over p plan x log [] [] front h = tt
ends_over p plan x log [] (t ∷ ts) front h = absurd h
ends_over p plan x log (s ∷ ss) [] front h = absurd h
ends_over p plan x log (s ∷ ss) (t ∷ ts) front h = (end_over p plan x log s t front h.0, ends_over p plan x log ss ts front h.1)

-- ---- one more, and the first

own_end_seen : (p : Instance) (plan : Plan) (x other : PassState) (s : Stopped) (t : TrailState) → IsOwnEnd p plan other s t → IsEndBy p plan (joined_pass x other) s t
own_end_seen p plan x other stopped.Final t h = (h.0, record { told = other.told; closed = h.1; seen = sees_other x other })
own_end_seen p plan x other stopped.Spent t h = record { told = other.told; spent = h; seen = sees_other x other }
own_end_seen p plan x other stopped.Memory t h = h

pub ends_added : (p : Instance) (plan : Plan) (x other y : PassState) (ss ss' : List Stopped) (ts ts' : List TrailState) (s : Stopped) (t : TrailState) → y ≡ joined_pass x other → ss' ≡ ss ++ s ∷ [] → ts' ≡ ts ++ t ∷ [] → AreEndsBy p plan x ss ts → IsOwnEnd p plan other s t → AreEndsBy p plan y ss' ts'
ends_added p plan x other y ss ss' ts ts' s t e f g h k =
    rw (e, f, g)
    (ends_push p plan (joined_pass x other) ss ts s t (ends_on p plan x (joined_pass x other) ss ts (keeps_seen x other) h) (own_end_seen p plan x other s t k))

-- the first of all
end_by_own : (p : Instance) (plan : Plan) (pass : PassState) (s : Stopped) (t : TrailState) → IsOwnEnd p plan pass s t → IsEndBy p plan pass s t
end_by_own p plan pass stopped.Final t h = (h.0, record { told = pass.told; closed = h.1; seen = inl refl })
end_by_own p plan pass stopped.Spent t h = record { told = pass.told; spent = h; seen = inl refl }
end_by_own p plan pass stopped.Memory t h = h

pub ends_begun : (p : Instance) (plan : Plan) (pass : PassState) (ss ss' : List Stopped) (ts ts' : List TrailState) (s : Stopped) (t : TrailState) → ss ≡ [] → ts ≡ [] → ss' ≡ ss ++ s ∷ [] → ts' ≡ ts ++ t ∷ [] → IsOwnEnd p plan pass s t → AreEndsBy p plan pass ss' ts'
ends_begun p plan pass ss ss' ts ts' s t none nothing e f h =
    rw (e, f, none, nothing) (end_by_own p plan pass s t h, tt)

-- how the run of a worker ended, by its own pass
pub own_end : {H : Type 0} (w : WorkerState H) (p : Instance) (plan : Plan) (pass : PassState) (s : Stopped) (t : TrailState) → IsWorker w → w.ended ≡ Some s → w.seat.problem ≡ p → w.plan ≡ plan → pass.told ≡ w.seat.told → t ≡ w.trail → (w.ended ≡ Some stopped.Spent → IsSpentTrail w.seat.problem w.plan w.seat.told w.trail) → IsOwnEnd p plan pass s t
own_end w p plan pass stopped.Final t h e problem plan_is told trail spent =
    let at : IsAt w (Some stopped.Final) = subst (λ (o : Option Stopped). IsAt w o) e h.at in
    (rw (sym problem, sym plan_is, trail) h.trail, subst (λ (xs : List Entry). IsClosed xs) (sym told) at)
own_end w p plan pass stopped.Spent t h e problem plan_is told trail spent =
    rw (sym problem, sym plan_is, told, trail) (spent e)
own_end w p plan pass stopped.Memory t h e problem plan_is told trail spent = rw (sym problem, sym plan_is, trail) h.trail

-- ---- makers

passed : {X : Type 0} (t : Bool) (x y : X) → t ≡ false → (if t then x else y) ≡ y
passed true x y e = absurd (cc)
passed false x y e = refl

below_none : (count w : ℕ) (joined : List Joined) → AreBelow count joined → count ≤ w → account_with w joined ≡ None
below_none count w [] h far = refl
below_none count w (r ∷ others) h far =
    passed (r.number == w) (Some r) (account_with w others) (ne_eqb r.number w (λ e. omega (arith, e, h.0, far)))
    ∙ below_none count w others h.1 far

pub others_made_none : (count w : ℕ) (x : PassState) (log : LogBook) → IsLogAtClose x log → x.number ≡ 0 → 1 ≤ count → AreBelow count x.joined → count ≤ w → made_by w log.entries ≡ []
others_made_none count w x log e number some below far =
    e.own w
    ∙ passed (w == x.number) x.own (option_map_or landed_of (account_with w x.joined) []) (ne_eqb w x.number (λ same. omega (arith, same, number, some, far)))
    ∙ ap (λ (o : Option Joined). option_map_or landed_of o []) (below_none count w x.joined below far)
