-- A search stays ready over each of its moves, and how many trades it may need after them.
use Rattle.std.proofs.Common.{◌≡◌, inl, ℕ, ◌+◌, ◌-◌, ◌<◌, ◌≤◌, Bool, true, false, cond, List, [], ◌∷◌, ◌++◌, length, refl, sym, ap, subst, ◌∙◌, arith}
use Rattle.std.specs.Prelude.{Result, Ok, Err, IfOk}
use Rattle.std.specs.declared.option.Option.{Option}
use Rattle.std.specs.declared.option.Option.TheVariants.{Some, None}
use Rattle.std.proofs.lemmas.List.{length-take-le}
use Rattle.std.proofs.lemmas.List.Elements.{All-contains}
use Rattle.cgm_atom.specs.declared.constraints.Atom.{Atom}
use Rattle.cgm_atom.specs.declared.constraints.Clause.{Clause}
use Rattle.cgm_atom.specs.declared.entries.Entry.{Entry}
use Rattle.cgm_atom.specs.declared.entries.Hint.{Hint}
use Rattle.cgm_atom.specs.Bounds.{Bounds}
use Rattle.cgm_atom.specs.Constraints.{Constraint, of_clause}
use Rattle.cgm_atom.specs.Instance.{Instance, var_count}
use Rattle.cgm_atom.specs.Laws.{IsLeftSmaller, IsSmaller}
use Rattle.cgm_atom.specs.Limits.{max_workers}
use Rattle.cgm_atom.specs.LogState.{state_of}
use Rattle.cgm_atom.specs.Narrowing.{left_by_clause, made_true}
use Rattle.cgm_atom.proofs.Shrinking.{IsSmaller-same, IsSmaller-trans, clause_narrows_smaller, made_true_shrinks}
use Rattle.cgm_clauses.specs.Standing.{IsFalseIn, IsQuietIn}
use Rattle.cgm_clauses.specs.StoreState.{IsPairIn, all_clauses}
use Rattle.cgm_clauses.specs.Sweeping.{AreQuiet, IsSwept}
use Rattle.cgm_clauses.proofs.Naming.{quiet_store}
use Rattle.cgm_search.specs.declared.decisions.Choice.{Choice}
use Rattle.cgm_log.specs.Seats.{Seat}
use Rattle.cgm_search.specs.declared.plans.Plan.{Plan}
use Rattle.cgm_search.specs.declared.plans.Stopped.{Stopped}
use Rattle.cgm_search.specs.declared.plans.Stopped.TheVariants as stopped
use Rattle.cgm_search.specs.declared.searches.Search.{Search}
use Rattle.cgm_search.specs.Choosing.{IsChoiceOf, IsOwnOrder}
use Rattle.cgm_search.specs.Knowing.{IsKnowledge, seen, seen_state}
use Rattle.cgm_search.specs.Searching.{AreSeenReasons, IsKeptSearch, IsSearchOutcome, IsPlan, IsReady, IsTradedIn, IsTrailOf, IsUnit, Sits, need}
use Rattle.cgm_search.specs.Settling.{IsRoundName, IsSettled}
use Rattle.cgm_search.specs.Stepping.{HasFalseClause, IsCutOutcome}
use Rattle.cgm_search.specs.Storing.{IsSeenName}
use Rattle.cgm_search.specs.Trading.{IsLongerLog}
use Rattle.cgm_search.proofs.Keeping.{round_seen}
use Rattle.cgm_search.proofs.Reasons.{level_of-steps, reasons_longer}
use Rattle.cgm_trail.specs.declared.changes.Change.{Change}
use Rattle.cgm_trail.specs.declared.changes.Swept.{Swept}
use Rattle.cgm_trail.specs.declared.changes.Swept.TheVariants as swept
use Rattle.cgm_trail.specs.declared.changes.Reason.TheVariants.{Decision, By}
use Rattle.cgm_trail.specs.Steps.{AreReasoned, IsGiven, IsPropagated}
use Rattle.cgm_trail.specs.TrailState.{TrailState, box_after, box_of, change_of, cut_to, cut_trail, decided, decision_places, is_decision, jumped, level_of, restarted, trail_started}
use Rattle.cgm_trail.proofs.Cuts.{cut_places, length-places}
use Rattle.cgm_trail.proofs.Propagating.{box_grown, more_names, reasoned_after, reasoned_cut, reasoned_decided, reasoned_jumped}

-- ---- a search whose trail alone has changed

-- what is as it was
pub record IsMoved (old new : Search) : Type 0 where
  pub known : new.known ≡ old.known
  pub choice : new.choice ≡ old.choice
  pub plan : new.plan ≡ old.plan
  pub worker : new.worker ≡ old.worker

abbrev Names : Search → Hint → Constraint → Type 0
Names s = IsSeenName s.known.problem (seen_state s.known)

pub ready_moved : (old new : Search) → IsReady old → IsMoved old new → IsTrailOf old.known.problem old.plan new.trail → AreReasoned (Names old) old.known.problem.bounds new.trail.changes → IsReady new
ready_moved old new h same trail reasons =
    record {
      known = rw same.known h.known;
      still_open = rw same.known h.still_open;
      trail = rw (same.known, same.plan) trail;
      reasons = rw same.known reasons;
      choice = rw (same.known, same.choice) h.choice;
      own_order = rw (same.known, same.plan, same.worker, same.choice) h.own_order;
      plan = rw same.plan h.plan;
      worker = rw same.worker h.worker;
    }

pub kept_moved : (old new : Search) → IsMoved old new → IsTrailOf old.known.problem old.plan new.trail → IsKeptSearch old new
kept_moved old new same trail =
    record { problem = ap (λ k. k.problem) same.known; plan = same.plan; worker = same.worker; trail = trail }

pub ready_same : (old new : Search) → IsReady old → IsMoved old new → new.trail ≡ old.trail → IsReady new
ready_same old new h same trail = ready_moved old new h same (rw trail h.trail) (rw trail h.reasons)

pub kept_same : (old new : Search) → IsReady old → IsMoved old new → new.trail ≡ old.trail → IsKeptSearch old new
kept_same old new h same trail = kept_moved old new same (rw trail h.trail)

-- the weights of variables have changed
pub ready_raised : (s : Search) (choice : Choice) → IsReady s → choice.order ≡ s.choice.order → length choice.activity.weights ≡ length s.choice.activity.weights → choice.activity.variables ≡ s.choice.activity.variables → IsReady (record s { choice = choice })
ready_raised s choice h order weights variables =
    record {
      known = h.known;
      still_open = h.still_open;
      trail = h.trail;
      reasons = h.reasons;
      choice = record { order = ap (λ o. length o.variables) order ∙ h.choice.order; activity = weights ∙ h.choice.activity };
      own_order = record { first = ap (λ o. o.variables) order ∙ h.own_order.first; later = variables ∙ h.own_order.later };
      plan = h.plan;
      worker = h.worker;
    }

-- ---- propagation

pub trail_propagated : (RoundNames : Hint → Constraint → Type 0) (p : Instance) (plan : Plan) (old new : TrailState) (left left' : ℕ) → IsTrailOf p plan old → left ≡ plan.budget - old.moves → IsPropagated RoundNames old new left left' → IsTrailOf p plan new
trail_propagated RoundNames p plan old new left left' h e made =
    let moves : new.moves ≡ old.moves + length made.added = ap (λ t. t.moves) made.after in
    let restarts : new.restarts ≡ old.restarts = ap (λ t. t.restarts) made.after in
    let few = h.moves in
    let spent = made.spent in
    let times = h.restarts in
    record {
      problem = ap (λ t. t.problem) made.after ∙ h.problem;
      moves = omega arith;
      restarts = omega arith;
    }

pub moves_propagated : (RoundNames : Hint → Constraint → Type 0) (old new : TrailState) (left left' : ℕ) → IsPropagated RoundNames old new left left' → old.moves ≤ new.moves
moves_propagated RoundNames old new left left' made =
    let moves : new.moves ≡ old.moves + length made.added = ap (λ t. t.moves) made.after in
    omega arith

pub level_propagated : (RoundNames : Hint → Constraint → Type 0) (old new : TrailState) (left left' : ℕ) → IsPropagated RoundNames old new left left' → level_of new.changes ≡ level_of old.changes
level_propagated RoundNames old new left left' made =
    ap (λ t. level_of t.changes) made.after
    ∙ level_of-steps RoundNames (box_of old) old.changes made.added made.steps

pub reasons_propagated : (s : Search) (new : TrailState) (left left' : ℕ) → IsReady s → IsPropagated (Names s) s.trail new left left' → AreReasoned (Names s) s.known.problem.bounds new.changes
reasons_propagated s new left left' h made =
    let before : new.problem ≡ s.known.problem = ap (λ t. t.problem) made.after ∙ h.trail.problem in
    let own = subst (λ (p : Instance). AreReasoned (Names s) p.bounds s.trail.changes) (sym h.trail.problem) h.reasons in
    subst (λ (p : Instance). AreReasoned (Names s) p.bounds new.changes) before
    (reasoned_after (Names s) s.trail new left left' own made)

-- the names of a round were seen
pub made_seen : (s : Search) (new : TrailState) (left left' : ℕ) → IsReady s → IsPropagated (IsRoundName s.known.problem (all_clauses s.known.store)) s.trail new left left' → IsPropagated (Names s) s.trail new left left'
made_seen s new left left' h made =
    more_names (IsRoundName s.known.problem (all_clauses s.known.store)) (Names s) s.trail new left left'
    (round_seen s.known.problem (seen s.known) s.known.store h.known.store) made

abbrev RoundNames : Search → Hint → Constraint → Type 0
RoundNames s = IsRoundName s.known.problem (all_clauses s.known.store)

-- the steps of a round, with all moves that are left
pub record IsRoundOf (old new : Search) (left left' : ℕ) : Type 0 where
  pub same : IsMoved old new
  pub budget : left ≡ old.plan.budget - old.trail.moves
  pub made : IsPropagated (RoundNames old) old.trail new.trail left left'

round_trail : (old new : Search) (left left' : ℕ) → IsReady old → IsRoundOf old new left left' → IsTrailOf old.known.problem old.plan new.trail
round_trail old new left left' h round =
    trail_propagated (RoundNames old) old.known.problem old.plan old.trail new.trail left left' h.trail round.budget round.made

pub ready_propagated : (old new : Search) (left left' : ℕ) → IsReady old → IsRoundOf old new left left' → IsReady new
ready_propagated old new left left' h round =
    ready_moved old new h round.same (round_trail old new left left' h round)
    (reasons_propagated old new.trail left left' h (made_seen old new.trail left left' h round.made))

pub kept_propagated : (old new : Search) (left left' : ℕ) → IsReady old → IsRoundOf old new left left' → IsKeptSearch old new
kept_propagated old new left left' h round = kept_moved old new round.same (round_trail old new left left' h round)

all_spent : (old new : Search) (left left' : ℕ) → IsReady old → IsRoundOf old new left left' → left' ≡ 0 → new.trail.moves ≡ new.plan.budget
all_spent old new left left' h round none =
    let moves : new.trail.moves ≡ old.trail.moves + length round.made.added = ap (λ t. t.moves) round.made.after in
    let spent = round.made.spent in
    let few = h.trail.moves in
    let e = round.budget in
    let budget : new.plan.budget ≡ old.plan.budget = ap (λ p. p.budget) round.same.plan in
    omega arith

-- how it ended, for the search
pub outcome_settled : {E : Type 0} (old new : Search) (left left' : ℕ) (answer : Result Swept E) → IsReady old → IsRoundOf old new left left' → IsSettled old.known.problem (all_clauses old.known.store) (box_of new.trail) left' answer → IsSearchOutcome new answer
outcome_settled old new left left' (Ok swept.Quiet) h round quiet =
    rw round.same.known
    (record { clauses = quiet_store old.known.problem old.known.store (box_of new.trail) h.known.store.of_problem quiet.0; rows = quiet.1 })
outcome_settled old new left left' (Ok (swept.Conflict by)) h round conflict =
    rw round.same.known
    (conflict.0, round_seen old.known.problem (seen old.known) old.known.store h.known.store by conflict.0 conflict.1, conflict.2)
outcome_settled old new left left' (Ok swept.Spent) h round none = all_spent old new left left' h round none
outcome_settled old new left left' (Err e) h round any = tt

-- where a clause was false, propagation by the store isn't quiet
store_round : (s : Search) (new : TrailState) (left left' : ℕ) → IsPropagated (IsPairIn (all_clauses s.known.store)) s.trail new left left' → IsPropagated (RoundNames s) s.trail new left left'
store_round s new left left' made =
    more_names (IsPairIn (all_clauses s.known.store)) (RoundNames s) s.trail new left left' (λ (by : Hint) (k : Constraint) (name : IsPairIn (all_clauses s.known.store) by k). inl name) made

pub round_of_store : (old new : Search) (left left' : ℕ) → IsMoved old new → left ≡ old.plan.budget - old.trail.moves → IsPropagated (IsPairIn (all_clauses old.known.store)) old.trail new.trail left left' → IsRoundOf old new left left'
round_of_store old new left left' same e made =
    record { same = same; budget = e; made = store_round old new.trail left left' made }

box_shrinks : (b : Bounds) (added : List Change) → IsSmaller (box_after b added) b
box_shrinks b [] = IsSmaller-same b
box_shrinks b (c ∷ added) =
    IsSmaller-trans (box_after (made_true b c.atom) added) (made_true b c.atom) b
    (box_shrinks (made_true b c.atom) added) (made_true_shrinks b c.atom)

-- a box after changes has as many least as greatest values
pub even_after : (b : Bounds) (added : List Change) → length b.upper ≡ length b.lower → length (box_after b added).upper ≡ length (box_after b added).lower
even_after b added even =
    let smaller = box_shrinks b added in
    smaller.upper_count ∙ even ∙ sym smaller.lower_count

none_stays : (inner outer : Option Bounds) → IsLeftSmaller inner outer → outer ≡ None → inner ≡ None
none_stays None outer h e = refl
none_stays (Some b) None h e = absurd h
none_stays (Some b) (Some b') h e = absurd (cc)

false_stays : (b b' : Bounds) (c : Clause) → IsSmaller b' b → IsFalseIn b c → IsFalseIn b' c
false_stays b b' c smaller h =
    none_stays (left_by_clause b' c) (left_by_clause b c) (clause_narrows_smaller b' b c smaller) h

not_quiet : (old new : Search) (left left' : ℕ) → HasFalseClause old → IsRoundOf old new left left' → AreQuiet (box_of new.trail) (all_clauses old.known.store) → ⊥
not_quiet old new left left' (n, there, is_false) round quiet =
    let box : box_of new.trail ≡ box_after (box_of old.trail) round.made.added = ap box_of round.made.after ∙ box_grown old.trail round.made.added in
    let smaller : IsSmaller (box_of new.trail) (box_of old.trail) = rw box (box_shrinks (box_of old.trail) round.made.added) in
    let gone : IsFalseIn (box_of new.trail) n.clause = false_stays (box_of old.trail) (box_of new.trail) n.clause smaller is_false in
    let stays : IsQuietIn (box_of new.trail) n.clause = All-contains (λ m. IsQuietIn (box_of new.trail) m.clause) (all_clauses old.known.store) n quiet there in
    absurd (let wrong = sym gone ∙ stays in cc)

-- how propagation by the store ends, of which a clause was false
pub outcome_of_cut : {E : Type 0} (old new : Search) (left left' : ℕ) (answer : Result Swept E) → IsReady old → HasFalseClause old → IsRoundOf old new left left' → IsSwept (box_of new.trail) (all_clauses old.known.store) left' answer → IfOk answer (IsCutOutcome new)
outcome_of_cut old new left left' (Ok swept.Quiet) h behind round quiet = not_quiet old new left left' behind round quiet
outcome_of_cut old new left left' (Ok (swept.Conflict by)) h behind round conflict =
    rw round.same.known (
      of_clause conflict.0.clause,
      round_seen old.known.problem (seen old.known) old.known.store h.known.store by (of_clause conflict.0.clause) (inl (conflict.0, conflict.1, conflict.2, refl)),
      conflict.3,
    )
outcome_of_cut old new left left' (Ok swept.Spent) h behind round none = all_spent old new left left' h round none.0
outcome_of_cut old new left left' (Err e) h behind round any = tt

-- ---- decisions, restarts and jumps

by_tests : (t s : Bool) (n : ℕ) → cond t (cond s (n + 1) n + 1) (cond s (n + 1) n) ≡ cond s (cond t (n + 1) n + 1) (cond t (n + 1) n)
by_tests true true n = refl
by_tests true false n = refl
by_tests false true n = refl
by_tests false false n = refl

level_of-more : (changes : List Change) (c : Change) → level_of (changes ++ c ∷ []) ≡ cond (is_decision c) (level_of changes + 1) (level_of changes)
level_of-more [] c = refl
level_of-more (x ∷ changes) c = rw (level_of-more changes c) (by_tests (is_decision x) (is_decision c) (level_of changes))

pub level_cut : (level : ℕ) (changes : List Change) → level ≤ level_of changes → level_of (cut_to level changes) ≡ level
level_cut level changes h =
    let places = length-places 0 changes in
    sym (length-places 0 (cut_to level changes))
    ∙ ap length (cut_places 0 level changes)
    ∙ length-take-le level (decision_places 0 changes) (omega arith)

trail_decided : (p : Instance) (plan : Plan) (t : TrailState) (a : Atom) → IsTrailOf p plan t → t.moves < plan.budget → IsTrailOf p plan (decided t a)
trail_decided p plan t a h room = record { problem = h.problem; moves = omega arith; restarts = h.restarts }

pub reasons_decided : (s : Search) (a : Atom) → IsReady s → AreReasoned (Names s) s.known.problem.bounds (decided s.trail a).changes
reasons_decided s a h =
    let own = subst (λ (p : Instance). AreReasoned (Names s) p.bounds s.trail.changes) (sym h.trail.problem) h.reasons in
    subst (λ (p : Instance). AreReasoned (Names s) p.bounds (decided s.trail a).changes) h.trail.problem
    (reasoned_decided (Names s) s.trail a own)

pub ready_decided : (old new : Search) (a : Atom) → IsReady old → IsMoved old new → old.trail.moves < old.plan.budget → new.trail ≡ decided old.trail a → IsReady new
ready_decided old new a h same room made =
    ready_moved old new h same
    (rw made (trail_decided old.known.problem old.plan old.trail a h.trail room))
    (rw made (reasons_decided old a h))

pub kept_decided : (old new : Search) (a : Atom) → IsReady old → IsMoved old new → old.trail.moves < old.plan.budget → new.trail ≡ decided old.trail a → IsKeptSearch old new
kept_decided old new a h same room made =
    kept_moved old new same (rw made (trail_decided old.known.problem old.plan old.trail a h.trail room))

pub need_decided : (old new : Search) (a : Atom) → new.plan ≡ old.plan → old.trail.moves < old.plan.budget → new.trail ≡ decided old.trail a → need new ≤ need old
need_decided old new a same room made =
    let moves : new.trail.moves ≡ old.trail.moves + 1 = ap (λ t. t.moves) made in
    let level : level_of new.trail.changes ≡ level_of old.trail.changes + 1 =
    ap (λ t. level_of t.changes) made ∙ level_of-more old.trail.changes (change_of (box_of old.trail) a Decision) in
    let budget : new.plan.budget ≡ old.plan.budget = ap (λ p. p.budget) same in
    omega arith

trail_restarted : (p : Instance) (plan : Plan) (t : TrailState) → IsTrailOf p plan t → t.moves < plan.budget → t.restarts < plan.restarts → IsTrailOf p plan (restarted t)
trail_restarted p plan t h room times = record { problem = h.problem; moves = omega arith; restarts = omega arith }

pub ready_restarted : (old new : Search) → IsReady old → IsMoved old new → old.trail.moves < old.plan.budget → old.trail.restarts < old.plan.restarts → new.trail ≡ restarted old.trail → IsReady new
ready_restarted old new h same room times made =
    ready_moved old new h same
    (rw made (trail_restarted old.known.problem old.plan old.trail h.trail room times))
    (rw made (reasoned_cut (Names old) old.known.problem.bounds 0 old.trail.changes h.reasons))

pub kept_restarted : (old new : Search) → IsReady old → IsMoved old new → old.trail.moves < old.plan.budget → old.trail.restarts < old.plan.restarts → new.trail ≡ restarted old.trail → IsKeptSearch old new
kept_restarted old new h same room times made =
    kept_moved old new same (rw made (trail_restarted old.known.problem old.plan old.trail h.trail room times))

pub need_restarted : (old new : Search) → new.plan ≡ old.plan → old.trail.moves < old.plan.budget → new.trail ≡ restarted old.trail → need new ≤ need old
need_restarted old new same room made =
    let moves : new.trail.moves ≡ old.trail.moves + 1 = ap (λ t. t.moves) made in
    let level : level_of new.trail.changes ≡ 0 = ap (λ t. level_of t.changes) made ∙ level_cut 0 old.trail.changes (omega arith) in
    let budget : new.plan.budget ≡ old.plan.budget = ap (λ p. p.budget) same in
    omega arith

trail_jumped : (p : Instance) (plan : Plan) (t : TrailState) (level : ℕ) (a : Atom) (by : Hint) → IsTrailOf p plan t → t.moves < plan.budget → IsTrailOf p plan (jumped t level a by)
trail_jumped p plan t level a by h room = record { problem = h.problem; moves = omega arith; restarts = h.restarts }

pub reasons_jumped : (s : Search) (level : ℕ) (a : Atom) (by : Hint) (k : Constraint) → IsReady s → IsSeenName s.known.problem (seen_state s.known) by k → IsGiven (box_of (cut_trail level s.trail)) k a → AreReasoned (Names s) s.known.problem.bounds (jumped s.trail level a by).changes
reasons_jumped s level a by k h named given =
    let own = subst (λ (p : Instance). AreReasoned (Names s) p.bounds s.trail.changes) (sym h.trail.problem) h.reasons in
    subst (λ (p : Instance). AreReasoned (Names s) p.bounds (jumped s.trail level a by).changes) h.trail.problem
    (reasoned_jumped (Names s) s.trail level a by k own named given)

pub ready_jumped : (old new : Search) (level : ℕ) (a : Atom) (by : Hint) (k : Constraint) → IsReady old → IsMoved old new → old.trail.moves < old.plan.budget → IsSeenName old.known.problem (seen_state old.known) by k → IsGiven (box_of (cut_trail level old.trail)) k a → new.trail ≡ jumped old.trail level a by → IsReady new
ready_jumped old new level a by k h same room named given made =
    ready_moved old new h same
    (rw made (trail_jumped old.known.problem old.plan old.trail level a by h.trail room))
    (rw made (reasons_jumped old level a by k h named given))

pub kept_jumped : (old new : Search) (level : ℕ) (a : Atom) (by : Hint) → IsReady old → IsMoved old new → old.trail.moves < old.plan.budget → new.trail ≡ jumped old.trail level a by → IsKeptSearch old new
kept_jumped old new level a by h same room made =
    kept_moved old new same (rw made (trail_jumped old.known.problem old.plan old.trail level a by h.trail room))

-- a jump is a move, and closes a level at least
pub need_jumped : (old new : Search) (level : ℕ) (a : Atom) (by : Hint) → new.plan ≡ old.plan → old.trail.moves < old.plan.budget → level < level_of old.trail.changes → new.trail ≡ jumped old.trail level a by → need new + 2 ≤ need old
need_jumped old new level a by same room earlier made =
    let moves : new.trail.moves ≡ old.trail.moves + 1 = ap (λ t. t.moves) made in
    let at : level_of (cut_to level old.trail.changes) ≡ level = level_cut level old.trail.changes (omega arith) in
    let now : level_of new.trail.changes ≡ level =
    ap (λ t. level_of t.changes) made ∙ level_of-more (cut_to level old.trail.changes) (change_of (box_of (cut_trail level old.trail)) a (By by)) ∙ at in
    let budget : new.plan.budget ≡ old.plan.budget = ap (λ p. p.budget) same in
    omega arith

-- ---- trades

reasons_traded : (old new : Search) → IsReady old → IsTradedIn old new → IsLongerLog (seen old.known) (seen new.known) → AreSeenReasons new
reasons_traded old new h same longer =
    let p : Instance = old.known.problem in
    rw (same.problem, same.trail)
    (subst (λ (xs : List Entry). AreReasoned (IsSeenName p (state_of xs)) p.bounds old.trail.changes) (sym longer.1)
    (reasons_longer p (seen old.known) longer.0 p.bounds old.trail.changes h.reasons))

pub ready_traded : (old new : Search) → IsReady old → IsTradedIn old new → IsKnowledge new.known → (seen_state new.known).closed ≡ false → IsLongerLog (seen old.known) (seen new.known) → IsReady new
ready_traded old new h same known still_open longer =
    record {
      known = known;
      still_open = still_open;
      trail = rw (same.problem, same.trail, same.plan) h.trail;
      reasons = reasons_traded old new h same longer;
      choice = rw (same.problem, same.choice) h.choice;
      own_order = rw (same.problem, same.plan, same.worker, same.choice) h.own_order;
      plan = rw same.plan h.plan;
      worker = rw same.worker h.worker;
    }

pub kept_traded : (old new : Search) → IsReady old → IsTradedIn old new → IsKeptSearch old new
kept_traded old new h same =
    record { problem = same.problem; plan = same.plan; worker = same.worker; trail = rw same.trail h.trail }

pub sits_moved : (old new : Search) (seat seat' : Seat) → Sits old seat → IsMoved old new → seat' ≡ seat → Sits new seat'
sits_moved old new seat seat' h same e =
    rw e
    (record {
      same_problem = rw same.known h.same_problem;
      same_entries = rw same.known h.same_entries;
      own_number = rw same.worker h.own_number;
    })

pub sits_traded : (old new : Search) (seat seat' : Seat) → Sits old seat → IsTradedIn old new → seat'.problem ≡ seat.problem → seat'.told ≡ seen new.known → seat'.number ≡ seat.number → Sits new seat'
sits_traded old new seat seat' h same e f g =
    record {
      same_problem = e ∙ h.same_problem ∙ sym same.problem;
      same_entries = f;
      own_number = rw (g, same.worker) h.own_number;
    }

-- ---- units

pub need_moved : (old new : Search) → new.plan ≡ old.plan → old.trail.moves ≤ new.trail.moves → level_of new.trail.changes ≡ level_of old.trail.changes → need new ≤ need old
need_moved old new same more level =
    let budget : new.plan.budget ≡ old.plan.budget = ap (λ p. p.budget) same in
    omega arith

-- a unit that begins with moves and trades of its own
pub unit_before : (old mid new : Search) (before before' after : Seat) (answer : Option Stopped) → old.trail.moves ≤ mid.trail.moves → need mid ≤ need old → before.trades ≤ before'.trades → IsUnit mid new before' after answer → IsUnit old new before after answer
unit_before old mid new before before' after None more less fewer h =
    let moved = h.2 in
    let spent = h.3 in
    (h.0, h.1, omega arith, omega arith)
unit_before old mid new before before' after (Some stopped.Final) more less fewer h = h
unit_before old mid new before before' after (Some stopped.Spent) more less fewer h = h
unit_before old mid new before before' after (Some stopped.Memory) more less fewer h = h

-- ---- a new search

nothing_open : (log : List Entry) → log ≡ [] → (state_of log).closed ≡ false
unfolding state_of
nothing_open log e = rw e refl

pub ready_new : (p : Instance) (s : Search) → IsKnowledge s.known → s.known.problem ≡ p → seen s.known ≡ [] → s.trail ≡ trail_started p → IsChoiceOf (var_count p) s.choice → IsOwnOrder (var_count p) s.plan.seed s.worker s.choice → IsPlan s.plan → s.worker < max_workers → IsReady s
ready_new p s known problem nothing trail choice own_order plan worker =
    record {
      known = known;
      still_open = nothing_open (seen s.known) nothing;
      trail = rw (problem, trail) (record { problem = refl; moves = omega arith; restarts = omega arith });
      reasons = rw trail tt;
      choice = rw problem choice;
      own_order = rw problem own_order;
      plan = plan;
      worker = worker;
    }

-- after a cut
pub even_cut : (s : Search) (level : ℕ) → IsReady s → length (box_of (cut_trail level s.trail)).upper ≡ length (box_of (cut_trail level s.trail)).lower
even_cut s level h =
    even_after s.trail.problem.bounds (cut_to level s.trail.changes)
    (subst (λ (p : Instance). length p.bounds.upper ≡ length p.bounds.lower) (sym h.trail.problem) h.known.problem.proper.same_count)
