-- Hints that are followed from a box: one hint more, and what is needed for conflict.
use Rattle.std.proofs.Common.{◌≡◌, ℕ, ◌^◌, ◌<◌, ◌≤◌, Bool, true, false, max, List, [], ◌∷◌, ◌++◌, length, map, take, refl, ap, sym, ◌∙◌, subst, arith}
use Rattle.std.specs.Prelude.{IfSome, IfOk, IsErrAnd, IsSomeAnd, IsTrue, OnOk, Result, Ok, Err, slice_get}
use Rattle.std.specs.declared.option.Option.{Option}
use Rattle.std.specs.declared.option.Option.TheVariants.{Some, None}
use Rattle.std.specs.List.{All}
use Rattle.std.specs.Option.{option_and_then}
use Rattle.std.proofs.lemmas.List.{reverse-append}
use Rattle.std.proofs.lemmas.List.Elements.{All-nil, All-push}
use Rattle.cgm_atom.specs.declared.constraints.Atom.{Atom}
use Rattle.cgm_atom.specs.declared.entries.Hint.{Hint}
use Rattle.cgm_atom.specs.Bounds.{Bounds, IsBoxOf}
use Rattle.cgm_atom.specs.Constraints.{Constraint, left_by, left_by_named}
use Rattle.cgm_atom.specs.Instance.{Instance}
use Rattle.cgm_atom.specs.Laws.{IsLeftSmaller, IsSmaller}
use Rattle.cgm_atom.specs.Limits.{IsBound, IsWellFormedProblem}
use Rattle.cgm_atom.specs.LogState.{all_narrowed, carried, greatest_carried}
use Rattle.cgm_atom.specs.Narrowing.{is_true_in, made_true}
use Rattle.cgm_atom.specs.Placing.{placed}
use Rattle.cgm_atom.specs.Ranges.{IsHintInRange}
use Rattle.cgm_atom.specs.Relaxing.{at_bound_of, bound_of, relaxed}
use Rattle.cgm_atom.specs.Steps.{AreBounds}
use Rattle.cgm_atom.proofs.Shrinking.{IsSmaller-trans, hints_smaller, narrowing_shrinks}
use Rattle.cgm_atom.proofs.Tightening.{AreBounds-inside}
use Rattle.cgm_trail.specs.declared.changes.Change.{Change}
use Rattle.cgm_trail.specs.declared.changes.Reason.{Reason}
use Rattle.cgm_trail.specs.declared.changes.Reason.TheVariants.{Decision, By}
use Rattle.cgm_trail.specs.Rank.{IsTrail}
use Rattle.cgm_trail.specs.Steps.{IsGiven, IsReason}
use Rattle.cgm_trail.specs.TrailState.{TrailState, box_after, is_decision}
use Rattle.cgm_learn.specs.declared.hints.Used.{Used}
use Rattle.cgm_learn.specs.declared.places.Place.{Place}
use Rattle.cgm_learn.specs.declared.walks.Turn.{Turn}
use Rattle.cgm_learn.specs.declared.walks.Walk.{Walk}
use Rattle.cgm_learn.specs.Grounds.{GroundState, placed_on, whole_state}
use Rattle.cgm_learn.specs.Learning.{IsConflictIn, IsNameAfter, named_after}
use Rattle.cgm_learn.specs.Walking.{IsCause, IsDecisionAt, IsWalkEnd, IsExplained, IsFirst, IsLedTo, IsNeeded, IsPlaceOf, IsReasoned, IsRest, IsStepped, IsTurn, IsUsable, IsUsed, IsWalk, followed, is_met_before, left_by_used}
use Rattle.cgm_learn.proofs.Boxes.{open_before, open_in_larger, rejoined, rest_before, smaller_before, true_at_need}
use Rattle.cgm_learn.proofs.Changes.{IsNext, earlier_larger, place_limits, reason_at}

-- ---- one hint more

followed_more : (n : ℕ) (hints : List Hint) (h : Hint) → followed n (hints ++ h ∷ []) ≡ placed n h ∷ followed n hints
followed_more n hints h = ap (map (placed n)) (reverse-append hints (h ∷ []))

pub some_is_not_none : (k : Constraint) (o : Option Constraint) → o ≡ Some k → o ≡ None → ⊥
some_is_not_none k o e f = absurd (cc)

-- the hint names something, with what it is
pub usable : (g : GroundState) (h : Hint) (k : Constraint) → IsNameAfter g.problem g.state g.pending h k → IsHintInRange h → IsUsable g h
usable g h k name range = record { known = name.0; range = range; there = λ none. some_is_not_none k (named_after g.problem g.state g.pending h) name.1 none }

pub used_more : (g : GroundState) (u u' : Used) (h : Hint) (n : ℕ) → IsUsed g u → u'.hints.items ≡ u.hints.items ++ h ∷ [] → u'.bound ≡ max n u.bound → n ≡ carried (whole_state g) (placed (length g.state.entries) h) → u'.bound < 2 ^ 64 → IsUsable g h → IsUsed g u'
used_more g u u' h n used e b c fits named_there =
    let whole = whole_state g in
    let count = length g.state.entries in
    record {
      usable = subst (λ hs. All (IsUsable g) hs) (sym e) (All-push (IsUsable g) u.hints.items h used.usable named_there);
      fits = fits;
      bound =
          b
          ∙ ap (λ k. max k u.bound) c
          ∙ ap (λ k. max (carried whole (placed count h)) k) used.bound
          ∙ sym (ap (greatest_carried whole) (ap (followed count) e ∙ followed_more count u.hints.items h));
    }

pub used_none : (g : GroundState) (u : Used) → u.hints.items ≡ [] → u.bound ≡ 0 → IsUsed g u
used_none g u e b = record {
  usable = subst (λ hs. All (IsUsable g) hs) (sym e) (All-nil (IsUsable g));
  fits = rw b (omega arith);
  bound = b ∙ sym (ap (λ hs. greatest_carried (whole_state g) (followed (length g.state.entries) hs)) e);
}

followed_from : (o : Option Bounds) (next : Bounds → Option Bounds) → IfSome o (λ left. next left ≡ None) → option_and_then next o ≡ None
followed_from None next h = refl
followed_from (Some left) next h = h

-- where each box that the hint leaves is led to conflict by the hints after it
pub refuted_more : (g : GroundState) (u u' : Used) (h : Hint) (k : Constraint) (b : Bounds) → u'.hints.items ≡ u.hints.items ++ h ∷ [] → named_after g.problem g.state g.pending h ≡ Some k → IfSome (left_by b k) (λ left. left_by_used g u left ≡ None) → left_by_used g u' b ≡ None
refuted_more g u u' h k b e name led =
    let whole = whole_state g in
    let count = length g.state.entries in
    ap (all_narrowed g.problem whole b) (ap (followed count) e ∙ followed_more count u.hints.items h)
    ∙ ap (λ o. option_and_then (λ b'. all_narrowed g.problem whole b' (followed count u.hints.items)) (left_by_named b o)) name
    ∙ followed_from (left_by b k) (λ b'. all_narrowed g.problem whole b' (followed count u.hints.items)) led

-- ---- smaller boxes are led to conflict too

none_below : (inner outer : Option Bounds) → IsLeftSmaller inner outer → outer ≡ None → inner ≡ None
none_below None outer h e = refl
none_below (Some b) None h e = absurd h
none_below (Some b) (Some c) h e = absurd (cc)

pub smaller_refuted : (g : GroundState) (u : Used) (inner outer : Bounds) → IsSmaller inner outer → left_by_used g u outer ≡ None → left_by_used g u inner ≡ None
smaller_refuted g u inner outer h e =
    none_below _ _ (hints_smaller g.problem (whole_state g) inner outer (followed (length g.state.entries) u.hints.items) h) e

led_refuted : (o : Option Bounds) (a : Atom) (need old : Bounds) (X : Bounds → Type 0) → IsLeftSmaller o (Some need) → IsSmaller need old → IfSome o (λ left. is_true_in left a ≡ true) → ((b : Bounds) → IsSmaller b old → is_true_in b a ≡ true → X b) → IfSome o X
led_refuted None a need old X h k led refuted = tt
led_refuted (Some left) a need old X h k led refuted = refuted left (IsSmaller-trans left need old h k) led

-- ---- the conflict

same_there : (g : GroundState) (h : Hint) (k k' : Constraint) → named_after g.problem g.state g.pending h ≡ Some k → named_after g.problem g.state g.pending h ≡ Some k' → k ≡ k'
same_there g h k k' e f = cc

pub conflict_found : (g : GroundState) (b b' : Bounds) (h : Hint) (k : Constraint) → IsConflictIn g.problem g.state g.pending b h → b' ≡ b → named_after g.problem g.state g.pending h ≡ Some k → left_by b' k ≡ None
conflict_found g b b' h k conflict e name =
    ap (λ x. left_by x k) e ∙ ap (left_by b) (same_there g h k conflict.0 name conflict.1.1) ∙ conflict.2

no_left : (o : Option Bounds) (X : Bounds → Type 0) → o ≡ None → IfSome o X
no_left None X e = tt
no_left (Some b) X e = absurd (cc)

pub begun : (g : GroundState) (walk : Walk) (need : Bounds) (u : Used) (h : Hint) (k : Constraint) (n : ℕ) → IsFirst g walk → u.hints.items ≡ walk.used.hints.items ++ h ∷ [] → u.bound ≡ max n walk.used.bound → n ≡ carried (whole_state g) (placed_on g h) → u.bound < 2 ^ 64 → IsNameAfter g.problem g.state g.pending h k → IsHintInRange h → left_by need k ≡ None → IsExplained g.problem.bounds walk.place.state walk.need need → IsNeeded g (record { place = walk.place; need = need; used = u })
begun g walk need u h k n first e b c fits name range none explained = record {
  limits = explained.within;
  inside = explained.inside;
  refuted = refuted_more g walk.used u h k need e name.1 (no_left (left_by need k) (λ left. left_by_used g walk.used left ≡ None) none);
  used = used_more g walk.used u h n (used_none g walk.used first.no_hints first.no_bound) e b c fits (usable g h k name range);
}

-- ---- a change that is needed

pub cause_of : (g : GroundState) (b : Bounds) (h : Hint) (a : Atom) (k : Constraint) → IsCause g b h a → named_after g.problem g.state g.pending h ≡ Some k → IsSomeAnd (left_by b k) (λ left. is_true_in left a ≡ true)
cause_of g b h a k cause name =
    subst (λ x. IsSomeAnd (left_by b x) (λ left. is_true_in left a ≡ true)) (same_there g h cause.0 k cause.1.1 name) cause.2

pub resolved : (g : GroundState) (walk : Walk) (need : Bounds) (u : Used) (h : Hint) (a : Atom) (k : Constraint) (n : ℕ) → IsRest g walk.place.state walk a → IsLedTo need k a → IsExplained g.problem.bounds walk.place.state walk.need need → u.hints.items ≡ walk.used.hints.items ++ h ∷ [] → u.bound ≡ max n walk.used.bound → n ≡ carried (whole_state g) (placed_on g h) → u.bound < 2 ^ 64 → IsNameAfter g.problem g.state g.pending h k → IsHintInRange h → IsNeeded g (record { place = walk.place; need = need; used = u })
resolved g walk need u h a k n far led explained e b c fits name range = record {
  limits = explained.within;
  inside = explained.inside;
  refuted =
      refuted_more g walk.used u h k need e name.1
      (led_refuted (left_by need k) a need walk.need (λ left. left_by_used g walk.used left ≡ None) (narrowing_shrinks need k) explained.more led far.refuted);
  used = used_more g walk.used u h n far.used e b c fits (usable g h k name range);
}

-- ---- one step back

-- a change whose earlier bound is enough
pub passed : (g : GroundState) (t : TrailState) (w : Place) (walk : Walk) (c : Change) → IsPlaceOf t w → IsNext t w walk.place c → is_met_before walk.need c ≡ true → IsWalk g t walk → IsWalk g t (record { place = w; need = walk.need; used = walk.used })
passed g t w walk c place next met far = record {
  place = place;
  needed = record {
    limits = far.needed.limits;
    inside = smaller_before w.state walk.need c next.change (subst (λ b. IsSmaller b walk.need) next.made far.needed.inside) met;
    refuted = far.needed.refuted;
    used = far.needed.used;
  };
}

size_of : (b : Bounds) (a : Atom) (t : Bool) → a.at_least ≡ t → AreBounds b → IsBound (bound_of b a)
size_of b a true e sizes = rw e (sizes a.var.0).0
size_of b a false e sizes = rw e (sizes a.var.0).1

-- without its bound the rest is left
pub freed : (g : GroundState) (t : TrailState) (w : Place) (walk : Walk) (rest : Bounds) (c : Change) (a : Atom) → IsTrail t → t.problem ≡ g.problem → IsPlaceOf t w → IsNext t w walk.place c → is_met_before walk.need c ≡ false → IsWalk g t walk → a ≡ at_bound_of walk.need c.atom → rest ≡ relaxed walk.need (at_bound_of g.problem.bounds a) → IsBoxOf g.problem.bounds rest → IsRest g w.state (record { place = w; need = rest; used = walk.used }) a
freed g t w walk rest c a trail same place next unmet far e f limits =
    let need : Bounds = walk.need in
    let valid : IsWellFormedProblem g.problem = subst IsWellFormedProblem same trail.problem in
    let inside : IsSmaller (made_true w.state c.atom) need = subst (λ b. IsSmaller b need) next.made far.needed.inside in
    let later : IsBoxOf t.problem.bounds (made_true w.state c.atom) = subst (λ b. IsBoxOf t.problem.bounds b) next.made (place_limits t walk.place trail far.place) in
    let before : IsBoxOf g.problem.bounds w.state = subst (λ (q : Instance). IsBoxOf q.bounds w.state) same (place_limits t w trail place) in
    let freed : rest ≡ relaxed need (at_bound_of g.problem.bounds c.atom) = f ∙ ap (λ x. relaxed need (at_bound_of g.problem.bounds x)) e in
    record {
      limits = limits;
      inside = rw freed (rest_before g.problem.bounds w.state need c before inside);
      undecided = rw e (open_before w.state need c next.change later.ordered inside unmet);
      size = rw e (size_of need c.atom c.atom.at_least refl (AreBounds-inside g.problem.bounds need valid.sizes far.needed.limits.inside far.needed.limits.ordered));
      refuted = λ b smaller holds.
          smaller_refuted g walk.used b need
          (rejoined g.problem.bounds need b c.atom (subst (λ r. IsSmaller b r) freed smaller) (subst (λ x. is_true_in b x ≡ true) e holds))
          far.needed.refuted;
      used = far.needed.used;
    }

decided : (c : Change) → c.reason ≡ Decision → is_decision c ≡ true
decided c e = rw e refl

-- a decision turns the walk
pub turned_at : (g : GroundState) (t : TrailState) (walk : Walk) (c : Change) (turn : Turn) → IsPlaceOf t walk.place → slice_get t.changes walk.place.at ≡ Some c → c.reason ≡ Decision → IsRest g walk.place.state walk turn.atom → turn.base ≡ walk.place → IsTurn g t walk turn
turned_at g t walk c turn place found e far same =
    rw same (record { place = place; decision = (c, found, decided c e); enough = far })

-- so does an earlier place that is enough
pub turned : (g : GroundState) (t : TrailState) (walk : Walk) (base : Place) (turn : Turn) → IsPlaceOf t walk.place → IsPlaceOf t base → base.at ≤ walk.place.at → IsDecisionAt t base.at → IsSmaller base.state walk.need → IsRest g walk.place.state walk turn.atom → turn.base ≡ base → IsTurn g t walk turn
turned g t walk base turn place earlier h decision inside far same =
    rw same
    (record {
      place = earlier;
      decision = decision;
      enough = record {
        limits = far.limits;
        inside = inside;
        undecided = open_in_larger walk.place.state base.state turn.atom (earlier_larger t base walk.place earlier place h) far.undecided;
        size = far.size;
        refuted = far.refuted;
        used = far.used;
      };
    })

-- the reason gives the needed bound
given_need : (b need : Bounds) (a : Atom) (o : Option Bounds) → a.var.0 < length b.lower → length b.upper ≡ length b.lower → IsSmaller (made_true b a) need → IsLeftSmaller o (Some b) → IsSomeAnd o (λ left. IsTrue (is_true_in left a)) → IsSomeAnd o (λ left. is_true_in left (at_bound_of need a) ≡ true)
given_need b need a None known even smaller less holds = absurd holds
given_need b need a (Some left) known even smaller less holds = true_at_need b need left a known even smaller less holds

reason_by : (Names : Hint → Constraint → Type 0) (b : Bounds) (a : Atom) (r : Reason) (h : Hint) → IsReason Names b a r → r ≡ By h → (k : Constraint) × Names h k × IsGiven b k a
reason_by Names b a r h reason e = subst (λ x. IsReason Names b a x) e reason

pub cause_at : (g : GroundState) (t : TrailState) (w : Place) (walk : Walk) (c : Change) (h : Hint) (a : Atom) → IsTrail t → IsReasoned g t → IsPlaceOf t w → IsNext t w walk.place c → IsWalk g t walk → slice_get t.changes w.at ≡ Some c → c.reason ≡ By h → a ≡ at_bound_of walk.need c.atom → IsCause g w.state h a
cause_at g t w walk c h a trail reasoned place next far found e same =
    let need : Bounds = walk.need in
    let Names = IsNameAfter g.problem g.state g.pending in
    let state : w.state ≡ box_after g.problem.bounds (take w.at t.changes) = place.state ∙ ap (λ (q : Instance). box_after q.bounds (take w.at t.changes)) reasoned.problem in
    let reason = subst (λ b. IsReason Names b c.atom c.reason) (sym state) (reason_at Names g.problem.bounds t.changes w.at c reasoned.reasons found) in
    let by = reason_by Names w.state c.atom c.reason h reason e in
    let limits = place_limits t w trail place in
    let inside : IsSmaller (made_true w.state c.atom) need = subst (λ b. IsSmaller b need) next.made far.needed.inside in (
      by.0,
      by.1,
      rw same
          (given_need w.state need c.atom (left_by w.state by.0) next.change.undecided.known (limits.upper_count ∙ sym limits.lower_count) inside (narrowing_shrinks w.state by.0) by.2.cause),
    )

-- ---- the end of the walk

pub walked : (g : GroundState) (t : TrailState) (walk : Walk) → t.problem ≡ g.problem → walk.place.at ≡ 0 → IsWalk g t walk → IsWalkEnd g walk
walked g t walk same e far =
    let state : walk.place.state ≡ g.problem.bounds = far.place.state ∙ ap (λ n. box_after t.problem.bounds (take n t.changes)) e ∙ ap (λ (q : Instance). q.bounds) same in
    record {
      refuted = smaller_refuted g walk.used g.problem.bounds walk.need (subst (λ b. IsSmaller b walk.need) state far.needed.inside) far.needed.refuted;
      used = far.needed.used;
    }

-- ---- want of memory

pub on_none : {T E : Type 0} (P : E → Type 0) (X : Type 0) (r : Result T E) → IsErrAnd r P → OnOk r X
on_none P X (Ok x) h = absurd h
on_none P X (Err e) h = tt

pub none_stepped : {E : Type 0} (P : E → Type 0) (g : GroundState) (t : TrailState) (walk : Walk) (r : Result (Option Turn) E) → IsErrAnd r P → IsStepped g t walk r
none_stepped P g t walk (Ok o) h = absurd h
none_stepped P g t walk (Err e) h = tt

pub if_none : {T E : Type 0} (P : E → Type 0) (X : T → Type 0) (r : Result T E) → IsErrAnd r P → IfOk r X
if_none P X (Ok x) h = absurd h
if_none P X (Err e) h = tt
