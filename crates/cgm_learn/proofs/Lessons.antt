-- The lemma that is made of what a walk ends with: its tests, its ranges and the cut after which it is unit.
use Rattle.std.proofs.Common.{◌≡◌, ℕ, ◌+◌, ◌-◌, ◌<◌, ◌≤◌, Bool, true, false, not, List, [], ◌∷◌, ◌++◌, length, map, refl, ap, sym, ◌∙◌, subst, arith}
use Rattle.std.specs.Prelude.{IfOk, Result, Ok, Err, IfSome, reverse, nat_lt, is_none, ◌≢◌, ◌==◌, if◌then◌else◌}
use Rattle.std.specs.declared.option.Option.{Option}
use Rattle.std.specs.declared.option.Option.TheVariants.{Some, None}
use Rattle.std.specs.List.{All, position_from}
use Rattle.std.specs.Option.{option_and_then, option_map}
use Rattle.std.proofs.lemmas.Bool.{eq-eqb, lt-ltb}
use Rattle.std.proofs.lemmas.List.{get_or-reverse, length-reverse}
use Rattle.std.proofs.lemmas.List.Elements.{All-cons, All-head, All-map, All-nil, All-push, All-tail, All-weaker}
use Rattle.cgm_atom.specs.declared.constraints.Atom.{Atom}
use Rattle.cgm_atom.specs.declared.constraints.Clause.{Clause}
use Rattle.cgm_atom.specs.declared.entries.BadStep.{BadStep}
use Rattle.cgm_atom.specs.declared.entries.BadStep.TheVariants as fault
use Rattle.cgm_atom.specs.declared.entries.Entry.{Entry}
use Rattle.cgm_atom.specs.declared.entries.Entry.TheVariants.{Lemma}
use Rattle.cgm_atom.specs.declared.entries.Hint.{Hint}
use Rattle.cgm_atom.specs.Acceptance.{first_fault, is_refuted}
use Rattle.cgm_atom.specs.Atoms.{negation}
use Rattle.cgm_atom.specs.Bounds.{Bounds}
use Rattle.cgm_atom.specs.ClauseAtoms.{AreKnown}
use Rattle.cgm_atom.specs.Constraints.{Constraint}
use Rattle.cgm_atom.specs.Instance.{Instance, fault_unless, first_some, var_count}
use Rattle.cgm_atom.specs.Laws.{IsSmaller}
use Rattle.cgm_atom.specs.Limits.{IsWellFormedProblem}
use Rattle.cgm_atom.specs.LogState.{LogState, all_narrowed, greatest_carried, named}
use Rattle.cgm_atom.specs.Narrowing.{all_assumed, is_false_in, made_true}
use Rattle.cgm_atom.specs.Placing.{placed}
use Rattle.cgm_atom.specs.Ranges.{IsAtomInRange, IsHintInRange}
use Rattle.cgm_atom.proofs.Shrinking.{IsSmaller-same, IsSmaller-trans, false_in_smaller, made_true_shrinks}
use Rattle.cgm_trail.specs.TrailState.{IsOpenIn, TrailState, box_of, cut_trail, level_of}
use Rattle.cgm_learn.specs.declared.hints.Used.{Used}
use Rattle.cgm_learn.specs.declared.learned.Learned.{Learned}
use Rattle.cgm_learn.specs.declared.places.Place.{Place}
use Rattle.cgm_learn.specs.declared.walks.Turn.{Turn}
use Rattle.cgm_learn.specs.declared.walks.Walk.{Walk}
use Rattle.cgm_learn.specs.Grounds.{GroundState, IsGround, IsKnownOn, whole_state}
use Rattle.cgm_learn.specs.Learning.{IsAcceptedLemma, IsLemmaInRange, IsUnitAtLast, named_after}
use Rattle.cgm_learn.specs.Walking.{AreNegations, IsWalkEnd, IsLesson, IsPlaceOf, IsTurn, IsUsable, IsUsed, followed, left_by_used}
use Rattle.cgm_learn.proofs.Boxes.{false_made, inside_from, made_counts, negation_open, open_in_larger, true_negation}
use Rattle.cgm_learn.proofs.Changes.{IsCutBetween, cut_between, cut_box, level_at_decision}
use Rattle.cgm_learn.proofs.Following.{smaller_refuted}
use Rattle.cgm_learn.proofs.Pending.{open_whole}

-- ---- lists

pub all_front : {X : Type 0} (P : X → Type 0) (xs ys : List X) → All P (xs ++ ys) → All P xs
all_front P [] ys h = All-nil P
all_front P (x ∷ xs) ys h = All-cons P x xs (All-head P x (xs ++ ys) h) (all_front P xs ys (All-tail P x (xs ++ ys) h))

pub all_back : {X : Type 0} (P : X → Type 0) (xs ys : List X) → All P (xs ++ ys) → All P ys
all_back P [] ys h = h
all_back P (x ∷ xs) ys h = all_back P xs ys (All-tail P x (xs ++ ys) h)

all_reversed : {X : Type 0} (P : X → Type 0) (xs : List X) → All P xs → All P (reverse xs)
all_reversed P xs h = λ k d within.
    subst P (sym (get_or-reverse xs k d (omega (arith, within, length-reverse xs))))
    (h (length xs - 1 - k) d (omega (arith, within, length-reverse xs)))

none_passes : {X : Type 0} (test : X → Bool) (i : ℕ) (xs : List X) → All (λ x. test x ≡ false) xs → position_from test i xs ≡ None
none_passes test i [] h = refl
none_passes test i (x ∷ xs) h =
    rw (All-head (λ y. test y ≡ false) x xs h) (none_passes test (i + 1) xs (All-tail (λ y. test y ≡ false) x xs h))

-- ---- the tests

no_faults : (closed : Bool) (atom there : Option BadStep) (bounded refuted : Bool) (found : ℕ) → closed ≡ false → atom ≡ None → there ≡ None → bounded ≡ true → refuted ≡ true → first_some (fault_unless (not closed) fault.AfterEnd ∷ atom ∷ there ∷ fault_unless bounded (fault.Bound found) ∷ fault_unless refuted fault.NoConflict ∷ []) ≡ None
no_faults closed atom there bounded refuted found h k l m n = rw (h, k, l, m, n) refl

known_test : (n : ℕ) (a : Atom) → a.var.0 < n → not (nat_lt a.var.0 n) ≡ false
known_test n a h = ap not (lt-ltb a.var.0 n h)

-- a lemma that passes each test
pub passes : (p : Instance) (s : LogState) (worker bound : ℕ) (clause : Clause) (hints : List Hint) → s.closed ≡ false → AreKnown (var_count p) clause.atoms → All (λ h. is_none (named p s h) ≡ false) hints → bound ≡ greatest_carried s hints → is_refuted p s clause hints ≡ true → first_fault p s (Lemma worker clause hints bound) ≡ None
unfolding first_fault
passes p s worker bound clause hints still_open known there e refuted =
    no_faults s.closed (option_map (λ i. fault.Atom (i + 1)) (position_from (λ a. not (nat_lt a.var.0 (var_count p))) 0 clause.atoms)) (option_map (λ i. fault.Hint (i + 1)) (position_from (λ h. is_none (named p s h)) 0 hints)) (bound == greatest_carried s hints) (is_refuted p s clause hints) (greatest_carried s hints)
    still_open
    (ap (option_map (λ i. fault.Atom (i + 1))) (none_passes (λ a. not (nat_lt a.var.0 (var_count p))) 0 clause.atoms (All-weaker (λ a. a.var.0 < var_count p) (λ a. not (nat_lt a.var.0 (var_count p)) ≡ false) (known_test (var_count p)) clause.atoms known)))
    (ap (option_map (λ i. fault.Hint (i + 1))) (none_passes (λ h. is_none (named p s h)) 0 hints there))
    (eq-eqb bound (greatest_carried s hints) e)
    refuted

none_left : (o : Option Bounds) (next : Bounds → Option Bounds) → IfSome o (λ b. next b ≡ None) → is_none (option_and_then next o) ≡ true
none_left None next h = refl
none_left (Some b) next h = ap is_none h

refuted_by : (p : Instance) (s : LogState) (clause : Clause) (hints : List Hint) → IfSome (all_assumed p.bounds (map negation clause.atoms)) (λ b. all_narrowed p s b hints ≡ None) → is_refuted p s clause hints ≡ true
unfolding is_refuted
refuted_by p s clause hints h = none_left (all_assumed p.bounds (map negation clause.atoms)) (λ b. all_narrowed p s b hints) h

-- ---- the negations of the atoms

-- a smaller box in which all the atoms are false
record IsFalsified (b : Bounds) (atoms : List Atom) (b' : Bounds) : Type 0 where
  smaller : IsSmaller b' b
  falses : All (λ a. is_false_in b' a ≡ true) atoms

falsified_cons : (o : Option Bounds) (b made : Bounds) (a : Atom) (atoms : List Atom) → IsSmaller made b → is_false_in made a ≡ true → IfSome o (λ b'. IsFalsified made atoms b') → IfSome o (λ b'. IsFalsified b (a ∷ atoms) b')
falsified_cons None b made a atoms h e rest = tt
falsified_cons (Some b') b made a atoms h e rest = record {
  smaller = IsSmaller-trans b' made b rest.smaller h;
  falses = All-cons (λ x. is_false_in b' x ≡ true) a atoms (false_in_smaller b' made a rest.smaller e) rest.falses;
}

unless_false : (t : Bool) (o : Option Bounds) (P : Bounds → Type 0) → IfSome o P → IfSome (if t then None else o) P
unless_false true o P h = tt
unless_false false o P h = h

falsified : (b : Bounds) (atoms : List Atom) → length b.upper ≡ length b.lower → AreKnown (length b.lower) atoms → IfSome (all_assumed b (map negation atoms)) (λ b'. IsFalsified b atoms b')
falsified b [] even known = record { smaller = IsSmaller-same b; falses = All-nil (λ a. is_false_in b a ≡ true) }
falsified b (a ∷ atoms) even known =
    let made : Bounds = made_true b (negation a) in
    let counts = made_counts b (negation a) even in
    let first = All-head (λ x. x.var.0 < length b.lower) a atoms known in
    let others = All-tail (λ x. x.var.0 < length b.lower) a atoms known in
    unless_false (is_false_in b (negation a)) (all_assumed made (map negation atoms)) (λ b'. IsFalsified b (a ∷ atoms) b')
    (falsified_cons (all_assumed made (map negation atoms)) b made a atoms (made_true_shrinks b (negation a)) (false_made b a first even)
    (falsified made atoms counts.0 (subst (λ n. AreKnown n atoms) (sym counts.1) others)))

all_falsified : (o : Option Bounds) (b : Bounds) (atoms : List Atom) (X : Bounds → Type 0) → IfSome o (λ b'. IsFalsified b atoms b') → ((b' : Bounds) → IsSmaller b' b → All (λ a. is_false_in b' a ≡ true) atoms → X b') → IfSome o X
all_falsified None b atoms X h k = tt
all_falsified (Some b') b atoms X h k = k b' h.smaller h.falses

-- ---- the hints

not_none : (o : Option Constraint) → o ≢ None → is_none o ≡ false
not_none None h = absurd (h refl)
not_none (Some k) h = refl

usable_there : (g : GroundState) (h : Hint) → IsUsable g h → is_none (named g.problem (whole_state g) (placed (length g.state.entries) h)) ≡ false
usable_there g h name = not_none (named_after g.problem g.state g.pending h) name.there

-- the lemma with these atoms and the hints that were used
record IsMade (l : Learned) (atoms : List Atom) (u : Used) : Type 0 where
  atoms_are : l.clause.atoms ≡ atoms
  hints_are : l.hints ≡ reverse u.hints.items
  bound_is : l.bound ≡ u.bound

accepted_by : (g : GroundState) (l : Learned) (atoms : List Atom) (u : Used) → IsGround g → IsWellFormedProblem g.problem → IsMade l atoms u → IsUsed g u → AreKnown (var_count g.problem) atoms → ((b : Bounds) → IsSmaller b g.problem.bounds → All (λ a. is_false_in b a ≡ true) atoms → left_by_used g u b ≡ None) → IsAcceptedLemma g.problem g.state g.pending l
accepted_by g l atoms u valid_ground valid made used known refuted = λ worker.
    let whole = whole_state g in
    let n = length g.state.entries in
    let hints : map (placed n) l.hints ≡ followed n u.hints.items = ap (map (placed n)) made.hints_are in
    rw (hints, made.bound_is)
    (passes g.problem whole worker u.bound l.clause (followed n u.hints.items) (open_whole g valid_ground)
    (rw made.atoms_are known)
    (All-map (λ h. is_none (named g.problem whole h) ≡ false) (placed n) (reverse u.hints.items) (all_reversed (λ h. is_none (named g.problem whole (placed n h)) ≡ false) u.hints.items (All-weaker (IsUsable g) (λ h. is_none (named g.problem whole (placed n h)) ≡ false) (usable_there g) u.hints.items used.usable)))
    used.bound
    (refuted_by g.problem whole l.clause (followed n u.hints.items)
    (rw made.atoms_are (all_falsified (all_assumed g.problem.bounds (map negation atoms)) g.problem.bounds atoms (λ b. all_narrowed g.problem whole b (followed n u.hints.items) ≡ None) (falsified g.problem.bounds atoms valid.proper.same_count known) refuted))))

known_by : (g : GroundState) (l : Learned) (atoms : List Atom) (u : Used) → IsMade l atoms u → IsUsed g u → All (IsKnownOn g) l.hints
known_by g l atoms u made used =
    rw made.hints_are (all_reversed (IsKnownOn g) u.hints.items (All-weaker (IsUsable g) (IsKnownOn g) (λ h use'. use'.known) u.hints.items used.usable))

range_by : (g : GroundState) (l : Learned) (atoms : List Atom) (u : Used) → IsMade l atoms u → IsUsed g u → All IsAtomInRange atoms → IsLemmaInRange l
range_by g l atoms u made used range = λ worker below. (
  below,
  rw made.atoms_are range,
  rw made.hints_are (all_reversed IsHintInRange u.hints.items (All-weaker (IsUsable g) IsHintInRange (λ h use'. use'.range) u.hints.items used.usable)),
  rw made.bound_is used.fits,
)

-- ---- the end

nothing_false : (b : Bounds) → All (λ (a : Atom). is_false_in b a ≡ true) []
nothing_false b = All-nil (λ (a : Atom). is_false_in b a ≡ true)

pub lesson_at_end : (g : GroundState) (t : TrailState) (l : Learned) (walk : Walk) → IsGround g → IsWellFormedProblem g.problem → IsWalkEnd g walk → l.clause.atoms ≡ [] → l.hints ≡ reverse walk.used.hints.items → l.bound ≡ walk.used.bound → IsLesson g t l
lesson_at_end g t l walk valid_ground valid end e f k =
    let u : Used = walk.used in
    let made : IsMade l [] u = record { atoms_are = e; hints_are = f; bound_is = k } in
    record {
      accepted =
          accepted_by g l [] u valid_ground valid made end.used (All-nil (λ (a : Atom). a.var.0 < var_count g.problem))
          (λ b smaller falses. smaller_refuted g u b g.problem.bounds smaller end.refuted);
      known = known_by g l [] u made end.used;
      range = range_by g l [] u made end.used (All-nil IsAtomInRange);
      last = λ zero_level. e;
      unit = λ some_atoms. absurd (some_atoms e);
    }

-- ---- a turn

unit_in : (b rest : Bounds) (others atoms : List Atom) (a : Atom) → atoms ≡ others ++ negation a ∷ [] → All (λ x. is_false_in rest x ≡ true) others → IsSmaller b rest → IsOpenIn b a → IsUnitAtLast b atoms
unit_in b rest others atoms a e falses smaller undecided = record {
  others = others;
  last = negation a;
  parts = e;
  false_others = All-weaker (λ x. is_false_in rest x ≡ true) (λ x. is_false_in b x ≡ true) (λ x. false_in_smaller b rest x smaller) others falses;
  open_last = negation_open b a undecided;
}

unit_by : (t : TrailState) (l : Learned) (rest : Bounds) (base first : Place) (others : List Atom) (a : Atom) (level : ℕ) → IsPlaceOf t base → IsPlaceOf t first → IsSmaller first.state rest → IsOpenIn base.state a → l.clause.atoms ≡ others ++ negation a ∷ [] → All (λ x. is_false_in rest x ≡ true) others → l.level ≡ level → IsCutBetween t.changes level first.at base.at → (l.level < level_of t.changes) × IsUnitAtLast (box_of (cut_trail l.level t)) l.clause.atoms
unit_by t l rest base first others a level place earlier inside undecided e falses f between =
    let boxes = cut_box t.problem.bounds t.changes level first.at base.at between in
    let cut : Bounds = box_of (cut_trail level t) in
    rw f (
      between.below,
      unit_in cut rest others l.clause.atoms a e falses
          (IsSmaller-trans cut first.state rest (rw earlier.state boxes.0) inside)
          (open_in_larger base.state cut a (rw place.state boxes.1) undecided),
    )

pub lesson_at_turn : (g : GroundState) (t : TrailState) (l : Learned) (walk : Walk) (turn : Turn) (first : Place) (others : List Atom) (opposite : Atom) → IsGround g → IsWellFormedProblem g.problem → IsTurn g t walk turn → AreNegations g.problem.bounds walk.need (var_count g.problem) others → opposite ≡ negation turn.atom → IsAtomInRange opposite → IsPlaceOf t first → first.at ≤ turn.base.at → IsSmaller first.state walk.need → l.clause.atoms ≡ others ++ opposite ∷ [] → l.hints ≡ reverse walk.used.hints.items → l.bound ≡ walk.used.bound → l.level ≡ first.level → IsLesson g t l
lesson_at_turn g t l walk turn first others opposite valid_ground valid far negations same range place h inside e f bound k =
    let u : Used = walk.used in
    let rest : Bounds = walk.need in
    let atoms : List Atom = others ++ opposite ∷ [] in
    let made : IsMade l atoms u = record { atoms_are = e; hints_are = f; bound_is = bound } in
    let limits = far.enough.limits in
    let counts : length turn.base.state.lower ≡ length g.problem.bounds.lower = far.enough.inside.lower_count ∙ limits.lower_count in
    let undecided = far.enough.undecided in
    let open' = undecided.known in
    let last_known : turn.atom.var.0 < var_count g.problem = omega (arith, open', counts) in
    let known : AreKnown (var_count g.problem) atoms = All-push (λ a. a.var.0 < var_count g.problem) others opposite negations.known (rw same last_known) in
    let between : IsCutBetween t.changes first.level first.at turn.base.at = rw place.level (cut_between t.changes first.at turn.base.at far.decision.0 far.decision.1 far.decision.2 h) in
    record {
      accepted =
          accepted_by g l atoms u valid_ground valid made far.enough.used known
          (λ b smaller falses.
          let count : length b.lower ≡ var_count g.problem = smaller.lower_count in
          let count' : length b.upper ≡ var_count g.problem = smaller.upper_count ∙ valid.proper.same_count in
          far.enough.refuted b
          (inside_from b rest (var_count g.problem) (count ∙ sym limits.lower_count) (count' ∙ sym limits.upper_count) count count' (negations.covered b smaller (all_front (λ a. is_false_in b a ≡ true) others (opposite ∷ []) falses)))
          (true_negation b turn.atom (subst (λ a. is_false_in b a ≡ true) same (All-head (λ a. is_false_in b a ≡ true) opposite [] (all_back (λ a. is_false_in b a ≡ true) others (opposite ∷ []) falses)))));
      known = known_by g l atoms u made far.enough.used;
      range = range_by g l atoms u made far.enough.used (All-push IsAtomInRange others opposite negations.range range);
      last = λ zero_level. let some_level = level_at_decision t.changes turn.base.at far.decision.0 far.decision.1 far.decision.2 in absurd (omega (arith, zero_level, some_level));
      unit = λ some_atoms. unit_by t l rest turn.base first others turn.atom first.level far.place place inside undecided (e ∙ ap (λ a. others ++ a ∷ []) same) negations.falses k between;
    }

-- ---- the parts of a ground

pub lesson_accepted : {E : Type 0} (p : Instance) (s : LogState) (lemmas : List Entry) (g : GroundState) (t : TrailState) (r : Result Learned E) → g ≡ record { problem = p; state = s; pending = lemmas } → IfOk r (IsLesson g t) → IfOk r (IsAcceptedLemma p s lemmas)
lesson_accepted p s lemmas g t (Ok l) e h = subst (λ (q : GroundState). IsAcceptedLemma q.problem q.state q.pending l) e h.accepted
lesson_accepted p s lemmas g t (Err x) e h = tt
