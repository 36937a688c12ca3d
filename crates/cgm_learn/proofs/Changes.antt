-- The changes of a trail up to a place: their levels, their boxes and their reasons.
use Rattle.std.proofs.Common.{◌≡◌, ℕ, zero, suc, ◌+◌, ◌<◌, ◌≤◌, Bool, true, false, cond, List, [], ◌∷◌, length, get_or, take, refl, ap, sym, ◌∙◌, subst, arith}
use Rattle.std.specs.Prelude.{slice_get, IsTrue}
use Rattle.std.specs.declared.option.Option.TheVariants.{Some}
use Rattle.std.proofs.lemmas.List.{take_all}
use Rattle.std.proofs.lemmas.Option.{get_or_from_slice_get, slice_get_within}
use Rattle.cgm_atom.specs.declared.constraints.Atom.{Atom}
use Rattle.cgm_atom.specs.declared.entries.Hint.{Hint}
use Rattle.cgm_atom.specs.Bounds.{Bounds, IsBoxOf}
use Rattle.cgm_atom.specs.Constraints.{Constraint}
use Rattle.cgm_atom.specs.Instance.{Instance}
use Rattle.cgm_atom.specs.Laws.{IsSmaller}
use Rattle.cgm_atom.specs.Narrowing.{is_true_in, made_true}
use Rattle.cgm_atom.specs.Relaxing.{relaxed}
use Rattle.cgm_atom.proofs.Shrinking.{IsSmaller-same, IsSmaller-trans, made_true_shrinks}
use Rattle.cgm_trail.specs.declared.changes.Change.{Change}
use Rattle.cgm_trail.specs.Earlier.{earlier_bound}
use Rattle.cgm_trail.specs.Rank.{IsTrail}
use Rattle.cgm_trail.specs.Steps.{AreReasoned, IsReason}
use Rattle.cgm_trail.specs.TrailState.{IsChangeOf, TrailState, box_after, box_of, cut_to, is_decision, level_of}
use Rattle.cgm_trail.proofs.Cuts.{cut_taken}
use Rattle.cgm_trail.proofs.Replaying.{AreChanges-take, IsTakenBack, box_after-more, box_after-of, box_of_itself, change_at, taken_back}
use Rattle.cgm_learn.specs.declared.places.Place.{Place}
use Rattle.cgm_learn.specs.Walking.{IsPlaceOf, box_at, is_met_before}
use Rattle.cgm_learn.proofs.Boxes.{smaller_before}

some_same : (x c : Change) → Some x ≡ Some c → x ≡ c
some_same x c e = cc

-- ---- levels

level_swapped : (s t : Bool) (n : ℕ) → cond s (cond t (n + 1) n + 1) (cond t (n + 1) n) ≡ cond t (cond s (n + 1) n + 1) (cond s (n + 1) n)
level_swapped true true n = refl
level_swapped true false n = refl
level_swapped false true n = refl
level_swapped false false n = refl

-- one change more
pub level_more : (changes : List Change) (n : ℕ) (c : Change) → slice_get changes n ≡ Some c → level_of (take (suc n) changes) ≡ cond (is_decision c) (level_of (take n changes) + 1) (level_of (take n changes))
level_more [] n c e = absurd (cc)
level_more (x ∷ changes) zero c e =
    let same : x ≡ c = some_same x c e in
    rw same refl
level_more (x ∷ changes) (suc n) c e =
    ap (λ m. cond (is_decision x) (m + 1) m) (level_more changes n c e)
    ∙ level_swapped (is_decision x) (is_decision c) (level_of (take n changes))

level_of_more : (t : Bool) (n : ℕ) → 0 < n → 0 < cond t (n + 1) n
level_of_more true n h = omega arith
level_of_more false n h = h

-- a decision at a place opens a level
pub level_at_decision : (changes : List Change) (n : ℕ) (c : Change) → slice_get changes n ≡ Some c → is_decision c ≡ true → 0 < level_of changes
level_at_decision [] n c e d = absurd (cc)
level_at_decision (x ∷ changes) zero c e d =
    let same : x ≡ c = some_same x c e in
    rw (same, d) (omega arith)
level_at_decision (x ∷ changes) (suc n) c e d = level_of_more (is_decision x) (level_of changes) (level_at_decision changes n c e d)

-- a cut to a level below keeps at least j changes, and at most m
pub record IsCutBetween (changes : List Change) (level j m : ℕ) : Type 0 where
  pub least : j ≤ length (cut_to level changes)
  pub most : length (cut_to level changes) ≤ m
  pub below : level < level_of changes

cut_at_first : (x : Change) (changes : List Change) → is_decision x ≡ true → IsCutBetween (x ∷ changes) 0 0 0
cut_at_first x changes d = record { least = omega arith; most = rw d (omega arith); below = rw d (omega arith) }

cut_past_first : (t : Bool) (x : Change) (changes : List Change) (m : ℕ) → is_decision x ≡ t → IsCutBetween changes 0 0 m → IsCutBetween (x ∷ changes) 0 0 (suc m)
cut_past_first true x changes m d h = record { least = omega arith; most = rw d (omega arith); below = rw d (omega arith) }
cut_past_first false x changes m d h =
    let most = h.most in
    record { least = omega arith; most = rw d (omega (arith, most)); below = rw d h.below }

cut_past : (t : Bool) (x : Change) (changes : List Change) (level j m : ℕ) → is_decision x ≡ t → IsCutBetween changes level j m → IsCutBetween (x ∷ changes) (cond t (level + 1) level) (suc j) (suc m)
cut_past true x changes level j m d h =
    let least = h.least in
    let most = h.most in
    let below = h.below in
    let next : level + 1 ≡ suc level = omega arith in
    rw next (record { least = rw d (omega (arith, least)); most = rw d (omega (arith, most)); below = rw d (omega (arith, below)) })
cut_past false x changes zero j m d h =
    let least = h.least in
    let most = h.most in
    record { least = rw d (omega (arith, least)); most = rw d (omega (arith, most)); below = rw d h.below }
cut_past false x changes (suc level) j m d h =
    let least = h.least in
    let most = h.most in
    record { least = rw d (omega (arith, least)); most = rw d (omega (arith, most)); below = rw d h.below }

-- so does one to the level of the first j changes, where the change after the first m is a decision
pub cut_between : (changes : List Change) (j m : ℕ) (c : Change) → slice_get changes m ≡ Some c → is_decision c ≡ true → j ≤ m → IsCutBetween changes (level_of (take j changes)) j m
cut_between [] j m c e d h = absurd (cc)
cut_between (x ∷ changes) zero zero c e d h =
    let same : x ≡ c = some_same x c e in
    cut_at_first x changes (ap is_decision same ∙ d)
cut_between (x ∷ changes) zero (suc m) c e d h =
    cut_past_first (is_decision x) x changes m refl (cut_between changes zero m c e d (omega arith))
cut_between (x ∷ changes) (suc j) zero c e d h = absurd (omega arith)
cut_between (x ∷ changes) (suc j) (suc m) c e d h =
    cut_past (is_decision x) x changes (level_of (take j changes)) j m refl (cut_between changes j m c e d (omega arith))

-- ---- boxes

changes_shrink : (b : Bounds) (changes : List Change) → IsSmaller (box_after b changes) b
changes_shrink b [] = IsSmaller-same b
changes_shrink b (c ∷ changes) =
    IsSmaller-trans (box_after (made_true b c.atom) changes) (made_true b c.atom) b (changes_shrink (made_true b c.atom) changes) (made_true_shrinks b c.atom)

-- more changes lead to a smaller box
pub later_smaller : (b : Bounds) (changes : List Change) (m n : ℕ) → m ≤ n → IsSmaller (box_after b (take n changes)) (box_after b (take m changes))
later_smaller b changes zero n h = changes_shrink b (take n changes)
later_smaller b [] (suc m) zero h = absurd (omega arith)
later_smaller b [] (suc m) (suc n) h = IsSmaller-same b
later_smaller b (c ∷ changes) (suc m) zero h = absurd (omega arith)
later_smaller b (c ∷ changes) (suc m) (suc n) h = later_smaller (made_true b c.atom) changes m n (omega arith)

-- the box after a cut lies between
pub cut_box : (b : Bounds) (changes : List Change) (level j m : ℕ) → IsCutBetween changes level j m → IsSmaller (box_after b (cut_to level changes)) (box_after b (take j changes)) × IsSmaller (box_after b (take m changes)) (box_after b (cut_to level changes))
cut_box b changes level j m h =
    let k : ℕ = length (cut_to level changes) in
    let same : take k changes ≡ cut_to level changes = sym (cut_taken level changes) in (
      subst (λ cs. IsSmaller (box_after b cs) (box_after b (take j changes))) same (later_smaller b changes j k h.least),
      subst (λ cs. IsSmaller (box_after b (take m changes)) (box_after b cs)) same (later_smaller b changes k m h.most),
    )

-- ---- places

-- what a place needs and has when its last change is taken back
pub record IsBack (t : TrailState) (w : Place) (c : Change) (a : Atom) (n : ℕ) : Type 0 where
  pub known : a.var.0 < length w.state.lower
  pub met : IsTrue (is_true_in w.state a)
  pub after : relaxed w.state a ≡ box_at t n
  pub level : w.level ≡ cond (is_decision c) (level_of (take n t.changes) + 1) (level_of (take n t.changes))
  pub within : n ≤ length t.changes

pub one_back : (t : TrailState) (w : Place) (c : Change) (a : Atom) (n : ℕ) → IsTrail t → IsPlaceOf t w → n + 1 ≡ w.at → slice_get t.changes n ≡ Some c → a ≡ earlier_bound c → IsBack t w c a n
one_back t w c a n trail place e found same =
    let within : n < length t.changes = slice_get_within t.changes n c found in
    let got : get_or t.changes n c ≡ c = get_or_from_slice_get t.changes n c c found in
    let back : IsTakenBack t.problem.bounds t.changes n w.at a = taken_back t.problem.bounds t.changes n w.at c a (same ∙ ap earlier_bound (sym got)) (sym e) within trail.changes in
    let next : w.at ≡ suc n = omega (arith, e) in
    record {
      known = rw place.state back.known;
      met = rw place.state back.met;
      after = rw place.state back.after;
      level = place.level ∙ ap (λ k. level_of (take k t.changes)) next ∙ level_more t.changes n c found;
      within = omega arith;
    }

pub place_after : (t : TrailState) (w : Place) (c : Change) (a : Atom) (n level : ℕ) (state : Bounds) → IsBack t w c a n → state ≡ relaxed w.state a → level ≡ level_of (take n t.changes) → IsPlaceOf t (record { at = n; level = level; state = state })
place_after t w c a n level state back e h = record { within = back.within; level = h; state = e ∙ back.after }

-- the box of a place is one of the problem
pub place_limits : (t : TrailState) (w : Place) → IsTrail t → IsPlaceOf t w → IsBoxOf t.problem.bounds w.state
place_limits t w trail place =
    subst (λ b. IsBoxOf t.problem.bounds b) (sym place.state)
    (box_after-of t.problem.bounds t.problem.bounds (take w.at t.changes) (box_of_itself t.problem.bounds trail.problem.proper) (AreChanges-take t.problem.bounds w.at t.changes trail.changes))

-- what leads from a place to the next
pub record IsNext (t : TrailState) (w v : Place) (c : Change) : Type 0 where
  pub change : IsChangeOf w.state c
  pub made : v.state ≡ made_true w.state c.atom

pub next_place : (t : TrailState) (w v : Place) (c : Change) → IsTrail t → IsPlaceOf t w → IsPlaceOf t v → w.at + 1 ≡ v.at → slice_get t.changes w.at ≡ Some c → IsNext t w v c
next_place t w v c trail place later e found =
    let within : w.at < length t.changes = slice_get_within t.changes w.at c found in
    let got : get_or t.changes w.at c ≡ c = get_or_from_slice_get t.changes w.at c c found in
    record {
      change =
          rw place.state
          (subst (λ x. IsChangeOf (box_at t w.at) x) got (change_at t.problem.bounds t.changes w.at c within trail.changes));
      made =
          later.state
          ∙ ap (λ n. box_at t n) (sym e)
          ∙ box_after-more t.problem.bounds t.changes w.at c within
          ∙ ap (λ x. made_true (box_at t w.at) x.atom) got
          ∙ ap (λ b. made_true b c.atom) (sym place.state);
    }

-- the reason of the change at a place
pub reason_at : (Names : Hint → Constraint → Type 0) (b : Bounds) (changes : List Change) (n : ℕ) (c : Change) → AreReasoned Names b changes → slice_get changes n ≡ Some c → IsReason Names (box_after b (take n changes)) c.atom c.reason
reason_at Names b [] n c h e = absurd (cc)
reason_at Names b (x ∷ changes) zero c h e =
    let same : x ≡ c = some_same x c e in
    subst (λ y. IsReason Names b y.atom y.reason) same h.0
reason_at Names b (x ∷ changes) (suc n) c h e = reason_at Names (made_true b x.atom) changes n c h.1 e

-- an earlier place has a larger box
pub earlier_larger : (t : TrailState) (w v : Place) → IsPlaceOf t w → IsPlaceOf t v → w.at ≤ v.at → IsSmaller v.state w.state
earlier_larger t w v place later h =
    rw (place.state, later.state) (later_smaller t.problem.bounds t.changes w.at v.at h)

-- the variable of a change exists
pub change_known : (t : TrailState) (n : ℕ) (c : Change) → IsTrail t → slice_get t.changes n ≡ Some c → c.atom.var.0 < length t.problem.bounds.lower
change_known t n c trail found =
    let within : n < length t.changes = slice_get_within t.changes n c found in
    let got : get_or t.changes n c ≡ c = get_or_from_slice_get t.changes n c c found in
    let change : IsChangeOf (box_at t n) c = subst (λ x. IsChangeOf (box_at t n) x) got (change_at t.problem.bounds t.changes n c within trail.changes) in
    let limits : IsBoxOf t.problem.bounds (box_at t n) = box_after-of t.problem.bounds t.problem.bounds (take n t.changes) (box_of_itself t.problem.bounds trail.problem.proper) (AreChanges-take t.problem.bounds n t.changes trail.changes) in
    let known = change.undecided.known in
    omega (arith, known, limits.lower_count)

-- the box before a change lies in the rest, where the earlier bound is enough
pub kept_within : (t : TrailState) (w v : Place) (rest : Bounds) (c : Change) (n : ℕ) → IsTrail t → IsPlaceOf t w → IsPlaceOf t v → w.at + 1 ≡ v.at → n + 1 ≡ v.at → slice_get t.changes n ≡ Some c → IsSmaller v.state rest → is_met_before rest c ≡ true → IsSmaller w.state rest
kept_within t w v rest c n trail place later e f found smaller met =
    let same : n ≡ w.at = omega (arith, e, f) in
    let next = next_place t w v c trail place later e (subst (λ k. slice_get t.changes k ≡ Some c) same found) in
    smaller_before w.state rest c next.change (subst (λ b. IsSmaller b rest) next.made smaller) met

-- the box of a place is one of the trail's problem
pub place_in : (p : Instance) (t : TrailState) (w : Place) → t.problem ≡ p → IsTrail t → IsPlaceOf t w → IsBoxOf p.bounds w.state
place_in p t w same trail place = subst (λ (q : Instance). IsBoxOf q.bounds w.state) same (place_limits t w trail place)

-- and it has a least and a greatest value for each of its variables
pub place_counts : (p : Instance) (t : TrailState) (w : Place) (n : ℕ) → t.problem ≡ p → IsTrail t → IsPlaceOf t w → n ≡ length p.bounds.lower → (length w.state.lower ≡ n) × (length w.state.upper ≡ n)
place_counts p t w n same trail place e =
    let limits = place_in p t w same trail place in
    (limits.lower_count ∙ sym e, limits.upper_count ∙ sym e)

-- the last place has the trail's box
pub last_box : (t : TrailState) (w : Place) → IsPlaceOf t w → w.at ≡ length t.changes → w.state ≡ box_of t
last_box t w place e = place.state ∙ ap (box_after t.problem.bounds) (take_all w.at t.changes (omega (arith, e)))
