-- Propagation by a row as far as it has come.
use Rattle.std.proofs.Common.{◌≡◌, ℕ, ◌+◌, ◌<◌, ◌≤◌, ◌^◌, Bool, true, false, cond, List, [], ◌∷◌, length, get_or, drop, refl, ap, sym, ◌∙◌, subst, arith}
use Rattle.std.specs.Prelude.{ℤ, ◌≤ℤ◌, ◌<ℤ◌, slice_get, IfSome, IsErrAnd, Result, Ok, Err}
use Rattle.std.specs.declared.option.Option.{Option}
use Rattle.std.specs.declared.option.Option.TheVariants.{Some, None}
use Rattle.std.proofs.lemmas.Int.{ints}
use Rattle.std.proofs.lemmas.List.{drop_all}
use Rattle.cgm_atom.specs.declared.constraints.Atom.{Atom}
use Rattle.cgm_atom.specs.declared.constraints.Row.{Row}
use Rattle.cgm_atom.specs.declared.constraints.Var.{Var}
use Rattle.cgm_atom.specs.declared.entries.Hint.{Hint}
use Rattle.cgm_atom.specs.declared.entries.Hint.TheVariants as hint
use Rattle.cgm_atom.specs.Atoms.{negation}
use Rattle.cgm_atom.specs.Bounds.{Bounds}
use Rattle.cgm_atom.specs.Constraints.{Constraint, left_by, of_row}
use Rattle.cgm_atom.specs.Instance.{Instance}
use Rattle.cgm_atom.specs.Laws.{IsSmaller}
use Rattle.cgm_atom.specs.Limits.{AreTermsOf, IsRowOf}
use Rattle.cgm_atom.specs.Narrowing.{greatest_activity, is_true_in, left_by_row, left_by_unmet, made_true, tightened_by_term, tightened_by_terms}
use Rattle.cgm_atom.specs.Relaxing.{bound_of}
use Rattle.cgm_atom.proofs.RowLimits.{IsRowOf-inside}
use Rattle.cgm_atom.proofs.RowTightening.{left_by_row-claimed, left_by_row-unmet, length-made_true}
use Rattle.cgm_atom.proofs.Shrinking.{IsSmaller-same, IsSmaller-trans, activity_smaller, claimed_in_smaller, made_true_shrinks}
use Rattle.cgm_trail.specs.declared.changes.Reason.TheVariants.{By}
use Rattle.cgm_trail.specs.declared.changes.Swept.{Swept}
use Rattle.cgm_trail.specs.Rank.{IsTrail}
use Rattle.cgm_trail.specs.Steps.{IsGiven, IsOnly, IsPropagated}
use Rattle.cgm_trail.specs.TrailState.{IsOpenIn, TrailState, box_of, change_of, tightened}
use Rattle.cgm_trail.proofs.Propagating.{more_names, none_made, one_after_another}
use Rattle.cgm_trail.proofs.Replaying.{box_after-append}
use Rattle.cgm_linear.specs.Making.{HasRoom}
use Rattle.cgm_linear.specs.Sweeping.{IsRowNumbered, IsRowSwept, IsTighteningLeft}
use Rattle.cgm_linear.proofs.RowTerms.{AreFarSame, AreTrueIn, IsEven, all_made, atom_at, even_made, exact_at, far_activity, far_after, far_all_itself, far_terms_alike, made_is_true, made_same, term_alike, terms_stay, true_at}

pub box_tightened : (t : TrailState) (a : Atom) (by : Hint) → box_of (tightened t a by) ≡ made_true (box_of t) a
box_tightened t a by = box_after-append t.problem.bounds t.changes (change_of (box_of t) a (By by) ∷ [])

-- ---- the guard

guard_cases : (b : Bounds) (x : Var) (up : Bool) (k : ℤ) → is_true_in (made_true b (negation (record { var = x; at_least = up; k = k }))) (record { var = x; at_least = up; k = k }) ≡ is_true_in b (record { var = x; at_least = up; k = k })
guard_cases b x true k = refl
guard_cases b x false k = refl

-- its negation moves the other bound
guard_keeps : (b : Bounds) (g : Atom) → is_true_in (made_true b (negation g)) g ≡ is_true_in b g
guard_keeps b g = guard_cases b g.var g.at_least g.k

unmet_by_test : (b : Bounds) (g : Atom) (t : Bool) → is_true_in b g ≡ t → left_by_unmet b (Some g) ≡ cond t None (Some (made_true b (negation g)))
unmet_by_test b g t e = ap (λ (s : Bool). cond s None (Some (made_true b (negation g)))) e

-- what a row leaves that no values meet
pub refused : (b : Bounds) (r : Row) (g : Atom) → r.guard ≡ Some g → greatest_activity b r.terms <ℤ r.least → is_true_in b g ≡ false → left_by_row b r ≡ Some (made_true b (negation g))
refused b r g e unmet h =
    left_by_row-unmet b r (greatest_activity b r.terms) refl unmet
    ∙ ap (left_by_unmet b) e
    ∙ unmet_by_test b g false h

pub refused_guarded : (b : Bounds) (r : Row) (g : Atom) → r.guard ≡ Some g → greatest_activity b r.terms <ℤ r.least → is_true_in b g ≡ true → left_by_row b r ≡ None
refused_guarded b r g e unmet h =
    left_by_row-unmet b r (greatest_activity b r.terms) refl unmet
    ∙ ap (left_by_unmet b) e
    ∙ unmet_by_test b g true h

pub refused_unguarded : (b : Bounds) (r : Row) → r.guard ≡ None → greatest_activity b r.terms <ℤ r.least → left_by_row b r ≡ None
refused_unguarded b r e unmet = left_by_row-unmet b r (greatest_activity b r.terms) refl unmet ∙ ap (left_by_unmet b) e

less_below : (m' m l : ℤ) → m' ≤ℤ m → m <ℤ l → m' <ℤ l
less_below m' m l h k = omega (arith, ints)

-- and then it leaves the box as it is
pub refused_stays : (b : Bounds) (r : Row) (g : Atom) → r.guard ≡ Some g → greatest_activity b r.terms <ℤ r.least → is_true_in b g ≡ false → g.var.0 < length b.lower → IsEven b → left_by_row (made_true b (negation g)) r ≡ Some (made_true b (negation g))
refused_stays b r g e unmet h known even =
    let new = made_true b (negation g) in
    let smaller : IsSmaller new b = made_true_shrinks b (negation g) in
    let below : greatest_activity new r.terms ≤ℤ greatest_activity b r.terms = activity_smaller new b r.terms smaller in
    let unmet' : greatest_activity new r.terms <ℤ r.least = less_below (greatest_activity new r.terms) (greatest_activity b r.terms) r.least below unmet in
    let met : is_true_in new (negation g) ≡ true = made_is_true b (negation g) known even in
    refused new r g e unmet' (guard_keeps b g ∙ h) ∙ ap Some (made_same new (negation g) met)

given_by : (b left : Bounds) (k : Constraint) (a : Atom) → left_by b k ≡ Some left → is_true_in left a ≡ true → bound_of left a ≡ bound_of (made_true b a) a → IsGiven b k a
given_by b left k a e met exact = record {
  cause = rw e met;
  exact = rw e exact;
}

pub guard_given : (b : Bounds) (r : Row) (g : Atom) → r.guard ≡ Some g → greatest_activity b r.terms <ℤ r.least → is_true_in b g ≡ false → g.var.0 < length b.lower → IsEven b → IsGiven b (of_row r) (negation g)
guard_given b r g e unmet h known even =
    given_by b (made_true b (negation g)) (of_row r) (negation g) (refused b r g e unmet h) (made_is_true b (negation g) known even) refl

pub even_of : (t : TrailState) → IsTrail t → IsEven (box_of t)
even_of t h = let lower = h.place.lower_count in let upper = h.place.upper_count in omega (arith, lower, upper)

guard_known : (count : ℕ) (guard : Option Atom) (g : Atom) → guard ≡ Some g → IfSome guard (λ (a : Atom). a.var.0 < count) → g.var.0 < count
guard_known count guard g e h = rw e at h

pub refusal_given : (t : TrailState) (r : Row) (g a : Atom) → IsTrail t → IsRowOf (box_of t) r → r.guard ≡ Some g → greatest_activity (box_of t) r.terms <ℤ r.least → (is_true_in (box_of t) g ≡ false) × (a ≡ negation g) → IsGiven (box_of t) (of_row r) a
refusal_given t r g a trail row e unmet h =
    rw h.1 (guard_given (box_of t) r g e unmet h.0 (guard_known (length (box_of t).lower) r.guard g e row.guard) (even_of t trail))

pub refusal_ends : (t new : TrailState) (r : Row) (g a : Atom) → IsTrail t → IsRowOf (box_of t) r → r.guard ≡ Some g → greatest_activity (box_of t) r.terms <ℤ r.least → (is_true_in (box_of t) g ≡ false) × (a ≡ negation g) → box_of new ≡ made_true (box_of t) a → (left_by_row (box_of t) r ≡ Some (box_of new)) × (left_by_row (box_of new) r ≡ Some (box_of new))
refusal_ends t new r g a trail row e unmet h after =
    let known = guard_known (length (box_of t).lower) r.guard g e row.guard in
    rw (after, h.1) (
      refused (box_of t) r g e unmet h.0,
      refused_stays (box_of t) r g e unmet h.0 known (even_of t trail),
    )

pub refusal_waits : {Stop : Type 0} (t new : TrailState) (r : Row) (g a : Atom) → IsTrail t → IsRowOf (box_of t) r → r.guard ≡ Some g → greatest_activity (box_of t) r.terms <ℤ r.least → (is_true_in (box_of t) g ≡ false) × (a ≡ negation g) → Stop × (new ≡ t) × IsOpenIn (box_of t) a → Stop × IsTighteningLeft (box_of new) r
refusal_waits t new r g a trail row e unmet h m = (
  m.0,
  rw m.1 (record { atom = a; undecided = m.2; given = refusal_given t r g a trail row e unmet h }),
)

-- memory wanted for a tightening that is left is an answer
pub stopped_at : {E : Type 0} (P : E → Type 0) (by : Hint) (r : Row) (old new : TrailState) (left : ℕ) (answer : Result Swept E) → IsErrAnd answer P → (0 < left) × IsTighteningLeft (box_of new) r → IsRowSwept by r old new left answer
stopped_at P by r old new left (Ok swept) is h = absurd is
stopped_at P by r old new left (Err error) is h = h

-- ---- the terms

-- what the row leaves of a box with the same room
claimed_leaves : (old now : Bounds) (r : Row) (room : ℕ) → HasRoom old r room → AreFarSame old now r.terms → IsSmaller now old → left_by_row now r ≡ Some (tightened_by_terms now room r.terms now)
claimed_leaves old now r room h far smaller =
    left_by_row-claimed now r (greatest_activity old r.terms) (sym (far_activity old now r.terms far)) h.met (claimed_in_smaller now old r.guard smaller h.claimed)
    ∙ ap (λ (n : ℕ). Some (tightened_by_terms now n r.terms now)) (sym h.amount)

known_of : (old now : Bounds) (terms : List (ℤ × Var)) → IsSmaller now old → AreTermsOf (length old.lower) terms → AreTermsOf (length now.lower) terms
known_of old now terms smaller h = rw smaller.lower_count h

-- each term's atom is what narrowing by the row gives
term_given : (old now : Bounds) (r : Row) (room i : ℕ) (d : ℤ × Var) → HasRoom old r room → AreFarSame old now r.terms → IsSmaller now old → IsEven now → i < length r.terms → IsGiven now (of_row r) (atom_at now room (get_or r.terms i d))
term_given old now r room i d h far smaller even within =
    let known : AreTermsOf (length now.lower) r.terms = known_of old now r.terms smaller h.row.terms in
    given_by now (tightened_by_terms now room r.terms now) (of_row r) (atom_at now room (get_or r.terms i d)) (claimed_leaves old now r room h far smaller)
    (true_at (tightened_by_terms now room r.terms now) now room r.terms i d within (all_made now room r.terms now known even))
    (exact_at now room r.terms i d now within known even)

pub record IsSweptSoFar (by : Hint) (r : Row) (room : ℕ) (old : TrailState) (left : ℕ) (rest : List (ℤ × Var)) (now : TrailState) (left' : ℕ) : Type 0 where
  pub propagated : IsPropagated (IsOnly by (of_row r)) old now left left'
  pub ahead : tightened_by_terms (box_of old) room rest (box_of now) ≡ tightened_by_terms (box_of old) room r.terms (box_of old)
  pub far : AreFarSame (box_of old) (box_of now) r.terms
  pub smaller : IsSmaller (box_of now) (box_of old)
  pub even : IsEven (box_of now)
  pub known : AreTermsOf (length (box_of now).lower) rest
  pub budget : now.moves + left' ≤ 2 ^ 62

pub sweep_begins : (by : Hint) (r : Row) (room : ℕ) (old : TrailState) (left : ℕ) → HasRoom (box_of old) r room → IsEven (box_of old) → old.moves + left ≤ 2 ^ 62 → IsSweptSoFar by r room old left r.terms old left
sweep_begins by r room old left h even budget = record {
  propagated = none_made (IsOnly by (of_row r)) old old left left refl refl;
  ahead = refl;
  far = far_all_itself (box_of old) r.terms;
  smaller = IsSmaller-same (box_of old);
  even = even;
  known = h.row.terms;
  budget = budget;
}

moves_after : (by : Hint) (k : Constraint) (old now : TrailState) (left left' : ℕ) → IsPropagated (IsOnly by k) old now left left' → now.moves + left' ≡ old.moves + left
moves_after by k old now left left' h =
    let moves : now.moves ≡ old.moves + length h.added = ap (λ (t : TrailState). t.moves) h.after in
    let spent = h.spent in
    omega (arith, moves, spent)

pub sweep_made : (by : Hint) (r : Row) (room : ℕ) (old : TrailState) (left : ℕ) (rest : List (ℤ × Var)) (i : ℕ) (d : ℤ × Var) (now new : TrailState) (left' left'' : ℕ) (a : Atom)
    → HasRoom (box_of old) r room
    → i < length r.terms
    → IsSweptSoFar by r room old left rest now left'
    → a ≡ atom_at (box_of now) room (get_or r.terms i d)
    → ((k : Constraint) → IsGiven (box_of now) k a → IsPropagated (IsOnly by k) now new left' left'')
    → IsPropagated (IsOnly by (of_row r)) old new left left''
sweep_made by r room old left rest i d now new left' left'' a h within soFar e made =
    let given : IsGiven (box_of now) (of_row r) a = rw e (term_given (box_of old) (box_of now) r room i d h soFar.far soFar.smaller soFar.even within) in
    one_after_another (IsOnly by (of_row r)) old now new left left' left'' soFar.propagated (made (of_row r) given)

-- the next term's atom, made true, goes on
pub sweep_steps : (by : Hint) (r : Row) (room : ℕ) (old : TrailState) (left : ℕ) (rest : List (ℤ × Var)) (i : ℕ) (d : ℤ × Var) (now new : TrailState) (left' left'' : ℕ) (a : Atom)
    → HasRoom (box_of old) r room
    → i < length r.terms
    → IsSweptSoFar by r room old left (get_or r.terms i d ∷ rest) now left'
    → a ≡ atom_at (box_of now) room (get_or r.terms i d)
    → tightened_by_term (box_of now) room (get_or r.terms i d).0 (get_or r.terms i d).1 (box_of now) ≡ made_true (box_of now) a
    → ((k : Constraint) → IsGiven (box_of now) k a → IsPropagated (IsOnly by k) now new left' left'')
    → box_of new ≡ made_true (box_of now) a
    → IsSweptSoFar by r room old left rest new left''
sweep_steps by r room old left rest i d now new left' left'' a h within soFar e kept made after =
    let t = get_or r.terms i d in
    let ob = box_of old in
    let nb = box_of now in
    let all : IsPropagated (IsOnly by (of_row r)) old new left left'' = sweep_made by r room old left (t ∷ rest) i d now new left' left'' a h within soFar e made in
    let moves = moves_after by (of_row r) old new left left'' all in
    let moves' = moves_after by (of_row r) old now left left' soFar.propagated in
    let budget = soFar.budget in
    record {
      propagated = all;
      ahead =
          ap (tightened_by_terms ob room rest) (after ∙ sym kept ∙ term_alike ob nb room r.terms i d nb within soFar.far)
          ∙ soFar.ahead;
      far = rw (after, e) (far_after ob nb nb room (length ob.lower) r.terms i d within h.row.terms soFar.far);
      smaller = rw after (IsSmaller-trans (made_true nb a) nb ob (made_true_shrinks nb a) soFar.smaller);
      even = rw after (even_made nb a soFar.even);
      known = rw (after, length-made_true nb a) soFar.known.3;
      budget = omega (arith, moves, moves', budget);
    }

-- a term's atom that is open is a tightening that is left, whatever stopped it
pub sweep_waits : {Stop : Type 0} (by : Hint) (r : Row) (room : ℕ) (old : TrailState) (left : ℕ) (rest : List (ℤ × Var)) (i : ℕ) (d : ℤ × Var) (now new : TrailState) (left' : ℕ) (a : Atom)
    → HasRoom (box_of old) r room
    → i < length r.terms
    → IsSweptSoFar by r room old left rest now left'
    → a ≡ atom_at (box_of now) room (get_or r.terms i d)
    → Stop × (new ≡ now) × IsOpenIn (box_of now) a
    → Stop × IsTighteningLeft (box_of new) r
sweep_waits by r room old left rest i d now new left' a h within soFar e m = (
  m.0,
  rw m.1
      (record {
        atom = a;
        undecided = m.2;
        given = rw e (term_given (box_of old) (box_of now) r room i d h soFar.far soFar.smaller soFar.even within);
      }),
)

-- after all terms the box is what narrowing by the row leaves, and it leaves that as it is
pub sweep_ends : (by : Hint) (r : Row) (room : ℕ) (old : TrailState) (left : ℕ) (now : TrailState) (left' : ℕ) → HasRoom (box_of old) r room → IsSweptSoFar by r room old left [] now left' → IsEven (box_of old) → (left_by_row (box_of old) r ≡ Some (box_of now)) × (left_by_row (box_of now) r ≡ Some (box_of now))
sweep_ends by r room old left now left' h soFar even =
    let ob = box_of old in
    let nb = box_of now in
    let final : nb ≡ tightened_by_terms ob room r.terms ob = soFar.ahead in
    let met : AreTrueIn nb ob room r.terms = rw final (all_made ob room r.terms ob h.row.terms even) in
    let stays : tightened_by_terms nb room r.terms nb ≡ nb =
    far_terms_alike ob nb room r.terms nb soFar.far ∙ terms_stay ob room r.terms (length ob.lower) nb h.row.terms met in (
      claimed_leaves ob ob r room h (far_all_itself ob r.terms) (IsSmaller-same ob) ∙ ap Some (sym final),
      claimed_leaves ob nb r room h soFar.far soFar.smaller ∙ ap Some stays,
    )

pub sweep_ends_at : (by : Hint) (r : Row) (room : ℕ) (old : TrailState) (left i : ℕ) (now : TrailState) (left' : ℕ) → HasRoom (box_of old) r room → IsTrail old → length r.terms ≤ i → IsSweptSoFar by r room old left (drop i r.terms) now left' → (left_by_row (box_of old) r ≡ Some (box_of now)) × (left_by_row (box_of now) r ≡ Some (box_of now))
sweep_ends_at by r room old left i now left' h trail past soFar =
    sweep_ends by r room old left now left' h
    (subst (λ (rest : List (ℤ × Var)). IsSweptSoFar by r room old left rest now left') (drop_all i r.terms past) soFar)
    (even_of old trail)

-- ---- a row of the problem

-- a row of the problem is within its limits in the trail's box
pub row_within : (p : Instance) (t : TrailState) (r : Row) → t.problem ≡ p → IsTrail t → IsRowOf p.bounds r → IsRowOf (box_of t) r
row_within p t r e trail row =
    IsRowOf-inside t.problem.bounds (box_of t) r trail.place (subst (λ (q : Instance). IsRowOf q.bounds r) (sym e) row)

pub named_by_number : (p : Instance) (n : ℕ) (r : Row) (old new : TrailState) (left left' : ℕ) → slice_get p.rows n ≡ Some r → IsPropagated (IsOnly (hint.Row n) (of_row r)) old new left left' → IsPropagated (IsRowNumbered p n) old new left left'
named_by_number p n r old new left left' found made =
    more_names (IsOnly (hint.Row n) (of_row r)) (IsRowNumbered p n) old new left left' (λ h k only. (r, found, only)) made
