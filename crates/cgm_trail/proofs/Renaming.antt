-- Landing renames reasons: decisions stay decisions, and the box and the bounds before the changes stay.
use Rattle.std.proofs.Common.{◌-◌, arith, ap, ◌≡◌, ℕ, ◌+◌, List, [], ◌∷◌, ◌<◌, ◌++◌, length, get_or, set, take, drop, refl, map}
use Rattle.std.proofs.lemmas.List.{get_or_default}
use Rattle.std.proofs.lemmas.List.Edits.{map_over_more}
use Rattle.cgm_atom.specs.declared.entries.Hint.{Hint}
use Rattle.cgm_atom.specs.declared.entries.Hint.TheVariants as hint
use Rattle.cgm_atom.specs.Bounds.{Bounds}
use Rattle.cgm_atom.specs.Narrowing.{made_true}
use Rattle.cgm_atom.specs.Placing.{placed}
use Rattle.cgm_trail.specs.declared.changes.Change.{Change}
use Rattle.cgm_trail.specs.declared.changes.Reason.{Reason}
use Rattle.cgm_trail.specs.declared.changes.Reason.TheVariants.{Decision, By}
use Rattle.cgm_trail.specs.Landing.{hint_landed, landed_change, landed_reason}
use Rattle.cgm_trail.specs.PathParts.{IsLed}
use Rattle.cgm_trail.specs.Rank.{letters, rank}
use Rattle.cgm_trail.specs.TrailState.{AreChanges, box_after, decision_places, is_decision_reason}

decision_landed : (first : ℕ) (r : Reason) → is_decision_reason (landed_reason first r) ≡ is_decision_reason r
decision_landed first Decision = refl
decision_landed first (By h) = refl

pub box_landed : (first : ℕ) (b : Bounds) (changes : List Change) → box_after b (map (landed_change first) changes) ≡ box_after b changes
box_landed first b [] = refl
box_landed first b (c ∷ changes) = box_landed first (made_true b c.atom) changes

pub changes_landed : (first : ℕ) (b : Bounds) (changes : List Change) → AreChanges b changes → AreChanges b (map (landed_change first) changes)
changes_landed first b [] h = tt
changes_landed first b (c ∷ changes) h =
    (record { undecided = h.0.undecided; before = h.0.before }, changes_landed first (made_true b c.atom) changes h.1)

pub places_landed : (first at : ℕ) (changes : List Change) → decision_places at (map (landed_change first) changes) ≡ decision_places at changes
places_landed first at [] = refl
places_landed first at (c ∷ changes) = rw (decision_landed first c.reason, places_landed first (at + 1) changes) refl

pub led_landed : (first : ℕ) (limits state : Bounds) (changes changes' : List Change) (starts : List ℕ) → IsLed limits state changes starts → changes' ≡ map (landed_change first) changes → IsLed limits state changes' starts
led_landed first limits state changes changes' starts h e =
    rw e
    (record {
      made = changes_landed first limits changes h.made;
      leads = rw box_landed h.leads;
      opened = rw places_landed h.opened;
    })

-- one change more is renamed, in place
pub land_more : (first : ℕ) (xs ys : List Change) (i : ℕ) (d r : Change) → i < length xs → i < length ys → ys ≡ map (landed_change first) (take i xs) ++ drop i xs → r ≡ landed_change first (get_or ys i d) → set ys i r ≡ map (landed_change first) (take (i + 1) xs) ++ drop (i + 1) xs
land_more first xs ys i d r h k e f =
    rw f (map_over_more (landed_change first) xs ys i (get_or ys i d) h e (get_or_default ys i d (get_or ys i d) k))

letters_landed : (first : ℕ) (changes : List Change) → letters (map (landed_change first) changes) ≡ letters changes
letters_landed first [] = refl
letters_landed first (c ∷ changes) = rw (decision_landed first c.reason, letters_landed first changes) refl

pub rank_landed : (first : ℕ) (b : Bounds) (changes : List Change) → rank b (map (landed_change first) changes) ≡ rank b changes
unfolding rank
rank_landed first b changes = rw letters_landed refl

-- a landed hint is the hint placed after the entries before the first of the lemmas
pub landed_is_placed : (n : ℕ) (h : Hint) → hint_landed (n + 1) h ≡ placed n h
landed_is_placed n (hint.Clause number) = refl
landed_is_placed n (hint.Row number) = refl
landed_is_placed n (hint.Entry place) = refl
landed_is_placed n (hint.Own i) =
    let place : n + 1 + i - 1 ≡ n + i = omega arith in
    ap (λ p. hint.Entry p) place
landed_is_placed n (hint.Cut best part) = refl
