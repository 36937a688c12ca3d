-- What a path keeps, after each of its changes.
use Rattle.std.proofs.Common.{◌≡◌, ℕ, ◌+◌, ◌<◌, Bool, true, false, not, List, [], ◌∷◌, ◌++◌, length, get_or, take, refl, sym, ap, ◌∙◌, arith}
use Rattle.std.specs.Prelude.{if◌then◌else◌}
use Rattle.cgm_atom.specs.declared.constraints.Atom.{Atom}
use Rattle.cgm_atom.specs.Bounds.{Bounds}
use Rattle.cgm_atom.specs.Narrowing.{is_false_in, made_true}
use Rattle.cgm_trail.specs.declared.changes.Change.{Change}
use Rattle.cgm_trail.specs.declared.changes.Reason.{Reason}
use Rattle.cgm_trail.specs.PathParts.{IsLed}
use Rattle.cgm_trail.specs.TrailState.{AreChanges, IsOpenIn, box_after, change_of, cut_to, decision_places, is_decision_reason}
use Rattle.cgm_trail.proofs.Cuts.{cut_place, cut_places, cut_short, cut_taken, places-decided, places-tightened}
use Rattle.cgm_trail.proofs.Replaying.{AreChanges-append, AreChanges-take, box_after-append}

made_by_answer : (old new : Bounds) (a : Atom) (answer false_in : Bool) → false_in ≡ false → answer ≡ not false_in → new ≡ (if answer then made_true old a else old) → new ≡ made_true old a
made_by_answer old new a answer true f g e = absurd (cc)
made_by_answer old new a true false f g e = e
made_by_answer old new a false false f g e = absurd (cc)

-- what assuming an open atom leaves
pub made_when_open : (old new : Bounds) (a : Atom) (answer : Bool) → IsOpenIn old a → answer ≡ not (is_false_in old a) → new ≡ (if answer then made_true old a else old) → new ≡ made_true old a
made_when_open old new a answer h g e = made_by_answer old new a answer (is_false_in old a) h.not_false g e

-- ---- one change more

grown_changes : (limits : Bounds) (changes : List Change) (a : Atom) (reason : Reason) → AreChanges limits changes → IsOpenIn (box_after limits changes) a → AreChanges limits (changes ++ change_of (box_after limits changes) a reason ∷ [])
grown_changes limits changes a reason h open' =
    AreChanges-append limits changes (change_of (box_after limits changes) a reason ∷ []) h (record { undecided = open'; before = refl }, tt)

pub led_tightened : (limits state new : Bounds) (changes changes' : List Change) (starts : List ℕ) (a : Atom) (reason : Reason) → is_decision_reason reason ≡ false → IsLed limits state changes starts → IsOpenIn (box_after limits changes) a → changes' ≡ changes ++ change_of state a reason ∷ [] → new ≡ made_true state a → IsLed limits new changes' starts
led_tightened limits state new changes changes' starts a reason e h open' es en =
    rw (es, en, h.leads)
    (record {
      made = grown_changes limits changes a reason h.made open';
      leads = sym (box_after-append limits changes (change_of (box_after limits changes) a reason ∷ []));
      opened = h.opened ∙ sym (places-tightened 0 changes (change_of (box_after limits changes) a reason) e);
    })

pub led_decided : (limits state new : Bounds) (changes changes' : List Change) (starts starts' : List ℕ) (a : Atom) (reason : Reason) → is_decision_reason reason ≡ true → IsLed limits state changes starts → IsOpenIn (box_after limits changes) a → changes' ≡ changes ++ change_of state a reason ∷ [] → new ≡ made_true state a → starts' ≡ starts ++ length changes ∷ [] → IsLed limits new changes' starts'
led_decided limits state new changes changes' starts starts' a reason e h open' es en ep =
    rw (es, en, ep, h.leads)
    (record {
      made = grown_changes limits changes a reason h.made open';
      leads = sym (box_after-append limits changes (change_of (box_after limits changes) a reason ∷ []));
      opened =
          let n : length changes ≡ 0 + length changes = omega arith in
          ap (λ ns. ns ++ length changes ∷ []) h.opened ∙ ap (λ n. decision_places 0 changes ++ n ∷ []) n ∙ sym (places-decided 0 changes (change_of (box_after limits changes) a reason) e);
    })

-- ---- cuts

-- where the changes of the levels after this one begin
pub record IsFrom (changes : List Change) (level from : ℕ) : Type 0 where
  pub short : from < length changes
  pub kept : take from changes ≡ cut_to level changes

pub from_is : (limits state : Bounds) (changes : List Change) (starts : List ℕ) (level from d : ℕ) → IsLed limits state changes starts → level < length starts → from ≡ get_or starts level d → IsFrom changes level from
from_is limits state changes starts level from d h k e =
    let known : level < length (decision_places 0 changes) = rw (← h.opened) k in
    let place : get_or (decision_places 0 changes) level d ≡ 0 + length (cut_to level changes) = cut_place 0 level d changes known in
    let same : get_or starts level d ≡ get_or (decision_places 0 changes) level d = ap (λ ns. get_or ns level d) h.opened in
    let n : from ≡ length (cut_to level changes) = omega (arith, e, same, place) in
    rw n (record { short = cut_short 0 level changes known; kept = sym (cut_taken level changes) })

pub led_cut : (limits state new : Bounds) (changes changes' : List Change) (starts starts' : List ℕ) (level from : ℕ) → IsLed limits state changes starts → IsFrom changes level from → new ≡ box_after limits (take from changes) → changes' ≡ take from changes → starts' ≡ take level starts → IsLed limits new changes' starts'
led_cut limits state new changes changes' starts starts' level from h f en es ep =
    record {
      made = rw es (AreChanges-take limits from changes h.made);
      leads = en ∙ ap (box_after limits) (sym es);
      opened = ep ∙ ap (take level) h.opened ∙ sym (cut_places 0 level changes) ∙ ap (decision_places 0) (sym (es ∙ f.kept));
    }

-- ---- jumps

-- what a jump puts in the place of the next level's decision, and what its box is
pub record IsJump (limits : Bounds) (changes : List Change) (level : ℕ) (a : Atom) (reason : Reason) (mid : Bounds) (changes' : List Change) : Type 0 where
  pub box_is : mid ≡ box_after limits (cut_to level changes)
  pub changes_are : changes' ≡ cut_to level changes ++ change_of (box_after limits (cut_to level changes)) a reason ∷ []

pub jump_is : (limits mid : Bounds) (changes changes' : List Change) (level from : ℕ) (a : Atom) (reason : Reason) (change : Change) → IsFrom changes level from → mid ≡ box_after limits (take from changes) → change ≡ change_of mid a reason → changes' ≡ take from changes ++ change ∷ [] → IsJump limits changes level a reason mid changes'
jump_is limits mid changes changes' level from a reason change f em ec es =
    let box : mid ≡ box_after limits (cut_to level changes) = em ∙ ap (box_after limits) f.kept in
    record { box_is = box; changes_are = es ∙ rw (f.kept, ec, box) refl }

pub led_jumped : (limits state mid new : Bounds) (changes changes' : List Change) (starts starts' : List ℕ) (level : ℕ) (a : Atom) (reason : Reason) (answer : Bool) → is_decision_reason reason ≡ false → IsLed limits state changes starts → IsJump limits changes level a reason mid changes' → IsOpenIn (box_after limits (cut_to level changes)) a → starts' ≡ take level starts → answer ≡ not (is_false_in mid a) → new ≡ (if answer then made_true mid a else mid) → IsLed limits new changes' starts'
led_jumped limits state mid new changes changes' starts starts' level a reason answer e h j undecided ep g en =
    led_tightened limits (box_after limits (cut_to level changes)) new (cut_to level changes) changes' starts' a reason e
    (record {
      made = rw (cut_taken level changes) (AreChanges-take limits (length (cut_to level changes)) changes h.made);
      leads = refl;
      opened = ep ∙ ap (take level) h.opened ∙ sym (cut_places 0 level changes);
    })
    undecided j.changes_are
    (made_when_open (box_after limits (cut_to level changes)) new a answer undecided (rw j.box_is at g) (rw j.box_is at en))
