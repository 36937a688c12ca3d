-- Boxes before later levels.
use Rattle.std.proofs.Common.{◌≡◌, ℕ, ◌+◌, ◌<◌, ◌≤◌, List, [], ◌∷◌, length, get_or, take, refl, sym, ◌∙◌, arith}
use Rattle.cgm_atom.specs.Bounds.{Bounds}
use Rattle.cgm_atom.specs.Narrowing.{made_true}
use Rattle.cgm_atom.proofs.Shrinking.{made_true_shrinks}
use Rattle.cgm_trail.specs.declared.changes.Change.{Change}
use Rattle.cgm_trail.specs.TrailState.{box_after, cut_to, decision_places, level_of, level_start}
use Rattle.cgm_trail.proofs.Cuts.{cut_place, cut_short, cut_taken, length-places, start_later}

pub box_after-count : (b : Bounds) (changes : List Change) → length (box_after b changes).lower ≡ length b.lower
box_after-count b [] = refl
box_after-count b (c ∷ changes) = box_after-count (made_true b c.atom) changes ∙ (made_true_shrinks b c.atom).lower_count

-- where the changes of the levels after this one begin
pub record IsPlace (changes : List Change) (level from : ℕ) : Type 0 where
  pub within : from ≤ length changes
  pub kept : take from changes ≡ cut_to level changes

pub next_place : (level from : ℕ) (changes : List Change) → level < level_of changes → from ≡ level_start (level + 1) changes → IsPlace changes level from
next_place level from changes h e =
    let known : level < length (decision_places 0 changes) = omega (arith, h, length-places 0 changes) in
    let start : get_or (decision_places 0 changes) level 0 ≡ level_start (level + 1) changes = start_later (level + 1) level changes (omega arith) (omega arith) in
    let place : get_or (decision_places 0 changes) level 0 ≡ 0 + length (cut_to level changes) = cut_place 0 level 0 changes known in
    let n : from ≡ length (cut_to level changes) = omega (arith, e, start, place) in
    let short : length (cut_to level changes) < length changes = cut_short 0 level changes known in
    rw n (record { within = omega arith; kept = sym (cut_taken level changes) })
