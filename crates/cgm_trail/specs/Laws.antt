-- Laws over the definitions: the levels of a trail are its changes, moves raise the rank, and few restarts leave few moves.
use Rattle.std.specs.Prelude.{◌≡◌, ℕ, ◌+◌, ◌*◌, ◌^◌, ◌<◌, ◌≤◌, List, length, take}
use Rattle.std.specs.List.{flat_map}
use Rattle.cgm_atom.specs.declared.constraints.Atom.{Atom}
use Rattle.cgm_atom.specs.declared.entries.Hint.{Hint}
use Rattle.cgm_atom.specs.Placing.{placed}
use Rattle.cgm_trail.specs.declared.changes.Change.{Change}
use Rattle.cgm_trail.specs.Landing.{hint_landed}
use Rattle.cgm_trail.specs.Rank.{IsTrail, rank_of, slack}
use Rattle.cgm_trail.specs.TrailState.{TrailState, cut_to, decided, jumped, level_of, levels_of, tightened}

-- the changes of the levels, one level after another
abbrev pub levels_joined : List (List Change) → List Change
levels_joined levels = flat_map (λ level. level) levels

abbrev pub LevelsAreChanges : Type 0
LevelsAreChanges = (changes : List Change) → levels_joined (levels_of changes) ≡ changes

abbrev pub LevelsAreCounted : Type 0
LevelsAreCounted = (changes : List Change) → length (levels_of changes) ≡ level_of changes + 1

-- level 0 is one of them
abbrev pub CutsKeepLevels : Type 0
CutsKeepLevels =
    (level : ℕ) (changes : List Change) → cut_to level changes ≡ levels_joined (take (level + 1) (levels_of changes))

abbrev pub MovesRaiseRank : Type 0
MovesRaiseRank =
    (t : TrailState) (a : Atom) (by : Hint)
    → IsTrail t
    → (rank_of t < rank_of (tightened t a by))
    × (rank_of t < rank_of (decided t a))
    × ((level : ℕ) → level < level_of t.changes → rank_of t < rank_of (jumped t level a by))

abbrev pub RankIsBounded : Type 0
RankIsBounded = (t : TrailState) → IsTrail t → rank_of t + 2 ≤ 2 ^ (slack t.problem.bounds + 1)

abbrev pub MovesAreFew : Type 0
MovesAreFew =
    (t : TrailState) (restarts : ℕ)
    → IsTrail t
    → t.restarts ≤ restarts
    → t.moves < (restarts + 1) * 2 ^ (slack t.problem.bounds + 1)

-- where n entries stand before the first of the lemmas, landing gives them the places that they have as pending lemmas
abbrev pub LandedHintsArePlaced : Type 0
LandedHintsArePlaced = (n : ℕ) (h : Hint) → hint_landed (n + 1) h ≡ placed n h
