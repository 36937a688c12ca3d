-- A learned lemma that can be traded, and what it gives once it was: the log is closed, or the lemma is its last entry.
use Rattle.std.specs.Prelude.{◌≡◌, ◌⊎◌, [], length}
use Rattle.std.specs.List.{All}
use Rattle.cgm_atom.specs.declared.constraints.Clause.{Clause}
use Rattle.cgm_atom.specs.declared.entries.Hint.TheVariants as hint
use Rattle.cgm_atom.specs.Acceptance.{IsClosed}
use Rattle.cgm_atom.specs.Constraints.{of_clause}
use Rattle.cgm_atom.specs.declared.constraints.Atom.{Atom}
use Rattle.cgm_atom.specs.Bounds.{Bounds}
use Rattle.cgm_learn.specs.declared.learned.Learned.{Learned}
use Rattle.cgm_learn.specs.Learning.{IsAcceptedLemma, IsKnownHint, IsLemmaInRange}
use Rattle.cgm_trail.specs.Steps.{IsGiven}
use Rattle.cgm_search.specs.declared.knowledge.Known.{Known}
use Rattle.cgm_search.specs.Knowing.{seen, seen_state}
use Rattle.cgm_search.specs.Storing.{IsSeenName}

-- it is accepted after what was seen, its hints name nothing else, and its numbers are in the ranges of a certificate
pub record IsTradable (k : Known) (l : Learned) : Type 0 where
  pub accepted : IsAcceptedLemma k.problem (seen_state k) [] l
  pub hints : All (IsKnownHint (length (seen k)) 0) l.hints
  pub range : IsLemmaInRange l

-- the lemma without atoms closes the log; after another one it may be closed too, or its last entry is this lemma
pub record IsTaken (k : Known) (c : Clause) : Type 0 where
  pub closing : c.atoms ≡ [] → IsClosed (seen k)
  pub placed :
      IsClosed (seen k) ⊎ IsSeenName k.problem (seen_state k) (hint.Entry (length (seen k))) (of_clause c)

-- the last entry that was seen is a lemma that gives the atom
abbrev pub IsGivenByLast : Known → Bounds → Atom → Type 0
IsGivenByLast k b a =
    (c : Clause)
    × IsSeenName k.problem (seen_state k) (hint.Entry (length (seen k))) (of_clause c)
    × IsGiven b (of_clause c) a
