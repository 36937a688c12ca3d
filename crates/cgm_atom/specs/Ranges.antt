-- Entries that a certificate can write: the worker and the numbers are within the ranges of its text, and no hint is to a lemma that has no place yet.
use Rattle.std.specs.Prelude.{ℕ, ◌^◌, ◌<◌, ◌≤◌, unsigned_abs}
use Rattle.std.specs.List.{All}
use Rattle.cgm_atom.specs.declared.constraints.Atom.{Atom}
use Rattle.cgm_atom.specs.declared.entries.Entry.{Entry}
use Rattle.cgm_atom.specs.declared.entries.Entry.TheVariants.{Best, Lemma}
use Rattle.cgm_atom.specs.declared.entries.Hint.{Hint}
use Rattle.cgm_atom.specs.declared.entries.Hint.TheVariants as hint
use Rattle.cgm_atom.specs.Limits.{IsBound, max_atom_number, max_workers}

-- the number of a variable, a clause, a row or a part
abbrev pub IsNumber : ℕ → Type 0
IsNumber n = n < 2 ^ 32

-- the place of an entry, the ordinal of a best, or a bound
abbrev pub IsLongNumber : ℕ → Type 0
IsLongNumber n = n < 2 ^ 64

abbrev pub IsAtomInRange : Atom → Type 0
IsAtomInRange a = IsNumber a.var.0 × (unsigned_abs a.k ≤ max_atom_number)

abbrev pub IsHintInRange : Hint → Type 0
IsHintInRange (hint.Clause n) = IsNumber n
IsHintInRange (hint.Row n) = IsNumber n
IsHintInRange (hint.Entry place) = IsLongNumber place
IsHintInRange (hint.Own place) = IsNumber place
IsHintInRange (hint.Cut ordinal part) = IsLongNumber ordinal × IsNumber part

abbrev pub IsInRange : Entry → Type 0
IsInRange (Best by values) = (by < max_workers) × All IsBound values
IsInRange (Lemma by clause hints bound) =
    (by < max_workers) × All IsAtomInRange clause.atoms × All IsHintInRange hints × IsLongNumber bound

-- the hint is none to a lemma that has no place yet
abbrev pub IsPlaced : Hint → Type 0
IsPlaced (hint.Clause n) = Unit {0}
IsPlaced (hint.Row n) = Unit {0}
IsPlaced (hint.Entry place) = Unit {0}
IsPlaced (hint.Own place) = ⊥
IsPlaced (hint.Cut ordinal part) = Unit {0}

abbrev pub HintsArePlaced : Entry → Type 0
HintsArePlaced (Best by values) = Unit {0}
HintsArePlaced (Lemma by clause hints bound) = All IsPlaced hints

abbrev pub IsPrintable : Entry → Type 0
IsPrintable e = IsInRange e × HintsArePlaced e
