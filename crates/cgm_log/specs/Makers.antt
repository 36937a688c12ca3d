-- The worker that made an entry.
use Rattle.std.specs.Prelude.{◌≡◌, ℕ, List}
use Rattle.std.specs.List.{All}
use Rattle.cgm_atom.specs.declared.entries.Entry.{Entry}
use Rattle.cgm_atom.specs.declared.entries.Entry.TheVariants.{Best, Lemma}

-- the worker that made an entry
abbrev pub maker : Entry → ℕ
maker (Best by values) = by
maker (Lemma by clause hints bound) = by

-- worker w made each of them
unfoldable pub AreMadeBy : ℕ → List Entry → Type 0
AreMadeBy w entries = All (λ e. maker e ≡ w) entries
