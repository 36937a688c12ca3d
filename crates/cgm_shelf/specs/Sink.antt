-- What a write adds to the bytes of a sink, where it tells them, and what causes its faults.
use Rattle.std.specs.Prelude.{◌≡◌, ℕ, ◌<◌, ◌≤◌, List, ◌++◌, length, take, option_map, None, Result, IfOk, OnErr}
use Rattle.std.specs.declared.option.Option.{Option}
use Rattle.cgm_shelf.specs.Faults.{HasCause}

-- what contracts see of a sink: the bytes written so far, where it tells them, and how many writes have failed
pub record SinkState : Type 0 where
  pub written : Option (List ℕ)
  pub faults : ℕ

-- a sink that doesn't tell its bytes, with this count
abbrev pub untold_sink : ℕ → SinkState
untold_sink faults = record { written = None; faults = faults }

-- a sink that tells its bytes goes on telling them, and these were added; one that tells nothing goes on telling nothing
abbrev pub Adds : SinkState → SinkState → List ℕ → Type 0
Adds old new bytes = new.written ≡ option_map (λ before. before ++ bytes) old.written

-- a front of these bytes was added
abbrev pub AddsPart : SinkState → SinkState → List ℕ → Type 0
AddsPart old new bytes = (count : ℕ) × Adds old new (take count bytes)

-- what a write promises: a front of the piece was added, as long as is answered; after a fault the bytes are as before
pub record IsWrite {E : Type 0} (old new : SinkState) (piece : List ℕ)
    (result : Result ℕ E) : Type 0 where
  pub within : IfOk result (λ count. count ≤ length piece)
  pub some : IfOk result (λ count. 0 < length piece → 0 < count)
  pub ok : IfOk result (λ count. Adds old new (take count piece))
  pub err : OnErr result (new.written ≡ old.written)
  pub cause : HasCause old.faults new.faults result
