-- What a round of propagation by named clauses answers.
use Rattle.std.specs.Prelude.{◌≡◌, ℕ, ◌<◌, List, Result, Ok, Err}
use Rattle.std.specs.List.{All, Contains}
use Rattle.cgm_atom.specs.Bounds.{Bounds}
use Rattle.cgm_trail.specs.declared.changes.Swept.{Swept}
use Rattle.cgm_trail.specs.declared.changes.Swept.TheVariants as swept
use Rattle.cgm_clauses.specs.declared.named.Named.{Named}
use Rattle.cgm_clauses.specs.Standing.{IsFalseIn, IsQuietIn, IsUnitIn}

-- no clause is false or unit
abbrev pub AreQuiet : Bounds → List Named → Type 0
AreQuiet b clauses = All (λ n. IsQuietIn b n.clause) clauses

-- at a conflict the hint names a clause that is false, and where `left` is spent, a clause is unit;
-- memory is wanted only where a clause is unit and something is left
abbrev pub IsSweepStop : {E : Type 0} → Type 0 → Bounds → List Named → ℕ → Result Swept E → Type 0
IsSweepStop quiet b clauses left (Ok swept.Quiet) = quiet
IsSweepStop quiet b clauses left (Ok (swept.Conflict h)) = (n : Named) × Contains clauses n × (h ≡ n.name) × IsFalseIn b n.clause
IsSweepStop quiet b clauses left (Ok swept.Spent) = (left ≡ 0) × ((n : Named) × Contains clauses n × IsUnitIn b n.clause)
IsSweepStop quiet b clauses left (Err e) = (0 < left) × ((n : Named) × Contains clauses n × IsUnitIn b n.clause)

-- the box and `left` are those at the end
abbrev pub IsSwept : {E : Type 0} → Bounds → List Named → ℕ → Result Swept E → Type 0
IsSwept b clauses left result = IsSweepStop (AreQuiet b clauses) b clauses left result

-- one look at each clause: they are quiet where nothing was made
abbrev pub IsOneSweep : {E : Type 0} → Bounds → List Named → ℕ → ℕ → Result Swept E → Type 0
IsOneSweep b clauses left left' result = IsSweepStop (left' ≡ left → AreQuiet b clauses) b clauses left' result
