-- What words give to the names of a command, by what its parse answers.
use Rattle.std.proofs.Common.{◌≡◌, ◌≢◌, ◌⊎◌, ◌∙◌, ◌&&◌, Bool, true, false, List, [], ◌∷◌, Some, None, refl, ap, inl, inr, length, arith}
use Rattle.clap.specs.declared.error.kind.ErrorKind.{ErrorKind}
use Rattle.clap.specs.declared.error.kind.ErrorKind.TheVariants as kinds
use Rattle.clap.specs.Faults.{fault_of, is_simple_and_free}
use Rattle.clap.specs.Kinds.{Kinds, IsAmong}
use Rattle.clap.specs.Simple.{App, is_simple, matches_of}
use Rattle.clap.specs.Walk.{Row, Text}
use Rattle.cgm_cli.specs.CommandLine.{given, unless_faulty}

left_holds : (p q : Bool) → (p && q) ≡ true → p ≡ true
left_holds true q e = refl
left_holds false q e = e

pub simple : (a : App) → is_simple_and_free a ≡ true → is_simple a ≡ true
simple a e = left_holds (is_simple a) _ e

some_without_fault : (faults : Kinds) (rows : List Row) → faults ≡ [] → Some rows ≡ unless_faulty faults rows
some_without_fault [] rows e = refl
some_without_fault (k ∷ faults) rows e = let many : length (k ∷ faults) ≡ 0 = ap length e in absurd (omega (arith, many))

none_at_fault : (faults : Kinds) (rows : List Row) (k : ErrorKind) → IsAmong k faults → None ≡ unless_faulty faults rows
none_at_fault [] rows k among = elim among [ ]
none_at_fault (x ∷ faults) rows k among = refl

pub taken : (a : App) (words : List Text) (rows : List Row) → fault_of a words ≡ [] → rows ≡ matches_of a words → Some rows ≡ given a words
unfolding given
taken a words rows none are = ap Some are ∙ some_without_fault (fault_of a words) (matches_of a words) none

pub refused : (a : App) (words : List Text) (k : ErrorKind) → k ≢ kinds.OutOfMemory → (k ≡ kinds.OutOfMemory) ⊎ IsAmong k (fault_of a words) → None ≡ given a words
unfolding given
refused a words k other (inl memory) = elim (other memory) [ ]
refused a words k other (inr among) = none_at_fault (fault_of a words) (matches_of a words) k among
