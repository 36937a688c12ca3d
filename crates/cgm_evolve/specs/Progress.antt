-- What the reader keeps of the lines so far, and what one more line makes of it.
use Rattle.std.specs.Prelude.{◌≡◌, List, [], ◌∷◌, ◌++◌, ℕ, Option, None, Some, if◌then◌else◌}
use Rattle.std.specs.Option.{is_some}
use Rattle.std.specs.Str.{bytes_eq}
use Rattle.cgm_lex.specs.declared.stops.LineFault.{LineFault}
use Rattle.cgm_lex.specs.declared.stops.LineStop.{LineStop}
use Rattle.cgm_lex.specs.Lexemes.{Lexeme}
use Rattle.cgm_lex.specs.Readings.{IsStopBy}
use Rattle.cgm_evolve.specs.declared.draft.EarlierDraft.{EarlierDraft}
use Rattle.cgm_evolve.specs.declared.index.Index.{Index}
use Rattle.cgm_evolve.specs.Index.{Indexes, pair_found}
use Rattle.cgm_evolve.specs.Line.{ArePairFault, SayPair, name_fault}
use Rattle.cgm_evolve.specs.Pairs.{ArePairs, Pair}
use Rattle.cgm_evolve.specs.Text.{pairs_of}

-- the reader has the pairs so far, which are none before the header
pub record IsEarlierDraft (so_far : Option (List Pair)) (draft : EarlierDraft) : Type 0 where
  pub header : draft.has_header ≡ is_some so_far
  pub pairs : draft.pairs.items ≡ pairs_of so_far
  pub index : Indexes (pairs_of so_far) draft.index

-- the pair is added
pub record IsPairPut (p : Pair) (old new : EarlierDraft) : Type 0 where
  pub header : new.has_header ≡ old.has_header
  pub pairs : new.pairs.items ≡ old.pairs.items ++ p ∷ []
  pub index : (q : List ℕ) → pair_found new.index q ≡ (if bytes_eq q p.0 then Some p.1 else pair_found old.index q)

-- the pair that the tokens say is added
pub record IsPairAdded (tokens : List Lexeme) (old new : EarlierDraft) : Type 0 where
  pub pair : Pair
  pub says : SayPair tokens pair
  pub fits : (pairs : List Pair) → Indexes pairs old.index → name_fault pairs pair.0 ≡ None
  pub put : IsPairPut pair old new

-- a stop is what is wrong with the tokens after the pairs so far, or want of memory
abbrev pub IsPairStop : List Lexeme → Index → LineStop → Type 0
IsPairStop tokens index stop = (pairs : List Pair) → Indexes pairs index → IsStopBy (ArePairFault pairs tokens) stop

-- the reader has what `P` makes of the pairs so far
abbrev pub IsPairStep : (Option (List Pair) → Option (List Pair) → Type 0) → EarlierDraft → EarlierDraft → Type 0
IsPairStep P old new = (so_far : Option (List Pair)) → IsEarlierDraft so_far old → (next : Option (List Pair)) × (P so_far next × IsEarlierDraft next new)

abbrev pub IsStopAfter : (Option (List Pair) → LineFault → Type 0) → EarlierDraft → LineStop → Type 0
IsStopAfter P old stop = (so_far : Option (List Pair)) → IsEarlierDraft so_far old → IsStopBy (P so_far) stop

-- the draft has pairs of distinct names
pub record HasDistinctPairs (draft : EarlierDraft) : Type 0 where
  pub so_far : Option (List Pair)
  pub is : IsEarlierDraft so_far draft
  pub proper : ArePairs (pairs_of so_far)
