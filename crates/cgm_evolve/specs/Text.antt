-- The pairs of an earlier text, and the first fault of a text that has none.
use Rattle.std.specs.Prelude.{◌≡◌, ℕ, ◌+◌, List, [], ◌∷◌, ◌++◌, length, map, codes, Bool, true, false, Option, None, Some, Result, Ok, Err}
use Rattle.std.specs.List.{filter, flat_map}
use Rattle.cgm_base.specs.declared.fault.BadKind.TheVariants as kinds
use Rattle.cgm_base.specs.Words.{limit_number}
use Rattle.cgm_base.specs.Printed.{truth_word}
use Rattle.cgm_lex.specs.declared.stops.LineFault.{LineFault}
use Rattle.cgm_lex.specs.declared.stops.LineFault.TheVariants as line_faults
use Rattle.cgm_lex.specs.declared.stops.TextStop.{TextStop}
use Rattle.cgm_lex.specs.declared.stops.TextStop.TheVariants as stops
use Rattle.cgm_lex.specs.Lexemes.{Lexeme, line_lexemes}
use Rattle.cgm_lex.specs.Readings.{TextForm, gives, fails, Comes, lacks_header}
use Rattle.cgm_evolve.specs.Line.{IsFaulty, SayPair, header_tokens, name_fault, pair_tokens}
use Rattle.cgm_evolve.specs.Pairs.{ArePairs, Pair}

abbrev pub has_tokens : List Lexeme → Bool
has_tokens [] = false
has_tokens (token ∷ tokens) = true

-- the pairs so far, which are none before the header
abbrev pub pairs_of : Option (List Pair) → List Pair
pairs_of None = []
pairs_of (Some pairs) = pairs

-- the tokens of the lines that have some: nothing before the header, then those of the header and of each pair
abbrev pub tokens_of : Option (List Pair) → List (List Lexeme)
tokens_of None = []
tokens_of (Some pairs) = header_tokens ∷ map pair_tokens pairs

-- what tokens without a fault make of the pairs so far
abbrev pub Follows : Option (List Pair) → List Lexeme → Option (List Pair) → Type 0
Follows so_far [] next = next ≡ so_far
Follows None (token ∷ tokens) next = (token ∷ tokens ≡ header_tokens) × (next ≡ Some [])
Follows (Some pairs) (token ∷ tokens) next =
    (p : Pair) × (SayPair (token ∷ tokens) p × (name_fault pairs p.0 ≡ None) × (next ≡ Some (pairs ++ p ∷ [])))

-- what a line without a fault makes of the pairs so far
pub record IsPassed (line : List ℕ) (so_far next : Option (List Pair)) : Type 0 where
  pub tokens : List Lexeme
  pub lexed : line_lexemes line ≡ Ok tokens
  pub follows : Follows so_far tokens next

-- what a line comes to after the pairs so far: those with what it says, or what is wrong with it
abbrev pub LineComesTo : Option (List Pair) → ℕ → List ℕ → Result (Option (List Pair)) LineFault → Type 0
LineComesTo so_far line bytes (Ok next) = IsPassed bytes so_far next
LineComesTo so_far line bytes (Err fault) = IsFaulty so_far (line_lexemes bytes) fault

-- the form of earlier texts: pairs, each on a line, after a header
abbrev pub earlier_text : TextForm (Option (List Pair))
earlier_text = record { begins = None; comes = LineComesTo; lacks = lacks_header }

-- the text is one of these pairs, in this order
unfoldable pub IsTextOf : List ℕ → List Pair → Type 0
IsTextOf text pairs = Comes earlier_text text (gives (Some pairs))

-- the text's first faulty line, from 1, and what is wrong with it
unfoldable pub HasFault : List ℕ → ℕ → LineFault → Type 0
HasFault text line fault = Comes earlier_text text (fails line fault)

-- lines without a fault, and the pairs so far that they give
pub record Give (ls : List (List ℕ)) (so_far : Option (List Pair)) : Type 0 where
  pub tokens : List (List Lexeme)
  pub lexed : map line_lexemes ls ≡ map (λ ts. Ok ts) tokens
  pub said : filter has_tokens tokens ≡ tokens_of so_far
  pub proper : ArePairs (pairs_of so_far)

-- the line with this number, from 1, has this fault, and the lines before it have none
pub record IsFirstFaulty (ls : List (List ℕ)) (line : ℕ) (fault : LineFault) : Type 0 where
  pub front : List (List ℕ)
  pub bytes : List ℕ
  pub rest : List (List ℕ)
  pub split : ls ≡ front ++ bytes ∷ rest
  pub number : line ≡ length front + 1
  pub so_far : Option (List Pair)
  pub given : Give front so_far
  pub faulty : IsFaulty so_far (line_lexemes bytes) fault

-- no line has a token, which is a fault of line 1
pub record HasNoHeader (ls : List (List ℕ)) (line : ℕ) (fault : LineFault) : Type 0 where
  pub given : Give ls None
  pub first : line ≡ 1
  pub header : fault ≡ line_faults.Bad kinds.Header

-- why a text isn't read: its first fault, or want of memory
abbrev pub IsNotRead : List ℕ → TextStop → Type 0
IsNotRead text (stops.Bad line kind) = HasFault text line (line_faults.Bad kind)
IsNotRead text (stops.Limit limit) = HasFault text limit.line (line_faults.Limit limit.which) × (limit.number ≡ limit_number limit.which)
IsNotRead text stops.Memory = Unit {0}

-- the line of a pair, with its line feed
abbrev pub pair_line : Pair → List ℕ
pair_line p = p.0 ++ (codes " " ++ (truth_word p.1 ++ 10 ∷ []))

-- the canonical text of pairs
unfoldable pub canonical_text : List Pair → List ℕ
canonical_text pairs = codes "earlier 1" ++ 10 ∷ flat_map pair_line pairs
