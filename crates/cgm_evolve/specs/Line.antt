-- What a line of an earlier text says, and its fault; the tests stand in the order in which the first that fails is told.
use Rattle.std.specs.Prelude.{◌≡◌, ◌≢◌, ℕ, ◌⊎◌, pos, nat_lt, IsTrue, List, [], ◌∷◌, length, codes, Option, None, Some, Result, Ok, Err, if◌then◌else◌}
use Rattle.std.specs.Option.{is_some}
use Rattle.cgm_base.specs.declared.fault.BadKind.TheVariants as kinds
use Rattle.cgm_base.specs.declared.limit.Which.TheVariants as limits
use Rattle.cgm_base.specs.Words.{limit_number}
use Rattle.cgm_base.specs.Printed.{truth_word}
use Rattle.cgm_lex.specs.declared.token.Flaw.{Flaw}
use Rattle.cgm_lex.specs.Lexemes.{Lexeme, number, word}
use Rattle.cgm_lex.specs.Names.{is_spelled}
use Rattle.cgm_lex.specs.Readings.{flaw_kind}
use Rattle.cgm_lex.specs.declared.stops.LineFault.{LineFault}
use Rattle.cgm_lex.specs.declared.stops.LineFault.TheVariants as line_faults
use Rattle.cgm_evolve.specs.Pairs.{Pair, truth_in}

-- the first line with tokens
abbrev pub header_tokens : List Lexeme
header_tokens = word (codes "earlier") ∷ number (pos 1) ∷ []

-- each later line with tokens
abbrev pub pair_tokens : Pair → List Lexeme
pair_tokens p = word p.0 ∷ word (truth_word p.1) ∷ []

-- the tokens are a word that is spelled as a name, and its truth
abbrev pub SayPair : List Lexeme → Pair → Type 0
SayPair tokens p = (tokens ≡ pair_tokens p) × IsTrue (is_spelled p.0)

-- what is wrong with a name after these pairs: it is too long, or is one of theirs
abbrev pub name_fault : List Pair → List ℕ → Option LineFault
name_fault pairs name =
    if nat_lt (limit_number limits.NameBytes) (length name) then Some (line_faults.Limit limits.NameBytes)
    else if is_some (truth_in pairs name) then Some (line_faults.Bad kinds.DoubleName)
    else None

-- what is wrong with tokens after these pairs: they say no pair, or a pair with a faulty name
abbrev pub ArePairFault : List Pair → List Lexeme → LineFault → Type 0
ArePairFault pairs tokens fault =
    (((p : Pair) → ¬ SayPair tokens p) × (fault ≡ line_faults.Bad kinds.Form))
    ⊎ ((p : Pair) × (SayPair tokens p × (name_fault pairs p.0 ≡ Some fault)))

-- what is wrong with tokens after the pairs so far, which are none before the header
abbrev pub AreFaulty : Option (List Pair) → List Lexeme → LineFault → Type 0
AreFaulty so_far [] fault = ⊥
AreFaulty None (token ∷ tokens) fault = (token ∷ tokens ≢ header_tokens) × (fault ≡ line_faults.Bad kinds.Header)
AreFaulty (Some pairs) (token ∷ tokens) fault = ArePairFault pairs (token ∷ tokens) fault

-- what is wrong with a line after the pairs so far
abbrev pub IsFaulty : Option (List Pair) → Result (List Lexeme) Flaw → LineFault → Type 0
IsFaulty so_far (Err flaw) fault = fault ≡ line_faults.Bad (flaw_kind flaw)
IsFaulty so_far (Ok tokens) fault = AreFaulty so_far tokens fault
