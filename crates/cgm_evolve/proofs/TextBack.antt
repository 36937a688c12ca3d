-- The canonical text of pairs is a text of these pairs.
use Rattle.std.proofs.Common.{◌≡◌, ◌≢◌, ℕ, ◌+◌, ◌++◌, ◌==◌, Bool, true, false, List, [], ◌∷◌, get_or, codes, All, None, Some, Ok, refl, sym, ap, ◌∙◌, subst, arith, append_assoc, append-nil}
use Rattle.std.specs.List.{flat_map}
use Rattle.std.specs.Fmt.{digits}
use Rattle.std.proofs.lemmas.Bool.{ne_eqb}
use Rattle.std.proofs.lemmas.List.Elements.{All-from_recursion}
use Rattle.std.proofs.lemmas.List.Splits.{slice_split_at}
use Rattle.cgm_base.specs.Printed.{truth_word}
use Rattle.cgm_lex.specs.Lexemes.{Lexeme, word}
use Rattle.cgm_lex.specs.Lines.{lines}
use Rattle.cgm_lex.specs.Readings.{Lead, gives}
use Rattle.cgm_lex.specs.Spelling.{IsPlain, spelled_line}
use Rattle.cgm_lex.proofs.Printing.{line_is_read, line_has_no_feed}
use Rattle.cgm_lex.proofs.Spelled.{spelled_plain}
use Rattle.cgm_evolve.specs.Line.{header_tokens, pair_tokens}
use Rattle.cgm_evolve.specs.Pairs.{ArePairs, Pair}
use Rattle.cgm_evolve.specs.Text.{IsPassed, IsTextOf, canonical_text, earlier_text, pair_line}
use Rattle.cgm_evolve.proofs.Pushing.{proper_here}

no_feed_test : (bs : List ℕ) → All (λ byte. byte ≢ 10) bs → All (λ byte. (byte == 10) ≡ false) bs
no_feed_test bs h = λ k d l. ne_eqb (get_or bs k d) 10 (h k d l)

line_first : (ts : List Lexeme) (rest : List ℕ) → All IsPlain ts → lines (spelled_line ts ++ 10 ∷ rest) ≡ spelled_line ts ∷ lines rest
line_first ts rest plain =
    slice_split_at (λ byte. byte == 10) (spelled_line ts) 10 rest (no_feed_test (spelled_line ts) (line_has_no_feed ts plain)) refl

header_plain : All IsPlain header_tokens
header_plain = All-from_recursion IsPlain header_tokens ((omega arith, (refl, refl)), (record { sfits = omega arith }, tt))

truth_plain : (truth : Bool) → IsPlain (word (truth_word truth))
truth_plain true = (omega arith, (refl, refl))
truth_plain false = (omega arith, (refl, refl))

pair_plain : (p : Pair) → IsPlain (word p.0) → All IsPlain (pair_tokens p)
pair_plain p name = All-from_recursion IsPlain (pair_tokens p) (name, (truth_plain p.1, tt))

pair_line_is : (p : Pair) (rest : List ℕ) → pair_line p ++ rest ≡ spelled_line (pair_tokens p) ++ 10 ∷ rest
pair_line_is p rest = simp append_assoc

first_line : (p : Pair) (rest : List ℕ) → IsPlain (word p.0) → lines (pair_line p ++ rest) ≡ spelled_line (pair_tokens p) ∷ lines rest
first_line p rest name = ap lines (pair_line_is p rest) ∙ line_first (pair_tokens p) rest (pair_plain p name)

lead_pairs : (pairs ps : List Pair) (line : ℕ) → ArePairs (ps ++ pairs) → Lead earlier_text (Some ps) line (lines (flat_map pair_line pairs)) (gives (Some (ps ++ pairs)))
lead_pairs [] ps line are =
    let passed : IsPassed [] (Some ps) (Some ps) = record { tokens = []; lexed = refl; follows = refl } in
    (Ok (Some ps), (passed, ap (λ (qs : List Pair). gives (Some qs)) (append-nil ps)))
lead_pairs (p ∷ pairs) ps line are =
    let fine = proper_here ps pairs p are in
    let name = spelled_plain p.0 fine.0 in
    let bytes = spelled_line (pair_tokens p) in
    let next = ps ++ p ∷ [] in
    let passed : IsPassed bytes (Some ps) (Some next) = record { tokens = pair_tokens p; lexed = line_is_read (pair_tokens p) (pair_plain p name); follows = (p, ((refl, fine.0), fine.1, refl)) } in
    let all = append_assoc ps (p ∷ []) pairs in
    let rest = lines (flat_map pair_line pairs) in
    let later = lead_pairs pairs next (line + 1) (subst ArePairs (sym all) are) in
    let later_here : Lead earlier_text (Some next) (line + 1) rest (gives (Some (ps ++ p ∷ pairs))) =
    subst (λ (qs : List Pair). Lead earlier_text (Some next) (line + 1) rest (gives (Some qs))) all later in
    subst (λ (ls : List (List ℕ)). Lead earlier_text (Some ps) line ls (gives (Some (ps ++ p ∷ pairs)))) (sym (first_line p (flat_map pair_line pairs) name)) (Ok (Some next), (passed, later_here))

header_line : spelled_line header_tokens ≡ codes "earlier 1"
unfolding digits
header_line = refl

pub text_back : (pairs : List Pair) → ArePairs pairs → IsTextOf (canonical_text pairs) pairs
unfolding IsTextOf canonical_text
text_back pairs are =
    let bytes = spelled_line header_tokens in
    let rest = flat_map pair_line pairs in
    let begun : IsPassed bytes None (Some []) = record { tokens = header_tokens; lexed = line_is_read header_tokens header_plain; follows = (refl, refl) } in
    let split : lines (codes "earlier 1" ++ 10 ∷ rest) ≡ bytes ∷ lines rest = ap (λ (bs : List ℕ). lines (bs ++ 10 ∷ rest)) (sym header_line) ∙ line_first header_tokens rest header_plain in
    subst (λ (ls : List (List ℕ)). Lead earlier_text None 1 ls (gives (Some pairs))) (sym split) (Ok (Some []), (begun, lead_pairs pairs [] 2 are))
