-- One token more of those whose open brackets are counted.
use Rattle.std.proofs.Common.{◌≡◌, ℕ, ◌+◌, ◌<◌, ◌≤◌, true, false, nat_lt, List, ◌∷◌, length, get_or, drop, if◌then◌else◌, refl, ◌∙◌, arith, drop-cons, add-one}
use Rattle.std.proofs.lemmas.Bool.Decides.{nat_tests}
use Rattle.cgm_lex.specs.declared.token.Token.{Token}
use Rattle.cgm_lex.specs.Lexemes.{lexeme_with, token_bytes}
use Rattle.cgm_text.specs.Trees.{count_after, is_deeper, seen_all}

-- what the code's count after the next token is
abbrev pub IsNextCount : List Token → ℕ → Token → ℕ → ℕ → Type 0
IsNextCount tokens at d count next = (bytes : List ℕ) → next ≡ count_after (lexeme_with bytes (get_or tokens at d).kind) count

next_token : (line : List ℕ) (tokens : List Token) (at most count next : ℕ) (d : Token) → at < length tokens → IsNextCount tokens at d count next → is_deeper most count (seen_all line (drop at tokens)) ≡ (if nat_lt most next then true else is_deeper most next (seen_all line (drop (at + 1) tokens)))
next_token line tokens at most count next d h is =
    let first : drop at tokens ≡ get_or tokens at d ∷ drop (at + 1) tokens = rw add-one (drop-cons tokens at d h) in
    let here = is (token_bytes line (get_or tokens at d)) in
    rw first (rw (← here) refl)

more_is : (most next : ℕ) → most < next → nat_lt most next ≡ true
more_is most next h = grind (arith, nat_tests)

no_more_is : (most next : ℕ) → next ≤ most → nat_lt most next ≡ false
no_more_is most next h = grind (arith, nat_tests)

pub deeper : (line : List ℕ) (tokens : List Token) (at most count next : ℕ) (d : Token) → at < length tokens → IsNextCount tokens at d count next → most < next → is_deeper most count (seen_all line (drop at tokens)) ≡ true
deeper line tokens at most count next d h is more =
    next_token line tokens at most count next d h is ∙ rw (more_is most next more) refl

pub no_deeper : (line : List ℕ) (tokens : List Token) (at most count next : ℕ) (d : Token) → at < length tokens → IsNextCount tokens at d count next → next ≤ most → is_deeper most count (seen_all line (drop at tokens)) ≡ is_deeper most next (seen_all line (drop (at + 1) tokens))
no_deeper line tokens at most count next d h is no_more =
    next_token line tokens at most count next d h is ∙ rw (no_more_is most next no_more) refl
