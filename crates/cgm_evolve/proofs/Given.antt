-- Lines that give pairs lead to them, and to the fault of the first line after them that has one.
use Rattle.std.proofs.Common.{◌≡◌, ℕ, ◌+◌, ◌++◌, ◌⊎◌, inl, inr, List, [], ◌∷◌, length, map, Option, None, Some, Ok, Err, refl, sym, ap, ◌∙◌, subst, arith, append_assoc, append-nil}
use Rattle.std.specs.List.{filter}
use Rattle.std.proofs.lemmas.List.{map_push}
use Rattle.cgm_lex.specs.declared.stops.LineFault.{LineFault}
use Rattle.cgm_lex.specs.Lexemes.{Lexeme, line_lexemes}
use Rattle.cgm_lex.specs.Lines.{lines}
use Rattle.cgm_lex.specs.Readings.{Lead, Outcome, fails, gives}
use Rattle.cgm_evolve.specs.Line.{header_tokens, pair_tokens}
use Rattle.cgm_evolve.specs.Pairs.{ArePairs, Pair}
use Rattle.cgm_evolve.specs.Text.{Follows, Give, HasFault, HasNoHeader, IsFirstFaulty, IsPassed, IsTextOf, earlier_text, has_tokens, pairs_of, tokens_of}
use Rattle.cgm_evolve.proofs.Giving.{good}
use Rattle.cgm_evolve.proofs.Outcomes.{pair_once}
use Rattle.cgm_evolve.proofs.Pushing.{proper_here}

-- ---- lists

first_same : {X : Type 0} (x y : X) (xs ys : List X) → x ∷ xs ≡ y ∷ ys → x ≡ y
first_same x y xs ys e = cc

rest_same : {X : Type 0} (x y : X) (xs ys : List X) → x ∷ xs ≡ y ∷ ys → xs ≡ ys
rest_same x y xs ys e = cc

some_first : {X : Type 0} (x : X) (xs : List X) → x ∷ xs ≡ [] → ⊥
some_first x xs e = cc

none_first : {X : Type 0} (x : X) (xs : List X) → [] ≡ x ∷ xs → ⊥
none_first x xs e = cc

-- ---- pairs by their tokens

pairs_once : (ps qs : List Pair) → map pair_tokens ps ++ [] ≡ map pair_tokens qs → qs ≡ ps
pairs_once [] [] e = refl
pairs_once [] (q ∷ qs) e = absurd (none_first (pair_tokens q) (map pair_tokens qs) e)
pairs_once (p ∷ ps) [] e = absurd (some_first (pair_tokens p) (map pair_tokens ps ++ []) e)
pairs_once (p ∷ ps) (q ∷ qs) e =
    let same = pair_once p q (first_same (pair_tokens p) (pair_tokens q) (map pair_tokens ps ++ []) (map pair_tokens qs) e) in
    let later = pairs_once ps qs (rest_same (pair_tokens p) (pair_tokens q) (map pair_tokens ps ++ []) (map pair_tokens qs) e) in
    ap (λ (r : Pair). r ∷ qs) (sym same) ∙ ap (λ (rs : List Pair). p ∷ rs) later

said_once : (a b : Option (List Pair)) → tokens_of a ++ [] ≡ tokens_of b → b ≡ a
said_once None None e = refl
said_once None (Some qs) e = absurd (none_first header_tokens (map pair_tokens qs) e)
said_once (Some ps) None e = absurd (some_first header_tokens (map pair_tokens ps ++ []) e)
said_once (Some ps) (Some qs) e =
    ap (λ (rs : List Pair). Some rs) (pairs_once ps qs (rest_same header_tokens header_tokens (map pair_tokens ps ++ []) (map pair_tokens qs) e))

-- the pair whose tokens come after those of the first pairs
record IsNext (ps pairs : List Pair) (ts : List Lexeme) (later : List (List Lexeme)) : Type 0 where
  pair : Pair
  rest : List Pair
  pairs_are : pairs ≡ ps ++ pair ∷ rest
  tokens_are : ts ≡ pair_tokens pair

next_pair : (ps pairs : List Pair) (ts : List Lexeme) (later : List (List Lexeme)) → map pair_tokens ps ++ ts ∷ later ≡ map pair_tokens pairs → IsNext ps pairs ts later
next_pair [] [] ts later e = absurd (some_first ts later e)
next_pair [] (q ∷ qs) ts later e =
    record { pair = q; rest = qs; pairs_are = refl; tokens_are = first_same ts (pair_tokens q) later (map pair_tokens qs) e }
next_pair (p ∷ ps) [] ts later e = absurd (some_first (pair_tokens p) (map pair_tokens ps ++ ts ∷ later) e)
next_pair (p ∷ ps) (q ∷ qs) ts later e =
    let same = pair_once p q (first_same (pair_tokens p) (pair_tokens q) (map pair_tokens ps ++ ts ∷ later) (map pair_tokens qs) e) in
    let is = next_pair ps qs ts later (rest_same (pair_tokens p) (pair_tokens q) (map pair_tokens ps ++ ts ∷ later) (map pair_tokens qs) e) in
    record {
      pair = is.pair;
      rest = is.rest;
      pairs_are = ap (λ (r : Pair). r ∷ qs) (sym same) ∙ ap (λ (rs : List Pair). p ∷ rs) is.pairs_are;
      tokens_are = is.tokens_are;
    }

-- ---- one line more

-- what a line's tokens make of the pairs so far, on the way to what is said in the end
record GoesOn (so_far next : Option (List Pair)) (ts : List Lexeme) (later : List (List Lexeme)) : Type 0 where
  mid : Option (List Pair)
  follows : Follows so_far ts mid
  left : tokens_of mid ++ later ≡ tokens_of next

goes_on_pair : (ps pairs : List Pair) (t : Lexeme) (ts : List Lexeme) (later : List (List Lexeme)) → map pair_tokens ps ++ (t ∷ ts) ∷ later ≡ map pair_tokens pairs → ArePairs pairs → GoesOn (Some ps) (Some pairs) (t ∷ ts) later
goes_on_pair ps pairs t ts later e are =
    let is = next_pair ps pairs (t ∷ ts) later e in
    let fine = proper_here ps is.rest is.pair (subst ArePairs is.pairs_are are) in
    let pushed : map pair_tokens (ps ++ is.pair ∷ []) ++ later ≡ map pair_tokens pairs =
    ap (λ xs. xs ++ later) (map_push pair_tokens ps is.pair) ∙ (append_assoc (map pair_tokens ps) (pair_tokens is.pair ∷ []) later ∙ (ap (λ xs. map pair_tokens ps ++ xs ∷ later) (sym is.tokens_are) ∙ e)) in
    record {
      mid = Some (ps ++ is.pair ∷ []);
      follows = (is.pair, ((is.tokens_are, fine.0), fine.1, refl));
      left = ap (λ xs. header_tokens ∷ xs) pushed;
    }

goes_on : (so_far next : Option (List Pair)) (ts : List Lexeme) (tokens : List (List Lexeme)) → tokens_of so_far ++ filter has_tokens (ts ∷ tokens) ≡ tokens_of next → ArePairs (pairs_of next) → GoesOn so_far next ts (filter has_tokens tokens)
goes_on so_far next [] tokens e are = record { mid = so_far; follows = refl; left = e }
goes_on None None (t ∷ ts) tokens e are = absurd (some_first (t ∷ ts) (filter has_tokens tokens) e)
goes_on None (Some pairs) (t ∷ ts) tokens e are = record {
  mid = Some [];
  follows = (first_same (t ∷ ts) header_tokens (filter has_tokens tokens) (map pair_tokens pairs) e, refl);
  left = ap (λ xs. header_tokens ∷ xs) (rest_same (t ∷ ts) header_tokens (filter has_tokens tokens) (map pair_tokens pairs) e);
}
goes_on (Some ps) None (t ∷ ts) tokens e are =
    absurd (some_first header_tokens (map pair_tokens ps ++ (t ∷ ts) ∷ filter has_tokens tokens) e)
goes_on (Some ps) (Some pairs) (t ∷ ts) tokens e are =
    goes_on_pair ps pairs t ts (filter has_tokens tokens) (rest_same header_tokens header_tokens (map pair_tokens ps ++ (t ∷ ts) ∷ filter has_tokens tokens) (map pair_tokens pairs) e) are

-- ---- lines

-- after lines that give what is said then, a text goes on as what comes after them does
given_leads : (ls more : List (List ℕ)) (tokens : List (List Lexeme)) (so_far next : Option (List Pair)) (line : ℕ) (o : Outcome (Option (List Pair))) → map line_lexemes ls ≡ map good tokens → tokens_of so_far ++ filter has_tokens tokens ≡ tokens_of next → ArePairs (pairs_of next) → Lead earlier_text next (line + length ls) more o → Lead earlier_text so_far line (ls ++ more) o
given_leads [] more [] so_far next line o lexed e are lead =
    let place : line + 0 ≡ line = omega arith in
    subst (λ (s : Option (List Pair)). Lead earlier_text s line more o) (said_once so_far next e) (subst (λ (n : ℕ). Lead earlier_text next n more o) place lead)
given_leads [] more (ts ∷ tokens) so_far next line o lexed e are lead = absurd (none_first (good ts) (map good tokens) lexed)
given_leads (bytes ∷ ls) more [] so_far next line o lexed e are lead =
    absurd (some_first (line_lexemes bytes) (map line_lexemes ls) lexed)
given_leads (bytes ∷ ls) more (ts ∷ tokens) so_far next line o lexed e are lead =
    let s = goes_on so_far next ts tokens e are in
    let passed : IsPassed bytes so_far s.mid = record { tokens = ts; lexed = first_same (line_lexemes bytes) (good ts) (map line_lexemes ls) (map good tokens) lexed; follows = s.follows } in
    let place : line + length (bytes ∷ ls) ≡ (line + 1) + length ls = omega arith in
    let after = subst (λ (n : ℕ). Lead earlier_text next n more o) place lead in
    (Ok s.mid, (passed, given_leads ls more tokens s.mid next (line + 1) o (rest_same (line_lexemes bytes) (good ts) (map line_lexemes ls) (map good tokens) lexed) s.left are after))

give_leads : (ls more : List (List ℕ)) (so_far : Option (List Pair)) (o : Outcome (Option (List Pair))) → Give ls so_far → Lead earlier_text so_far (1 + length ls) more o → Lead earlier_text None 1 (ls ++ more) o
give_leads ls more so_far o g lead = given_leads ls more g.tokens None so_far 1 o g.lexed g.said g.proper lead

-- ---- texts

pub lines_give : (text : List ℕ) (pairs : List Pair) → Give (lines text) (Some pairs) → IsTextOf text pairs
unfolding IsTextOf
lines_give text pairs g =
    subst (λ (ls : List (List ℕ)). Lead earlier_text None 1 ls (gives (Some pairs))) (append-nil (lines text)) (give_leads (lines text) [] (Some pairs) (gives (Some pairs)) g refl)

faulty_line_first : (ls : List (List ℕ)) (line : ℕ) (fault : LineFault) → IsFirstFaulty ls line fault → Lead earlier_text None 1 ls (fails line fault)
faulty_line_first ls line fault is =
    let number = is.number in
    let place : line ≡ 1 + length is.front = omega (arith, number) in
    let here : Lead earlier_text is.so_far (1 + length is.front) (is.bytes ∷ is.rest) (fails line fault) = (Err fault, (is.faulty, ap (λ (n : ℕ). fails n fault) place)) in
    subst (λ (xs : List (List ℕ)). Lead earlier_text None 1 xs (fails line fault)) (sym is.split) (give_leads is.front (is.bytes ∷ is.rest) is.so_far (fails line fault) is.given here)

no_header_first : (ls : List (List ℕ)) (line : ℕ) (fault : LineFault) → HasNoHeader ls line fault → Lead earlier_text None 1 ls (fails line fault)
no_header_first ls line fault is =
    let here : Lead earlier_text None (1 + length ls) [] (fails line fault) =
    ap (λ (n : ℕ). fails n fault) is.first ∙ ap (λ (f : LineFault). fails 1 f) is.header in
    subst (λ (xs : List (List ℕ)). Lead earlier_text None 1 xs (fails line fault)) (append-nil ls) (give_leads ls [] None (fails line fault) is.given here)

pub first_is_fault : (text : List ℕ) (line : ℕ) (fault : LineFault) → IsFirstFaulty (lines text) line fault ⊎ HasNoHeader (lines text) line fault → HasFault text line fault
unfolding HasFault
first_is_fault text line fault (inl is) = faulty_line_first (lines text) line fault is
first_is_fault text line fault (inr is) = no_header_first (lines text) line fault is
