-- One more token of a line.
use Rattle.std.proofs.Common.{◌≡◌, ℕ, ◌+◌, ◌<◌, ◌≤◌, List, [], ◌∷◌, ◌++◌, length, map, take, take_all, drop, slice_range, Result, Ok, Err, refl, ap, ◌∙◌, sym, arith, append_assoc, append-nil}
use Rattle.std.proofs.lemmas.List.{map-append, take-append-le, length-append}
use Rattle.std.proofs.lemmas.List.Elements.{All-push}
use Rattle.cgm_lex.specs.declared.token.Flaw.{Flaw}
use Rattle.cgm_lex.specs.declared.token.Kind.{Kind}
use Rattle.cgm_lex.specs.declared.token.Token.{Token}
use Rattle.cgm_lex.specs.Lexemes.{Lexeme, AreTokensAdded, IsWithinText, TokensStandInOrder, all_lexemes, flaws_joined, lexeme_of, lexeme_with, token_placed, placed_at, token_seen, token_bytes}
use Rattle.cgm_lex.specs.Lines.{content}
use Rattle.cgm_lex.specs.Pieces.{pieces}
use Rattle.cgm_lex.specs.Spans.{span_from, span_of, spans_after, spans_at}
use Rattle.cgm_lex.proofs.Places.{part_is}

-- these before the others
abbrev pub onto : List Lexeme → Result (List Lexeme) Flaw → Result (List Lexeme) Flaw
onto have (Err flaw) = Err flaw
onto have (Ok others) = Ok (have ++ others)

pub onto_none : (rest : Result (List Lexeme) Flaw) → rest ≡ onto [] rest
onto_none (Err flaw) = refl
onto_none (Ok others) = refl

onto_more : (have : List Lexeme) (one : Lexeme) (rest : Result (List Lexeme) Flaw) → onto have (flaws_joined (Ok one) rest) ≡ onto (have ++ one ∷ []) rest
onto_more have one (Err flaw) = refl
onto_more have one (Ok others) = ap Ok (sym (append_assoc have (one ∷ []) others))

-- where the loop over the pieces of a line stands
pub record Going (text words : List ℕ) (line start at : ℕ) (old new : List Token) : Type 0 where
  pub have : List Lexeme
  pub added : AreTokensAdded text line old new have
  pub front : take (length old) new ≡ old
  pub count : length old ≤ length new
  pub rest : all_lexemes (pieces words) ≡ onto have (all_lexemes (pieces (drop at words)))
  pub inside : at ≤ length words
  pub order : TokensStandInOrder text 0 start old → TokensStandInOrder text 0 (start + at) new
  pub spans : map span_of new ++ spans_after start at words ≡ map span_of old ++ spans_at start words

-- a token of a piece of the line that begins at `start`
pub record IsTokenOf (line start from to : ℕ) (kind : Kind) (token : Token) : Type 0 where
  pub line_is : token.line ≡ line
  pub from_is : token.from ≡ start + from
  pub to_is : token.to ≡ start + to
  pub kind_is : token.kind ≡ kind

seen_is : (text words : List ℕ) (line start end from to : ℕ) (kind : Kind) (token : Token) → IsTokenOf line start from to kind token → words ≡ content (slice_range text start end) → start ≤ end → end ≤ length text → from < to → to ≤ length words → token_placed text token ≡ placed_at line (lexeme_with (slice_range words from to) kind)
seen_is text words line start end from to kind token is e order inside order' h =
    let part = part_is text words start end from to e order inside (omega arith) h in
    rw is.line_is (rw is.from_is (rw is.to_is (rw is.kind_is (rw part refl))))

spelled_is : (text words : List ℕ) (line start end from to : ℕ) (kind : Kind) (token : Token) → IsTokenOf line start from to kind token → words ≡ content (slice_range text start end) → start ≤ end → end ≤ length text → from < to → to ≤ length words → lexeme_of (slice_range words from to) ≡ Ok (lexeme_with (slice_range words from to) kind) → lexeme_of (token_bytes text token) ≡ Ok (token_seen text token)
spelled_is text words line start end from to kind token is e order inside order' h says =
    let part = part_is text words start end from to e order inside (omega arith) h in
    rw is.from_is (rw is.to_is (rw is.kind_is (rw part says)))

pub order_more : (text : List ℕ) (from at to : ℕ) (tokens : List Token) (token : Token) → TokensStandInOrder text from at tokens → at ≤ token.from → lexeme_of (token_bytes text token) ≡ Ok (token_seen text token) → token.to ≤ to → TokensStandInOrder text from to (tokens ++ token ∷ [])
order_more text from at to [] token h after says end = (omega (arith, h, after), says, end)
order_more text from at to (t ∷ ts) token h after says end = (h.0, h.1, order_more text t.to at to ts token h.2 after says end)

pub order_wider : (text : List ℕ) (from at to : ℕ) (tokens : List Token) → TokensStandInOrder text from at tokens → at ≤ to → TokensStandInOrder text from to tokens
order_wider text from at to [] h wider = omega (arith, h, wider)
order_wider text from at to (t ∷ ts) h wider = (h.0, h.1, order_wider text t.to at to ts h.2 wider)

added_more : (text : List ℕ) (line : ℕ) (old new : List Token) (have : List Lexeme) (token : Token) (one : Lexeme) → AreTokensAdded text line old new have → token_placed text token ≡ placed_at line one → IsWithinText text token → AreTokensAdded text line old (new ++ token ∷ []) (have ++ one ∷ [])
added_more text line old new have token one added same within = record {
  same =
      map-append (token_placed text) new (token ∷ []) ∙ ap (λ front. front ++ token_placed text token ∷ []) added.same
      ∙ append_assoc (map (token_placed text) old) (map (placed_at line) have) (token_placed text token ∷ [])
      ∙ ap (λ p. map (token_placed text) old ++ (map (placed_at line) have ++ p ∷ [])) same
      ∙ ap (λ back. map (token_placed text) old ++ back) (sym (map-append (placed_at line) have (one ∷ [])));
  within = λ known. All-push (IsWithinText text) new token (added.within known) within;
}

rest_more : (words : List ℕ) (at from to : ℕ) (kind : Kind) (have : List Lexeme) → pieces (drop at words) ≡ slice_range words from to ∷ pieces (drop to words) → lexeme_of (slice_range words from to) ≡ Ok (lexeme_with (slice_range words from to) kind) → onto have (all_lexemes (pieces (drop at words))) ≡ onto (have ++ lexeme_with (slice_range words from to) kind ∷ []) (all_lexemes (pieces (drop to words)))
rest_more words at from to kind have piece says =
    ap (λ ps. onto have (all_lexemes ps)) piece ∙ ap (λ r. onto have (flaws_joined r (all_lexemes (pieces (drop to words))))) says
    ∙ onto_more have (lexeme_with (slice_range words from to) kind) (all_lexemes (pieces (drop to words)))

spans_more : (words : List ℕ) (start at from to : ℕ) (old new : List Token) (token : Token) → map span_of new ++ spans_after start at words ≡ map span_of old ++ spans_at start words → span_of token ≡ span_from (start + from) (start + to) → spans_after start at words ≡ span_from (start + from) (start + to) ∷ spans_after start to words → map span_of (new ++ token ∷ []) ++ spans_after start to words ≡ map span_of old ++ spans_at start words
spans_more words start at from to old new token so_far here next =
    let rest = spans_after start to words in
    ap (λ front. front ++ rest) (map-append span_of new (token ∷ [])) ∙ append_assoc (map span_of new) (span_of token ∷ []) rest
    ∙ ap (λ one. map span_of new ++ one ∷ rest) here ∙ ap (λ back. map span_of new ++ back) (sym next) ∙ so_far

token_span : (start from to line : ℕ) (kind : Kind) (token : Token) → IsTokenOf line start from to kind token → span_of token ≡ span_from (start + from) (start + to)
token_span start from to line kind token is = rw is.from_is (rw is.to_is refl)

pub going_on : (text words : List ℕ) (line start end at from to : ℕ) (kind : Kind) (old new : List Token) (token : Token) → Going text words line start at old new → IsTokenOf line start from to kind token → words ≡ content (slice_range text start end) → start ≤ end → end ≤ length text → length words ≤ length (slice_range text start end) → start + length words ≤ length text → at ≤ from → from < to → to ≤ length words → pieces (drop at words) ≡ slice_range words from to ∷ pieces (drop to words) → lexeme_of (slice_range words from to) ≡ Ok (lexeme_with (slice_range words from to) kind) → spans_after start at words ≡ span_from (start + from) (start + to) ∷ spans_after start to words → Going text words line start to old (new ++ token ∷ [])
going_on text words line start end at from to kind old new token g is e order inside short fits after order' h piece says next =
    let one = lexeme_with (slice_range words from to) kind in
    let from_is = is.from_is in
    let to_is = is.to_is in
    record {
      have = g.have ++ one ∷ [];
      added = added_more text line old new g.have token one g.added (seen_is text words line start end from to kind token is e order inside order' h) (omega arith, omega arith);
      front = take-append-le (length old) new (token ∷ []) g.count ∙ g.front;
      count = let more = length-append new (token ∷ []) in let count = g.count in omega arith;
      rest = g.rest ∙ rest_more words at from to kind g.have piece says;
      inside = h;
      order = λ before. order_more text 0 (start + at) (start + to) new token (g.order before) (omega arith) (spelled_is text words line start end from to kind token is e order inside order' h says) (omega arith);
      spans = spans_more words start at from to old new token g.spans (token_span start from to line kind token is) next;
    }

-- the loop begins before the first piece
pub going_none : (text words : List ℕ) (line start : ℕ) (old : List Token) → Going text words line start 0 old old
going_none text words line start old =
    let e : start + 0 ≡ start = omega arith in
    record {
      have = [];
      added = record { same = sym (append-nil (map (token_placed text) old)); within = λ known. known };
      front = take_all (length old) old (omega arith);
      count = omega arith;
      rest = onto_none (all_lexemes (pieces words));
      inside = omega arith;
      order = λ before. rw e before;
      spans = ap (λ at. map span_of old ++ spans_at at words) e;
    }
