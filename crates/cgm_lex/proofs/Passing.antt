-- One more line of a text, and the tokens of one line alone.
use Rattle.std.proofs.Common.{◌≡◌, ℕ, zero, suc, ◌+◌, ◌<◌, ◌≤◌, min, List, [], ◌∷◌, ◌++◌, length, map, drop, All, slice_range, None, Some, Ok, refl, ap, ◌∙◌, sym, arith, inl, inr, append_assoc, append-nil, drop_of_length-le}
use Rattle.std.proofs.lemmas.Bool.{cases_lt}
use Rattle.std.proofs.lemmas.List.{take_rest}
use Rattle.std.proofs.lemmas.List.Edits.{length-between}
use Rattle.cgm_lex.specs.declared.token.LexFault.{LexFault}
use Rattle.cgm_lex.specs.declared.token.Token.{Token}
use Rattle.cgm_lex.specs.Lexemes.{Lexeme, AreTokensAdded, IsFaultOf, IsWithinText, TokensStandInOrder, before, fault_or, first_lexical_fault, line_lexemes, token_placed, placed_at, token_seen, text_lexemes}
use Rattle.cgm_lex.specs.Lines.{lines}
use Rattle.cgm_lex.specs.Spans.{line_spans, span_of, spans_before, text_spans}
use Rattle.cgm_lex.proofs.Adding.{order_wider}
use Rattle.cgm_lex.proofs.Spanning.{no_run_before}

-- the line from one place to another, and what its tokens are followed by
pub record IsLineAt (text : List ℕ) (at end next : ℕ) : Type 0 where
  pub tokens : (n : ℕ) → text_lexemes n (lines (drop at text)) ≡ before n (line_lexemes (slice_range text at end)) (text_lexemes (n + 1) (lines (drop next text)))
  pub fault : (n : ℕ) → first_lexical_fault n (lines (drop at text)) ≡ fault_or n (line_lexemes (slice_range text at end)) (first_lexical_fault (n + 1) (lines (drop next text)))
  pub spans : text_spans at (lines (drop at text)) ≡ spans_before (line_lexemes (slice_range text at end)) (line_spans at (slice_range text at end)) (text_spans next (lines (drop next text)))

past : (text : List ℕ) → drop (length text) text ≡ []
past text = drop_of_length-le text {i = length text} (omega arith)

pub no_tokens_left : (text : List ℕ) (n at : ℕ) → length text ≤ at → text_lexemes n (lines (drop at text)) ≡ []
no_tokens_left text n at h = rw (drop_of_length-le text {i = at} h) refl

pub no_fault_left : (text : List ℕ) (n at : ℕ) → length text ≤ at → first_lexical_fault n (lines (drop at text)) ≡ None
no_fault_left text n at h = rw (drop_of_length-le text {i = at} h) refl

pub no_spans_left : (text : List ℕ) (n at : ℕ) → length text ≤ at → text_spans n (lines (drop at text)) ≡ []
no_spans_left text n at h = rw (drop_of_length-le text {i = at} h) (ap (λ spans. spans ++ []) (no_run_before n []))

-- the line after this one begins past its line feed
next_begins : (text : List ℕ) (at end : ℕ) → at ≤ end → end ≤ length text → at + length (slice_range text at end) + 1 ≡ end + 1
next_begins text at end order inside = let size = length-between text at end inside in omega (arith, size)

spans_of_line : (text : List ℕ) (at end : ℕ) → at ≤ end → end ≤ length text → lines (drop at text) ≡ slice_range text at end ∷ lines (drop (end + 1) text) → text_spans at (lines (drop at text)) ≡ spans_before (line_lexemes (slice_range text at end)) (line_spans at (slice_range text at end)) (text_spans (end + 1) (lines (drop (end + 1) text)))
spans_of_line text at end order inside more =
    let line = slice_range text at end in
    ap (text_spans at) more ∙ ap (λ n. spans_before (line_lexemes line) (line_spans at line) (text_spans n (lines (drop (end + 1) text)))) (next_begins text at end order inside)

spans_of_last : (text : List ℕ) (at : ℕ) → lines (drop at text) ≡ drop at text ∷ [] → text_spans at (lines (drop at text)) ≡ spans_before (line_lexemes (drop at text)) (line_spans at (drop at text)) (text_spans (length text) (lines (drop (length text) text)))
spans_of_last text at last =
    ap (text_spans at) last ∙ ap (spans_before (line_lexemes (drop at text)) (line_spans at (drop at text))) (sym (no_spans_left text (length text) (length text) (omega arith)))

pub line_at : (text : List ℕ) (at end : ℕ) → at ≤ end → end ≤ length text → (end ≡ length text → lines (drop at text) ≡ drop at text ∷ []) → (end < length text → lines (drop at text) ≡ slice_range text at end ∷ lines (drop (end + 1) text)) → IsLineAt text at end (min (end + 1) (length text))
line_at text at end order h last more =
    elim (cases_lt end (length text)) [
      | inl less ↦
          let next : min (end + 1) (length text) ≡ end + 1 = omega arith in
          record {
            tokens = λ n. rw next (ap (text_lexemes n) (more less));
            fault = λ n. rw next (ap (first_lexical_fault n) (more less));
            spans = rw next (spans_of_line text at end order h (more less));
          }
      | inr not_less ↦
          let whole : end ≡ length text = omega arith in
          let next : min (end + 1) (length text) ≡ length text = omega arith in
          let rest : slice_range text at end ≡ drop at text = rw whole (take_rest text at) in
          record {
            tokens = λ n. rw next (ap (text_lexemes n) (last whole) ∙ rw rest (ap (before n (line_lexemes (drop at text))) (sym (no_tokens_left text (n + 1) (length text) (omega arith)))));
            fault = λ n. rw next (ap (first_lexical_fault n) (last whole) ∙ rw rest (ap (fault_or n (line_lexemes (drop at text))) (sym (no_fault_left text (n + 1) (length text) (omega arith)))));
            spans = rw next (rw rest (spans_of_last text at (last whole)));
          }
    ]

-- where the loop over the lines of a text stands
pub record Passed (text : List ℕ) (line at : ℕ) (tokens : List Token) : Type 0 where
  pub said : text_lexemes 1 (lines text) ≡ map (token_placed text) tokens ++ text_lexemes line (lines (drop at text))
  pub fault : first_lexical_fault 1 (lines text) ≡ first_lexical_fault line (lines (drop at text))
  pub within : All (IsWithinText text) tokens
  pub inside : at ≤ length text
  pub few : line ≤ at + 1
  pub order : TokensStandInOrder text 0 at tokens
  pub spans : text_spans 0 (lines text) ≡ map span_of tokens ++ text_spans at (lines (drop at text))

pub passed_none : (text : List ℕ) (tokens : List Token) → tokens ≡ [] → Passed text 1 0 tokens
passed_none text tokens none = record {
  said = rw none refl;
  fault = refl;
  within = rw none (λ k d h. absurd (omega arith));
  inside = omega arith;
  few = omega arith;
  order = rw none (omega arith);
  spans = rw none refl;
}

pub passed_more : (text : List ℕ) (line at end : ℕ) (old new : List Token) → Passed text line at old → at < length text → at ≤ end → IsLineAt text at end (min (end + 1) (length text)) → (lexemes : List Lexeme) × (line_lexemes (slice_range text at end) ≡ Ok lexemes × AreTokensAdded text line old new lexemes) → end ≤ length text → (TokensStandInOrder text 0 at old → TokensStandInOrder text 0 end new) → map span_of new ≡ map span_of old ++ line_spans at (slice_range text at end) → Passed text (line + 1) (min (end + 1) (length text)) new
passed_more text line at end old new p some order here added inside placed_after spans =
    let next = min (end + 1) (length text) in
    let few = p.few in
    record {
      said =
          p.said ∙ ap (λ ts. map (token_placed text) old ++ ts) (here.tokens line ∙ ap (λ r. before line r (text_lexemes (line + 1) (lines (drop next text)))) added.1.0)
          ∙ sym (append_assoc (map (token_placed text) old) (map (placed_at line) added.0) (text_lexemes (line + 1) (lines (drop next text))))
          ∙ ap (λ ts. ts ++ text_lexemes (line + 1) (lines (drop next text))) (sym added.1.1.same);
      fault = p.fault ∙ here.fault line ∙ ap (λ r. fault_or line r (first_lexical_fault (line + 1) (lines (drop next text)))) added.1.0;
      within = added.1.1.within p.within;
      inside = omega arith;
      few = omega arith;
      order = order_wider text 0 end next new (placed_after p.order) (omega arith);
      spans =
          p.spans ∙ ap (λ ss. map span_of old ++ ss) (here.spans ∙ ap (λ r. spans_before r (line_spans at (slice_range text at end)) (text_spans next (lines (drop next text)))) added.1.0)
          ∙ sym (append_assoc (map span_of old) (line_spans at (slice_range text at end)) (text_spans next (lines (drop next text))))
          ∙ ap (λ ss. ss ++ text_spans next (lines (drop next text))) (sym spans);
    }

pub all_said : (text : List ℕ) (line at : ℕ) (tokens : List Token) → Passed text line at tokens → length text ≤ at → map (token_placed text) tokens ≡ text_lexemes 1 (lines text)
all_said text line at tokens p h =
    sym (p.said ∙ ap (λ ts. map (token_placed text) tokens ++ ts) (no_tokens_left text line at h) ∙ append-nil (map (token_placed text) tokens))

pub all_spans : (text : List ℕ) (line at : ℕ) (tokens : List Token) → Passed text line at tokens → length text ≤ at → map span_of tokens ≡ text_spans 0 (lines text)
all_spans text line at tokens p h = sym (p.spans ∙ ap (λ ss. map span_of tokens ++ ss) (no_spans_left text at at h) ∙ append-nil (map span_of tokens))

pub no_fault : (text : List ℕ) (line at : ℕ) (tokens : List Token) → Passed text line at tokens → length text ≤ at → None ≡ first_lexical_fault 1 (lines text)
no_fault text line at tokens p h = sym (p.fault ∙ no_fault_left text line at h)

pub said_before : (text : List ℕ) (line at end next : ℕ) (tokens : List Token) (fault : LexFault) → Passed text line at tokens → IsLineAt text at end next → IsFaultOf line (slice_range text at end) fault → map (token_placed text) tokens ≡ text_lexemes 1 (lines text)
said_before text line at end next tokens fault p here faulty =
    sym (p.said ∙ ap (λ ts. map (token_placed text) tokens ++ ts) (here.tokens line ∙ ap (λ r. before line r (text_lexemes (line + 1) (lines (drop next text)))) faulty.1.0) ∙ append-nil (map (token_placed text) tokens))

pub spans_before_fault : (text : List ℕ) (line at end next : ℕ) (tokens : List Token) (fault : LexFault) → Passed text line at tokens → IsLineAt text at end next → IsFaultOf line (slice_range text at end) fault → map span_of tokens ≡ text_spans 0 (lines text)
spans_before_fault text line at end next tokens fault p here faulty =
    sym (p.spans ∙ ap (λ ss. map span_of tokens ++ ss) (here.spans ∙ ap (λ r. spans_before r (line_spans at (slice_range text at end)) (text_spans next (lines (drop next text)))) faulty.1.0) ∙ append-nil (map span_of tokens))

pub fault_here : (text : List ℕ) (line at end next : ℕ) (tokens : List Token) (fault : LexFault) → Passed text line at tokens → IsLineAt text at end next → IsFaultOf line (slice_range text at end) fault → Some fault ≡ first_lexical_fault 1 (lines text)
fault_here text line at end next tokens fault p here faulty =
    sym (p.fault ∙ here.fault line ∙ ap (λ r. fault_or line r (first_lexical_fault (line + 1) (lines (drop next text)))) faulty.1.0 ∙ ap Some (sym faulty.1.1))

pub whole_line : (bs : List ℕ) → slice_range bs 0 (length bs) ≡ bs
whole_line bs = take_rest bs 0

seen_one : (text : List ℕ) (line : ℕ) (token : Token) (x : Lexeme) → token_placed text token ≡ placed_at line x → (token_seen text token ≡ x) × (token.line ≡ line)
seen_one text line token x e = (ap (λ p. p.lexeme) e, ap (λ p. p.line) e)

pub seen_from : (text : List ℕ) (line : ℕ) (tokens : List Token) (xs : List Lexeme) → map (token_placed text) tokens ≡ map (placed_at line) xs → map (token_seen text) tokens ≡ xs
seen_from text line [] [] e = refl
seen_from text line [] (x ∷ xs) e = cc
seen_from text line (t ∷ ts) [] e = cc
seen_from text line (t ∷ ts) (x ∷ xs) e =
    let first : token_placed text t ≡ placed_at line x = cc in
    let others : map (token_placed text) ts ≡ map (placed_at line) xs = cc in
    let here = (seen_one text line t x first).0 in
    let later = seen_from text line ts xs others in
    rw here (rw later refl)

all_from : (t : Token) (ts : List Token) (line : ℕ) → t.line ≡ line → All (λ token. token.line ≡ line) ts → All (λ token. token.line ≡ line) (t ∷ ts)
all_from t ts line here later zero d h = here
all_from t ts line here later (suc k) d h = later k d (omega arith)

pub numbered_from : (text : List ℕ) (line : ℕ) (tokens : List Token) (xs : List Lexeme) → map (token_placed text) tokens ≡ map (placed_at line) xs → All (λ token. token.line ≡ line) tokens
numbered_from text line [] xs e = λ k d h. absurd (omega arith)
numbered_from text line (t ∷ ts) [] e = cc
numbered_from text line (t ∷ ts) (x ∷ xs) e =
    let first : token_placed text t ≡ placed_at line x = cc in
    let others : map (token_placed text) ts ≡ map (placed_at line) xs = cc in
    all_from t ts line (seen_one text line t x first).1 (numbered_from text line ts xs others)

-- the tokens of a line alone
abbrev pub AddedAlone : List ℕ → ℕ → List Token → List Token → Type 0
AddedAlone text line old new =
    (lexemes : List Lexeme) × (line_lexemes (slice_range text 0 (length text)) ≡ Ok lexemes × AreTokensAdded text line old new lexemes)

same_alone : (text : List ℕ) (line : ℕ) (old new : List Token) (xs : List Lexeme) → old ≡ [] → AreTokensAdded text line old new xs → map (token_placed text) new ≡ map (placed_at line) xs
same_alone text line old new xs none added =
    added.same ∙ ap (λ ts. map (token_placed text) ts ++ map (placed_at line) xs) none

pub said_alone : (text : List ℕ) (line : ℕ) (old new : List Token) → old ≡ [] → AddedAlone text line old new → line_lexemes text ≡ Ok (map (token_seen text) new)
said_alone text line old new none added =
    ap line_lexemes (sym (whole_line text)) ∙ added.1.0 ∙ ap Ok (sym (seen_from text line new added.0 (same_alone text line old new added.0 none added.1.1)))

pub numbered_alone : (text : List ℕ) (line : ℕ) (old new : List Token) → old ≡ [] → AddedAlone text line old new → All (λ token. token.line ≡ line) new
numbered_alone text line old new none added =
    numbered_from text line new added.0 (same_alone text line old new added.0 none added.1.1)
