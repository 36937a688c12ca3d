-- Terms and linear expressions: their tokens tell them, and what begins with none.
use Rattle.std.proofs.Common.{◌≡◌, ◌≢◌, ℕ, ℤ, List, [], ◌∷◌, ◌++◌, map, codes, get_or, refl, ap, ◌∙◌, sym, arith}
use Rattle.cgm_lex.specs.Lexemes.{Lexeme, opening, closing, number, word}
use Rattle.std.proofs.lemmas.List.{map_push}
use Rattle.cgm_text.specs.declared.written.Term.{Term}
use Rattle.cgm_text.specs.Trees.{term_in}
use Rattle.cgm_text.specs.Parsed.{BeginsNoTerm, BeginsNoLinear}
use Rattle.cgm_print.specs.Written.{WrittenTerm, plain, scaled, WrittenLinear, single, total, spelled_term, spelled_terms, spelled_linear}

plus_is_no_times : codes "+" ≡ codes "*" → ⊥
plus_is_no_times e = absurd (omega (arith, ap (λ w. get_or w 0 0) e))

pub term_once : (t u : WrittenTerm) (x y : List Lexeme) → spelled_term t x ≡ spelled_term u y → (t ≡ u) × (x ≡ y)
term_once (plain a) (plain b) x y e = (cc, cc)
term_once (plain a) (scaled k b) x y e = cc
term_once (scaled j a) (plain b) x y e = cc
term_once (scaled j a) (scaled k b) x y e = (cc, cc)

term_opens : (t : WrittenTerm) (x y : List Lexeme) → spelled_term t x ≡ closing ∷ y → ⊥
term_opens (plain a) x y e = cc
term_opens (scaled k a) x y e = cc

terms_once : (ts us : List WrittenTerm) (x y : List Lexeme) → spelled_terms ts (closing ∷ x) ≡ spelled_terms us (closing ∷ y) → (ts ≡ us) × (x ≡ y)
terms_once [] [] x y e = (refl, cc)
terms_once [] (u ∷ us) x y e = absurd (term_opens u (spelled_terms us (closing ∷ y)) x (sym e))
terms_once (t ∷ ts) [] x y e = absurd (term_opens t (spelled_terms ts (closing ∷ x)) y e)
terms_once (t ∷ ts) (u ∷ us) x y e =
    let first = term_once t u (spelled_terms ts (closing ∷ x)) (spelled_terms us (closing ∷ y)) e in
    let others = terms_once ts us x y first.1 in
    (cc, others.1)

pub linear_once : (l m : WrittenLinear) (x y : List Lexeme) → spelled_linear l x ≡ spelled_linear m y → (l ≡ m) × (x ≡ y)
linear_once (single t) (single u) x y e =
    let same = term_once t u x y e in
    (ap single same.0, same.1)
linear_once (single (plain a)) (total u us) x y e = cc
linear_once (single (scaled k a)) (total u us) x y e =
    let same : codes "*" ≡ codes "+" = cc in
    absurd (plus_is_no_times (sym same))
linear_once (total t ts) (single (plain b)) x y e = cc
linear_once (total t ts) (single (scaled k b)) x y e =
    let same : codes "+" ≡ codes "*" = cc in
    absurd (plus_is_no_times same)
linear_once (total t ts) (total u us) x y e =
    let rest : spelled_term t (spelled_terms ts (closing ∷ x)) ≡ spelled_term u (spelled_terms us (closing ∷ y)) = cc in
    let first = term_once t u (spelled_terms ts (closing ∷ x)) (spelled_terms us (closing ∷ y)) rest in
    let others = terms_once ts us x y first.1 in
    (cc, others.1)

-- what begins no scaled term: no times, then no number, no name, no end
pub no_times : (tokens : List Lexeme) → ((x : List Lexeme) → tokens ≢ word (codes "*") ∷ x) → BeginsNoTerm (opening ∷ tokens)
no_times tokens none (plain a) after e = cc
no_times tokens none (scaled k a) after e = none (number k ∷ word a ∷ closing ∷ after) cc

pub no_factor : (tokens rest : List Lexeme) → tokens ≡ word (codes "*") ∷ rest → ((k : ℤ) (x : List Lexeme) → rest ≢ number k ∷ x) → BeginsNoTerm (opening ∷ tokens)
no_factor tokens rest so_far none (plain a) after e = cc
no_factor tokens rest so_far none (scaled k a) after e = none k (word a ∷ closing ∷ after) cc

pub no_scaled_name : (j : ℤ) (tokens rest : List Lexeme) → tokens ≡ word (codes "*") ∷ number j ∷ rest → ((w : List ℕ) (x : List Lexeme) → rest ≢ word w ∷ x) → BeginsNoTerm (opening ∷ tokens)
no_scaled_name j tokens rest so_far none (plain a) after e = cc
no_scaled_name j tokens rest so_far none (scaled k a) after e = none a (closing ∷ after) cc

pub no_scaled_end : (j : ℤ) (w : List ℕ) (tokens rest : List Lexeme) → tokens ≡ word (codes "*") ∷ number j ∷ word w ∷ rest → ((x : List Lexeme) → rest ≢ closing ∷ x) → BeginsNoTerm (opening ∷ tokens)
no_scaled_end j w tokens rest so_far none (plain a) after e = cc
no_scaled_end j w tokens rest so_far none (scaled k a) after e = none after cc

-- a total whose first term is none
pub no_total : (tokens : List Lexeme) → BeginsNoTerm tokens → BeginsNoLinear (opening ∷ word (codes "+") ∷ tokens)
no_total tokens none (single (plain a)) after e = cc
no_total tokens none (single (scaled k a)) after e =
    let same : codes "+" ≡ codes "*" = cc in
    absurd (plus_is_no_times same)
no_total tokens none (total u us) after e = none u (spelled_terms us (closing ∷ after)) cc

terms_end : (ts us : List WrittenTerm) (rest after : List Lexeme) → BeginsNoTerm rest → ((x : List Lexeme) → rest ≢ closing ∷ x) → spelled_terms ts rest ≡ spelled_terms us (closing ∷ after) → ⊥
terms_end [] [] rest after none unclosed e = unclosed after e
terms_end [] (u ∷ us) rest after none unclosed e = none u (spelled_terms us (closing ∷ after)) e
terms_end (t ∷ ts) [] rest after none unclosed e = term_opens t (spelled_terms ts rest) after e
terms_end (t ∷ ts) (u ∷ us) rest after none unclosed e =
    let first = term_once t u (spelled_terms ts rest) (spelled_terms us (closing ∷ after)) e in
    terms_end ts us rest after none unclosed first.1

-- a total with neither a further term nor a closing bracket after these terms
pub no_total_after : (first : WrittenTerm) (others : List WrittenTerm) (tokens rest : List Lexeme) → tokens ≡ spelled_term first (spelled_terms others rest) → BeginsNoTerm rest → ((x : List Lexeme) → rest ≢ closing ∷ x) → BeginsNoLinear (opening ∷ word (codes "+") ∷ tokens)
no_total_after first others tokens rest so_far none unclosed (single (plain a)) after e = cc
no_total_after first others tokens rest so_far none unclosed (single (scaled k a)) after e =
    let same : codes "+" ≡ codes "*" = cc in
    absurd (plus_is_no_times same)
no_total_after first others tokens rest so_far none unclosed (total u us) after e =
    let inside : tokens ≡ spelled_term u (spelled_terms us (closing ∷ after)) = cc in
    let same = term_once first u (spelled_terms others rest) (spelled_terms us (closing ∷ after)) (sym so_far ∙ inside) in
    terms_end others us rest after none unclosed same.1

-- one more term
pub terms_push : (ts : List WrittenTerm) (t : WrittenTerm) (rest : List Lexeme) → spelled_terms (ts ++ t ∷ []) rest ≡ spelled_terms ts (spelled_term t rest)
terms_push [] t rest = refl
terms_push (u ∷ ts) t rest = ap (spelled_term u) (terms_push ts t rest)

-- a total whose terms so far are followed by one more
pub total_more : (line : List ℕ) (first : WrittenTerm) (others new : List Term) (next : Term) (tokens rest after : List Lexeme) → new ≡ others ++ next ∷ [] → tokens ≡ spelled_term first (spelled_terms (map (term_in line) others) rest) → rest ≡ spelled_term (term_in line next) after → tokens ≡ spelled_term first (spelled_terms (map (term_in line) new) after)
total_more line first others new next tokens rest after pushed so_far more =
    let mapped = ap (map (term_in line)) pushed ∙ map_push (term_in line) others next in
    let terms = ap (spelled_terms (map (term_in line) others)) more ∙ sym (terms_push (map (term_in line) others) (term_in line next) after) in
    so_far ∙ ap (spelled_term first) (terms ∙ ap (λ ts. spelled_terms ts after) (sym mapped))
