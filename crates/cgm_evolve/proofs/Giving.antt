-- Lines without a fault, and one line more; the pairs of a text are those that its lines give.
use Rattle.std.proofs.Common.{◌≡◌, ℕ, ◌+◌, ◌++◌, ◌⊎◌, inl, inr, List, [], ◌∷◌, length, map, Option, None, Some, Result, Ok, Err, refl, sym, ap, ◌∙◌, subst, arith, append_assoc, append-nil}
use Rattle.std.specs.List.{filter}
use Rattle.std.proofs.lemmas.List.{length_push, map_push}
use Rattle.std.proofs.lemmas.List.Elements.{filter-append}
use Rattle.cgm_base.specs.declared.fault.BadKind.TheVariants as kinds
use Rattle.cgm_lex.specs.declared.stops.LineFault.{LineFault}
use Rattle.cgm_lex.specs.declared.stops.LineFault.TheVariants as line_faults
use Rattle.cgm_lex.specs.declared.token.Flaw.{Flaw}
use Rattle.cgm_lex.specs.Lexemes.{Lexeme, line_lexemes}
use Rattle.cgm_lex.specs.Lines.{lines}
use Rattle.cgm_lex.specs.Readings.{fails, gives, Lead, lacks_header}
use Rattle.cgm_lex.proofs.Readings.{fails_once, gives_no_fault, said_at_end}
use Rattle.cgm_evolve.specs.Line.{IsFaulty, header_tokens, pair_tokens}
use Rattle.cgm_evolve.specs.Pairs.{ArePairs, Pair}
use Rattle.cgm_evolve.specs.Text.{Follows, Give, HasFault, HasNoHeader, IsFirstFaulty, IsPassed, IsTextOf, earlier_text, has_tokens, pairs_of, tokens_of}
use Rattle.cgm_evolve.proofs.Pushing.{ArePairs-push, no_pairs}

abbrev pub good : List Lexeme → Result (List Lexeme) Flaw
good ts = Ok ts

pub give_none : Give [] None
give_none = record { tokens = []; lexed = refl; said = refl; proper = no_pairs }

lexed_more : (front : List (List ℕ)) (bytes : List ℕ) (all : List (List Lexeme)) (ts : List Lexeme) → map line_lexemes front ≡ map good all → line_lexemes bytes ≡ Ok ts → map line_lexemes (front ++ bytes ∷ []) ≡ map good (all ++ ts ∷ [])
lexed_more front bytes all ts e f =
    map_push line_lexemes front bytes ∙ (ap (λ rs. rs ++ line_lexemes bytes ∷ []) e ∙ (ap (λ r. map good all ++ r ∷ []) f ∙ sym (map_push good all ts)))

said_more : (all : List (List Lexeme)) (ts : List Lexeme) (so_far next : Option (List Pair)) → filter has_tokens all ≡ tokens_of so_far → tokens_of so_far ++ filter has_tokens (ts ∷ []) ≡ tokens_of next → filter has_tokens (all ++ ts ∷ []) ≡ tokens_of next
said_more all ts so_far next e f = filter-append has_tokens all (ts ∷ []) ∙ (ap (λ xs. xs ++ filter has_tokens (ts ∷ [])) e ∙ f)

record Goes (so_far : Option (List Pair)) (ts : List Lexeme) (next : Option (List Pair)) : Type 0 where
  said : tokens_of so_far ++ filter has_tokens (ts ∷ []) ≡ tokens_of next
  proper : ArePairs (pairs_of so_far) → ArePairs (pairs_of next)

goes : (so_far : Option (List Pair)) (ts : List Lexeme) (next : Option (List Pair)) → Follows so_far ts next → Goes so_far ts next
goes so_far [] next follows = subst (Goes so_far []) (sym follows) (record { said = append-nil (tokens_of so_far); proper = λ h. h })
goes None (t ∷ ts) next follows =
    subst (Goes None (t ∷ ts)) (sym follows.1) (record { said = ap (λ xs. xs ∷ []) follows.0; proper = λ h. h })
goes (Some pairs) (t ∷ ts) next (p, (says, fine, is)) =
    subst (Goes (Some pairs) (t ∷ ts)) (sym is) (record {
      said = ap (λ xs. (header_tokens ∷ map pair_tokens pairs) ++ xs ∷ []) says.0 ∙ ap (λ xs. header_tokens ∷ xs) (sym (map_push pair_tokens pairs p));
      proper = λ h. ArePairs-push pairs p h says.1 fine;
    })

pub give_more : (front : List (List ℕ)) (bytes : List ℕ) (so_far next : Option (List Pair)) → Give front so_far → IsPassed bytes so_far next → Give (front ++ bytes ∷ []) next
give_more front bytes so_far next g passed =
    let step = goes so_far passed.tokens next passed.follows in
    record {
      tokens = g.tokens ++ passed.tokens ∷ [];
      lexed = lexed_more front bytes g.tokens passed.tokens g.lexed passed.lexed;
      said = said_more g.tokens passed.tokens so_far next g.said step.said;
      proper = step.proper g.proper;
    }

-- ---- texts

give_lead : (front ls : List (List ℕ)) (so_far next : Option (List Pair)) (line : ℕ) → Give front so_far → Lead earlier_text so_far line ls (gives next) → Give (front ++ ls) next
give_lead front [] so_far next line g end =
    let same : next ≡ so_far = said_at_end (lacks_header so_far) so_far next end in
    subst (λ ls. Give ls next) (sym (append-nil front)) (subst (Give front) (sym same) g)
give_lead front (bytes ∷ more) so_far next line g (Ok said, (passed, later)) =
    subst (λ ls. Give ls next) (append_assoc front (bytes ∷ []) more)
    (give_lead (front ++ bytes ∷ []) more said next (line + 1) (give_more front bytes so_far said g passed) later)
give_lead front (bytes ∷ more) so_far next line g (Err fault, (faulty, later)) = absurd (gives_no_fault next line fault later)

pub gives_lines : (text : List ℕ) (pairs : List Pair) → IsTextOf text pairs → Give (lines text) (Some pairs)
unfolding IsTextOf
gives_lines text pairs comes = give_lead [] (lines text) None (Some pairs) 1 give_none comes

-- ---- the first fault

fault_lead : (front ls : List (List ℕ)) (so_far : Option (List Pair)) (number line : ℕ) (fault : LineFault) → number ≡ length front + 1 → Give front so_far → Lead earlier_text so_far number ls (fails line fault) → IsFirstFaulty (front ++ ls) line fault ⊎ HasNoHeader (front ++ ls) line fault
fault_lead front [] None number line fault place g end =
    let same = fails_once (Option (List Pair)) line 1 fault (line_faults.Bad kinds.Header) end in
    inr (record { given = subst (λ ls. Give ls None) (sym (append-nil front)) g; first = same.0; header = same.1 })
fault_lead front [] (Some pairs) number line fault place g end = absurd (gives_no_fault (Some pairs) line fault (sym end))
fault_lead front (bytes ∷ more) so_far number line fault place g (Ok said, (passed, later)) =
    let next : number + 1 ≡ length (front ++ bytes ∷ []) + 1 = omega (arith, place, length_push front bytes) in
    subst (λ (ls : List (List ℕ)). IsFirstFaulty ls line fault ⊎ HasNoHeader ls line fault) (append_assoc front (bytes ∷ []) more)
    (fault_lead (front ++ bytes ∷ []) more said (number + 1) line fault next (give_more front bytes so_far said g passed) later)
fault_lead front (bytes ∷ more) so_far number line fault place g (Err bad, (faulty, later)) =
    let same = fails_once (Option (List Pair)) line number fault bad later in
    inl (record {
      front = front;
      bytes = bytes;
      rest = more;
      split = refl;
      number = same.0 ∙ place;
      so_far = so_far;
      given = g;
      faulty = subst (λ (f : LineFault). IsFaulty so_far (line_lexemes bytes) f) (sym same.1) faulty;
    })

pub fault_is_first : (text : List ℕ) (line : ℕ) (fault : LineFault) → HasFault text line fault → IsFirstFaulty (lines text) line fault ⊎ HasNoHeader (lines text) line fault
unfolding HasFault
fault_is_first text line fault comes = fault_lead [] (lines text) None 1 line fault refl give_none comes
