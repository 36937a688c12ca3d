-- A text has one outcome, and always one: its pairs or its first fault.
use Rattle.std.proofs.Common.{◌≡◌, ℕ, ◌++◌, inl, inr, Bool, true, false, List, [], ◌∷◌, Option, None, Some, Result, Ok, Err, refl, sym, ap, ◌∙◌, subst}
use Rattle.cgm_base.specs.declared.fault.BadKind.TheVariants as kinds
use Rattle.cgm_base.specs.Printed.{truth_word}
use Rattle.cgm_lex.specs.declared.stops.LineFault.{LineFault}
use Rattle.cgm_lex.specs.declared.stops.LineFault.TheVariants as line_faults
use Rattle.cgm_lex.specs.declared.token.Flaw.{Flaw}
use Rattle.cgm_lex.specs.Lexemes.{Lexeme, line_lexemes}
use Rattle.cgm_lex.specs.Readings.{gives, Comes, IsDecided, flaw_kind}
use Rattle.cgm_lex.proofs.Readings.{lacks_nothing, one_first_fault, one_text, text_or_fault, text_or_fault_some}
use Rattle.cgm_evolve.specs.Line.{AreFaulty, ArePairFault, IsFaulty, SayPair, name_fault, pair_tokens}
use Rattle.cgm_evolve.specs.Pairs.{Pair}
use Rattle.cgm_evolve.specs.Text.{Follows, HasFault, IsPassed, IsTextOf, LineComesTo, earlier_text}
use Rattle.cgm_evolve.proofs.Giving.{good}

-- ---- tokens say one thing

first_bytes : truth_word true ≡ truth_word false → ⊥
first_bytes e = cc

truth_once : (a b : Bool) → truth_word a ≡ truth_word b → a ≡ b
truth_once true true e = refl
truth_once true false e = absurd (first_bytes e)
truth_once false true e = absurd (first_bytes (sym e))
truth_once false false e = refl

pub pair_once : (p q : Pair) → pair_tokens p ≡ pair_tokens q → p ≡ q
pair_once (n, a) (m, b) e =
    let names : n ≡ m = cc in
    let words : truth_word a ≡ truth_word b = cc in
    let truths = truth_once a b words in
    cc

-- a line has one fault at most
pair_faults_once : (pairs : List Pair) (ts : List Lexeme) (f g : LineFault) → ArePairFault pairs ts f → ArePairFault pairs ts g → f ≡ g
pair_faults_once pairs ts f g (inl a) (inl b) = a.1 ∙ sym b.1
pair_faults_once pairs ts f g (inl a) (inr (q, (says, bad))) = absurd (a.0 q says)
pair_faults_once pairs ts f g (inr (p, (says, bad))) (inl b) = absurd (b.0 p says)
pair_faults_once pairs ts f g (inr (p, (says, bad))) (inr (q, (says_too, bad_too))) =
    let same = pair_once p q (sym says.0 ∙ says_too.0) in
    let faults : Some f ≡ Some g = sym bad ∙ (ap (λ (r : Pair). name_fault pairs r.0) same ∙ bad_too) in
    cc

faults_once : (so_far : Option (List Pair)) (r : Result (List Lexeme) Flaw) (f g : LineFault) → IsFaulty so_far r f → IsFaulty so_far r g → f ≡ g
faults_once so_far (Err flaw) f g a b = a ∙ sym b
faults_once so_far (Ok []) f g a b = absurd a
faults_once None (Ok (t ∷ ts)) f g a b = a.1 ∙ sym b.1
faults_once (Some pairs) (Ok (t ∷ ts)) f g a b = pair_faults_once pairs (t ∷ ts) f g a b

-- a line has a fault or is passed
named_some : (pairs : List Pair) (ts : List Lexeme) (p : Pair) (o : Option LineFault) → name_fault pairs p.0 ≡ o → SayPair ts p → ((fault : LineFault) → ¬ ArePairFault pairs ts fault) → (name_fault pairs p.0 ≡ None → ⊥) → ⊥
named_some pairs ts p None e says none passes = passes e
named_some pairs ts p (Some fault) e says none passes = none fault (inr (p, (says, e)))

line_some : (so_far : Option (List Pair)) (r : Result (List Lexeme) Flaw) → ((fault : LineFault) → ¬ IsFaulty so_far r fault) → ((ts : List Lexeme) (next : Option (List Pair)) → r ≡ Ok ts → Follows so_far ts next → ⊥) → ⊥
line_some so_far (Err flaw) none passes = none (line_faults.Bad (flaw_kind flaw)) refl
line_some so_far (Ok []) none passes = passes [] so_far refl refl
line_some None (Ok (t ∷ ts)) none passes = none (line_faults.Bad kinds.Header) ((λ is. passes (t ∷ ts) (Some []) refl (is, refl)), refl)
line_some (Some pairs) (Ok (t ∷ ts)) none passes =
    none (line_faults.Bad kinds.Form)
    (inl ((λ p says. named_some pairs (t ∷ ts) p (name_fault pairs p.0) refl says none (λ e. passes (t ∷ ts) (Some (pairs ++ p ∷ [])) refl (p, (says, e, refl)))), refl))

-- ---- a line comes to one thing, and always to one

follows_once : (so_far : Option (List Pair)) (ts : List Lexeme) (x y : Option (List Pair)) → Follows so_far ts x → Follows so_far ts y → x ≡ y
follows_once so_far [] x y a b = a ∙ sym b
follows_once None (t ∷ ts) x y a b = a.1 ∙ sym b.1
follows_once (Some pairs) (t ∷ ts) x y (p, (says, fine, is)) (q, (says_too, fine_too, is_too)) =
    let same = pair_once p q (sym says.0 ∙ says_too.0) in
    is ∙ (ap (λ (r : Pair). Some (pairs ++ r ∷ [])) same ∙ sym is_too)

not_faulty : (so_far : Option (List Pair)) (ts : List Lexeme) (x : Option (List Pair)) (fault : LineFault) → Follows so_far ts x → AreFaulty so_far ts fault → ⊥
not_faulty so_far [] x fault a b = b
not_faulty None (t ∷ ts) x fault a b = b.0 a.0
not_faulty (Some pairs) (t ∷ ts) x fault (p, (says, fine, is)) (inl b) = b.0 p says
not_faulty (Some pairs) (t ∷ ts) x fault (p, (says, fine, is)) (inr (q, (says_too, bad))) =
    let same = pair_once q p (sym says_too.0 ∙ says.0) in
    let none : name_fault pairs q.0 ≡ None = ap (λ (r : Pair). name_fault pairs r.0) same ∙ fine in
    let no : Some fault ≡ None = sym bad ∙ none in
    cc

tokens_once : (ts us : List Lexeme) → good ts ≡ good us → ts ≡ us
tokens_once ts us e = cc

passed_once : (bytes : List ℕ) (so_far x y : Option (List Pair)) → IsPassed bytes so_far x → IsPassed bytes so_far y → x ≡ y
passed_once bytes so_far x y a b =
    let same = tokens_once a.tokens b.tokens (sym a.lexed ∙ b.lexed) in
    follows_once so_far b.tokens x y (subst (λ ts. Follows so_far ts x) same a.follows) b.follows

passed_fine : (bytes : List ℕ) (so_far x : Option (List Pair)) (fault : LineFault) → IsPassed bytes so_far x → IsFaulty so_far (line_lexemes bytes) fault → ⊥
passed_fine bytes so_far x fault a bad =
    not_faulty so_far a.tokens x fault a.follows (subst (λ (r : Result (List Lexeme) Flaw). IsFaulty so_far r fault) a.lexed bad)

comes_once : (so_far : Option (List Pair)) (line : ℕ) (bytes : List ℕ) (a b : Result (Option (List Pair)) LineFault) → LineComesTo so_far line bytes a → LineComesTo so_far line bytes b → a ≡ b
comes_once so_far line bytes (Ok x) (Ok y) a b = ap (λ (z : Option (List Pair)). Ok z) (passed_once bytes so_far x y a b)
comes_once so_far line bytes (Ok x) (Err g) a b = absurd (passed_fine bytes so_far x g a b)
comes_once so_far line bytes (Err f) (Ok y) a b = absurd (passed_fine bytes so_far y f b a)
comes_once so_far line bytes (Err f) (Err g) a b = ap (λ (h : LineFault). Err h) (faults_once so_far (line_lexemes bytes) f g a b)

comes_some : (so_far : Option (List Pair)) (line : ℕ) (bytes : List ℕ) → ((r : Result (Option (List Pair)) LineFault) → ¬ LineComesTo so_far line bytes r) → ⊥
comes_some so_far line bytes none =
    line_some so_far (line_lexemes bytes) (λ fault bad. none (Err fault) bad)
    (λ ts next lexed follows. none (Ok next) (record { tokens = ts; lexed = lexed; follows = follows }))

pub earlier_text_decided : IsDecided earlier_text
earlier_text_decided = record { one = comes_once; some = comes_some }

-- ---- the laws

said_once : (one other : List Pair) → Some one ≡ Some other → one ≡ other
said_once one other e = cc

no_lack : (fault : LineFault) → Some fault ≡ None → ⊥
no_lack fault e = cc

pub never_both : (text : List ℕ) (pairs : List Pair) (line : ℕ) (fault : LineFault) → IsTextOf text pairs → HasFault text line fault → ⊥
unfolding IsTextOf HasFault
never_both text pairs line fault a b = text_or_fault earlier_text earlier_text_decided text (Some pairs) line fault a b

pub one_list : (text : List ℕ) (one other : List Pair) → IsTextOf text one → IsTextOf text other → one ≡ other
unfolding IsTextOf
one_list text one other a b = said_once one other (one_text earlier_text earlier_text_decided text (Some one) (Some other) a b)

pub one_fault : (text : List ℕ) (line other : ℕ) (fault other_fault : LineFault) → HasFault text line fault → HasFault text other other_fault → (line ≡ other) × (fault ≡ other_fault)
unfolding HasFault
one_fault text line other fault other_fault a b = one_first_fault earlier_text earlier_text_decided text line other fault other_fault a b

no_text : (text : List ℕ) → ((pairs : List Pair) → ¬ IsTextOf text pairs) → (so_far : Option (List Pair)) → ¬ Comes earlier_text text (gives so_far)
unfolding IsTextOf
no_text text no_pairs None comes = no_lack (line_faults.Bad kinds.Header) (lacks_nothing earlier_text text None comes)
no_text text no_pairs (Some pairs) comes = no_pairs pairs comes

pub never_neither : (text : List ℕ) → ((pairs : List Pair) → ¬ IsTextOf text pairs) → ((line : ℕ) (fault : LineFault) → ¬ HasFault text line fault) → ⊥
unfolding HasFault
never_neither text no_pairs no_fault = text_or_fault_some earlier_text earlier_text_decided text (no_text text no_pairs) no_fault
