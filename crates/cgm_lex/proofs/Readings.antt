-- Lines that are read one after another into a draft, and the one outcome of a text.
use Rattle.std.proofs.Common.{◌≡◌, ℕ, ◌+◌, List, [], ◌∷◌, Option, None, Some, Result, Ok, Err, refl, sym, ap, ◌∙◌, subst}
use Rattle.cgm_lex.specs.declared.stops.LineFault.{LineFault}
use Rattle.cgm_lex.specs.declared.stops.LineFault.TheVariants as line_faults
use Rattle.cgm_lex.specs.declared.stops.LineStop.{LineStop}
use Rattle.cgm_lex.specs.declared.stops.LineStop.TheVariants as line_stops
use Rattle.cgm_lex.specs.declared.token.Flaw.TheVariants as flaws
use Rattle.cgm_lex.specs.declared.token.LexFault.TheVariants as lex_faults
use Rattle.cgm_lex.specs.declared.token.LexStop.{LexStop}
use Rattle.cgm_lex.specs.declared.token.LexStop.TheVariants as lex_stops
use Rattle.cgm_lex.specs.Lexemes.{IsLineStop}
use Rattle.cgm_lex.specs.Lines.{lines}
use Rattle.cgm_lex.specs.Readings.{TextForm, Outcome, gives, fails, IsTextEnd, IsTextOutcome, Lead, Comes, IsDecided, IsNotReadAs, IsReadAs, IsReadWhole, IsStopBy, LineStep, LineStops, Starts, IsFlawed, lexing_stop, stop_at}

-- ---- the loop

-- the draft holds what the lines so far say, and the text comes to what the rest comes to after them
pub record IsReadTo {S D : Type 0} (form : TextForm S) (holds : S → D → Type 0) (text : List ℕ) (number : ℕ) (rest : List ℕ) (draft : D) : Type 0 where
  pub said : S
  pub keeps : holds said draft
  pub leads : (o : Outcome S) → Lead form said number (lines rest) o → Comes form text o

pub read_begins : {S D : Type 0} (form : TextForm S) (holds : S → D → Type 0) (text : List ℕ) (draft : D) → Starts form holds draft → IsReadTo form holds text 1 text draft
read_begins form holds text draft empty = record { said = form.begins; keeps = empty; leads = λ o lead. lead }

pub read_goes_on : {S D : Type 0} (form : TextForm S) (holds : S → D → Type 0) (text line rest after : List ℕ) (number : ℕ) (old new : D) → lines rest ≡ line ∷ lines after → IsReadTo form holds text number rest old → LineStep form holds number line old new → IsReadTo form holds text (number + 1) after new
read_goes_on form holds text line rest after number old new split read step =
    let s = step read.said read.keeps in
    record {
      said = s.0;
      keeps = s.1.1;
      leads = λ o lead.
          let here : Lead form read.said number (line ∷ lines after) o = (Ok s.0, (s.1.0, lead)) in
          read.leads o (subst (λ ls. Lead form read.said number ls o) (sym split) here);
    }

-- the last line, which no line feed ends
pub read_ends : {S D : Type 0} (form : TextForm S) (holds : S → D → Type 0) (text rest : List ℕ) (number : ℕ) (old new : D) → lines rest ≡ rest ∷ [] → IsReadTo form holds text number rest old → LineStep form holds number rest old new → IsReadWhole form holds text new
read_ends form holds text rest number old new split read step =
    let s = step read.said read.keeps in
    record {
      said = s.0;
      keeps = s.1.1;
      leads = λ o end.
          let here : Lead form read.said number (rest ∷ []) o = (Ok s.0, (s.1.0, end)) in
          read.leads o (subst (λ ls. Lead form read.said number ls o) (sym split) here);
    }

fault_leads : {S D : Type 0} (form : TextForm S) (holds : S → D → Type 0) (text line rest : List ℕ) (more : List (List ℕ)) (number : ℕ) (draft : D) (fault : LineFault) → lines rest ≡ line ∷ more → (read : IsReadTo form holds text number rest draft) → form.comes read.said number line (Err fault) → Comes form text (fails number fault)
fault_leads form holds text line rest more number draft fault split read comes =
    let here : Lead form read.said number (line ∷ more) (fails number fault) = (Err fault, (comes, refl)) in
    read.leads (fails number fault) (subst (λ ls. Lead form read.said number ls (fails number fault)) (sym split) here)

not_read_by : {S D : Type 0} (form : TextForm S) (holds : S → D → Type 0) (text line rest : List ℕ) (more : List (List ℕ)) (number : ℕ) (draft : D) (stop : LineStop) → lines rest ≡ line ∷ more → (read : IsReadTo form holds text number rest draft) → IsStopBy (λ fault. form.comes read.said number line (Err fault)) stop → IsNotReadAs form text (stop_at number stop)
not_read_by form holds text line rest more number draft (line_stops.Faulty (line_faults.Bad kind)) split read comes =
    fault_leads form holds text line rest more number draft (line_faults.Bad kind) split read comes
not_read_by form holds text line rest more number draft (line_stops.Faulty (line_faults.Limit which)) split read comes =
    (fault_leads form holds text line rest more number draft (line_faults.Limit which) split read comes, refl)
not_read_by form holds text line rest more number draft line_stops.Memory split read comes = tt

pub read_stops : {S D : Type 0} (form : TextForm S) (holds : S → D → Type 0) (text line rest : List ℕ) (more : List (List ℕ)) (number : ℕ) (draft : D) (stop : LineStop) → lines rest ≡ line ∷ more → IsReadTo form holds text number rest draft → LineStops form holds number line draft stop → IsNotReadAs form text (stop_at number stop)
read_stops form holds text line rest more number draft stop split read stopped =
    not_read_by form holds text line rest more number draft stop split read (stopped read.said read.keeps)

-- ---- the end

ended : {S : Type 0} (said : S) (lack : Option LineFault) → lack ≡ None → IsTextEnd lack said (gives said)
ended said None e = refl
ended said (Some fault) e = cc

pub read_whole : {S D : Type 0} (form : TextForm S) (holds : S → D → Type 0) (text : List ℕ) (draft : D) → IsReadWhole form holds text draft → ((said : S) → holds said draft → form.lacks said ≡ None) → IsReadAs form holds text draft
read_whole form holds text draft whole lacks = record {
  said = whole.said;
  comes = whole.leads (gives whole.said) (ended whole.said (form.lacks whole.said) (lacks whole.said whole.keeps));
  keeps = whole.keeps;
}

lacking : {S : Type 0} (said : S) (lack : Option LineFault) (fault : LineFault) → lack ≡ Some fault → IsTextEnd lack said (fails 1 fault)
lacking said None fault e = cc
lacking said (Some other) fault e = cc

not_whole_by : {S : Type 0} (form : TextForm S) (text : List ℕ) (fault : LineFault) → Comes form text (fails 1 fault) → IsNotReadAs form text (stop_at 1 (line_stops.Faulty fault))
not_whole_by form text (line_faults.Bad kind) comes = comes
not_whole_by form text (line_faults.Limit which) comes = (comes, refl)

pub not_whole : {S D : Type 0} (form : TextForm S) (holds : S → D → Type 0) (text : List ℕ) (draft : D) (fault : LineFault) → IsReadWhole form holds text draft → ((said : S) → holds said draft → form.lacks said ≡ Some fault) → IsNotReadAs form text (stop_at 1 (line_stops.Faulty fault))
not_whole form holds text draft fault whole lacks =
    not_whole_by form text fault (whole.leads (fails 1 fault) (lacking whole.said (form.lacks whole.said) fault (lacks whole.said whole.keeps)))

-- ---- lines without tokens to read

pub flawed : (number : ℕ) (line : List ℕ) (stop : LexStop) → IsLineStop number line stop → IsStopBy (IsFlawed line) (lexing_stop stop)
flawed number line (lex_stops.Fault (lex_faults.BadByte at)) (flaws.BadByte, is) = (flaws.BadByte, (is.0, refl))
flawed number line (lex_stops.Fault (lex_faults.BadByte at)) (flaws.BadNumber, is) = let no = is.1 in cc
flawed number line (lex_stops.Fault (lex_faults.BadNumber at)) (flaws.BadByte, is) = let no = is.1 in cc
flawed number line (lex_stops.Fault (lex_faults.BadNumber at)) (flaws.BadNumber, is) = (flaws.BadNumber, (is.0, refl))
flawed number line lex_stops.Memory is = tt

pub stop_by_more : (P Q : LineFault → Type 0) (stop : LineStop) → ((fault : LineFault) → P fault → Q fault) → IsStopBy P stop → IsStopBy Q stop
stop_by_more P Q (line_stops.Faulty fault) more p = more fault p
stop_by_more P Q line_stops.Memory more p = tt

-- ---- a text has one outcome, and always one

outcome_once : {S : Type 0} (r : Result S LineFault) (line : ℕ) (o p : Outcome S) (A B : S → Type 0) → IsTextOutcome r line o A → IsTextOutcome r line p B → ((said : S) → A said → B said → o ≡ p) → o ≡ p
outcome_once (Ok said) line o p A B a b later = later said a b
outcome_once (Err fault) line o p A B a b later = a ∙ sym b

end_once : {S : Type 0} (lack : Option LineFault) (said : S) (o p : Outcome S) → IsTextEnd lack said o → IsTextEnd lack said p → o ≡ p
end_once None said o p a b = a ∙ sym b
end_once (Some fault) said o p a b = a ∙ sym b

lead_once : {S : Type 0} (form : TextForm S) → IsDecided form → (said : S) (line : ℕ) (ls : List (List ℕ)) (o p : Outcome S) → Lead form said line ls o → Lead form said line ls p → o ≡ p
lead_once form decided said line [] o p a b = end_once (form.lacks said) said o p a b
lead_once {S} form decided said line (bytes ∷ more) o p a b =
    let same = decided.one said line bytes b.0 a.0 b.1.0 a.1.0 in
    let here = subst (λ (r : Result S LineFault). IsTextOutcome r line p (λ next. Lead form next (line + 1) more p)) same b.1.1 in
    outcome_once a.0 line o p (λ next. Lead form next (line + 1) more o) (λ next. Lead form next (line + 1) more p) a.1.1 here (λ next x y. lead_once form decided next (line + 1) more o p x y)

pub one_outcome : {S : Type 0} (form : TextForm S) → IsDecided form → (text : List ℕ) (o p : Outcome S) → Comes form text o → Comes form text p → o ≡ p
one_outcome form decided text o p a b = lead_once form decided form.begins 1 (lines text) o p a b

outcome_some : {S : Type 0} (r : Result S LineFault) (line : ℕ) (L : Outcome S → S → Type 0) → ((said : S) → ((o : Outcome S) → ¬ L o said) → ⊥) → ((o : Outcome S) → ¬ IsTextOutcome r line o (L o)) → ⊥
outcome_some (Ok said) line L later none = later said none
outcome_some (Err fault) line L later none = none (fails line fault) refl

end_some : {S : Type 0} (lack : Option LineFault) (said : S) → ((o : Outcome S) → ¬ IsTextEnd lack said o) → ⊥
end_some None said none = none (gives said) refl
end_some (Some fault) said none = none (fails 1 fault) refl

lead_some : {S : Type 0} (form : TextForm S) → IsDecided form → (said : S) (line : ℕ) (ls : List (List ℕ)) → ((o : Outcome S) → ¬ Lead form said line ls o) → ⊥
lead_some form decided said line [] none = end_some (form.lacks said) said none
lead_some form decided said line (bytes ∷ more) none =
    decided.some said line bytes (λ r comes.
    outcome_some r line (λ o next. Lead form next (line + 1) more o) (λ next never. lead_some form decided next (line + 1) more never) (λ o is. none o (r, (comes, is))))

pub some_outcome : {S : Type 0} (form : TextForm S) → IsDecided form → (text : List ℕ) → ((o : Outcome S) → ¬ Comes form text o) → ⊥
some_outcome form decided text none = lead_some form decided form.begins 1 (lines text) none

gives_once : {S : Type 0} (one other : S) → gives one ≡ gives other → one ≡ other
gives_once one other e = cc

pub gives_no_fault : {S : Type 0} (said : S) (line : ℕ) (fault : LineFault) → gives said ≡ fails line fault → ⊥
gives_no_fault said line fault e = cc

pub fails_once : (S : Type 0) (line other : ℕ) (fault other_fault : LineFault) → ◌≡◌ {A = Outcome S} (fails line fault) (fails other other_fault) → (line ≡ other) × (fault ≡ other_fault)
fails_once S line other fault other_fault e = (cc, cc)

-- a text says one thing at most
pub one_text : {S : Type 0} (form : TextForm S) → IsDecided form → (text : List ℕ) (one other : S) → Comes form text (gives one) → Comes form text (gives other) → one ≡ other
one_text form decided text one other a b = gives_once one other (one_outcome form decided text (gives one) (gives other) a b)

-- and has one first fault at most
pub one_first_fault : {S : Type 0} (form : TextForm S) → IsDecided form → (text : List ℕ) (line other : ℕ) (fault other_fault : LineFault) → Comes form text (fails line fault) → Comes form text (fails other other_fault) → (line ≡ other) × (fault ≡ other_fault)
one_first_fault {S} form decided text line other fault other_fault a b =
    fails_once S line other fault other_fault (one_outcome form decided text (fails line fault) (fails other other_fault) a b)

-- never both
pub text_or_fault : {S : Type 0} (form : TextForm S) → IsDecided form → (text : List ℕ) (said : S) (line : ℕ) (fault : LineFault) → Comes form text (gives said) → Comes form text (fails line fault) → ⊥
text_or_fault form decided text said line fault a b =
    gives_no_fault said line fault (one_outcome form decided text (gives said) (fails line fault) a b)

no_outcome : {S : Type 0} (form : TextForm S) (text : List ℕ) → ((said : S) → ¬ Comes form text (gives said)) → ((line : ℕ) (fault : LineFault) → ¬ Comes form text (fails line fault)) → (o : Outcome S) → ¬ Comes form text o
no_outcome form text no_text no_fault (gives said) comes = no_text said comes
no_outcome form text no_text no_fault (fails line fault) comes = no_fault line fault comes

-- never neither
pub text_or_fault_some : {S : Type 0} (form : TextForm S) → IsDecided form → (text : List ℕ) → ((said : S) → ¬ Comes form text (gives said)) → ((line : ℕ) (fault : LineFault) → ¬ Comes form text (fails line fault)) → ⊥
text_or_fault_some form decided text no_text no_fault = some_outcome form decided text (no_outcome form text no_text no_fault)

-- ---- what a text says lacks nothing

pub said_at_end : {S : Type 0} (lack : Option LineFault) (said x : S) → IsTextEnd lack said (gives x) → x ≡ said
said_at_end None said x e = gives_once x said e
said_at_end (Some fault) said x e = absurd (gives_no_fault x 1 fault e)

end_lacks : {S : Type 0} (form : TextForm S) (said x : S) (lack : Option LineFault) → form.lacks said ≡ lack → IsTextEnd lack said (gives x) → form.lacks x ≡ None
end_lacks {S} form said x None e h = ap (λ (y : S). form.lacks y) (gives_once x said h) ∙ e
end_lacks form said x (Some fault) e h = absurd (gives_no_fault x 1 fault h)

outcome_lacks : {S : Type 0} (r : Result S LineFault) (line : ℕ) (x : S) (L : S → Type 0) (A : Type 0) → IsTextOutcome r line (gives x) L → ((said : S) → L said → A) → A
outcome_lacks (Ok said) line x L A is more = more said is
outcome_lacks (Err fault) line x L A is more = absurd (gives_no_fault x line fault is)

lead_lacks : {S : Type 0} (form : TextForm S) (said x : S) (line : ℕ) (ls : List (List ℕ)) → Lead form said line ls (gives x) → form.lacks x ≡ None
lead_lacks form said x line [] lead = end_lacks form said x (form.lacks said) refl lead
lead_lacks form said x line (bytes ∷ more) lead =
    outcome_lacks lead.0 line x (λ next. Lead form next (line + 1) more (gives x)) (form.lacks x ≡ None) lead.1.1 (λ next is. lead_lacks form next x (line + 1) more is)

pub lacks_nothing : {S : Type 0} (form : TextForm S) (text : List ℕ) (said : S) → Comes form text (gives said) → form.lacks said ≡ None
lacks_nothing form text said comes = lead_lacks form form.begins said 1 (lines text) comes
