-- A line comes to one thing, and always to something.
use Rattle.std.proofs.Common.{◌≡◌, ◌↔◌, ℕ, Bool, true, false, IsTrue, List, [], ◌∷◌, Option, None, Some, Result, Ok, Err, refl, sym, ap, ◌∙◌, subst, true≢false}
use Rattle.cgm_base.specs.declared.fault.BadKind.{BadKind}
use Rattle.cgm_base.specs.declared.fault.BadKind.TheVariants as kinds
use Rattle.cgm_base.specs.declared.limit.Which.TheVariants as limits
use Rattle.cgm_lex.specs.declared.token.Flaw.{Flaw}
use Rattle.cgm_lex.specs.Lexemes.{Lexeme, line_lexemes}
use Rattle.cgm_model.specs.declared.lists.Lists.{Lists}
use Rattle.cgm_model.specs.declared.lists.Statement.{Statement}
use Rattle.cgm_model.specs.declared.stop.AddStop.{AddStop}
use Rattle.cgm_model.specs.declared.stop.AddStop.TheVariants as stops
use Rattle.cgm_model.specs.declared.stop.Fault.{Fault}
use Rattle.cgm_model.specs.Graph.{IsAcyclic}
use Rattle.cgm_model.specs.Lists.{added}
use Rattle.cgm_model.specs.Statement.{IsAllowed, IsNotAdded, refusal}
use Rattle.cgm_model.proofs.Refusals.{IsAllowed-passed, IsNotAdded-refused}
use Rattle.cgm_model.proofs.Verdicts.{refused_not_allowed, refused_once}
use Rattle.cgm_lex.specs.declared.stops.LineFault.{LineFault}
use Rattle.cgm_lex.specs.declared.stops.LineFault.TheVariants as line_faults
use Rattle.cgm_lex.specs.Readings.{flaw_kind}
use Rattle.cgm_text.specs.Line.{Verdict, nothing, header, says, faulty, refusal_kind, Form, no_word, no_form, written, HasForm, IsRefusedAs, IsJudged, IsNamedJudged, IsFormJudged, AreJudged, AreFirst, AreShallowJudged, nests_too_deep, AreLexemesJudged, ComesTo}
use Rattle.cgm_text.specs.Meaning.{statement_of}
use Rattle.cgm_print.specs.Statements.{sort_of, body}
use Rattle.cgm_text.specs.Uses.{first_name_fault, statement_uses}
use Rattle.cgm_text.proofs.Forms.{statement_once}

-- forms

form_once : (tokens : List Lexeme) (a b : Form) → HasForm tokens a → HasForm tokens b → a ≡ b
form_once tokens no_word no_word x y = refl
form_once tokens no_word no_form x y = absurd (x y.0.sort y.0.after y.0.begins)
form_once tokens no_word (written s) x y = absurd (x (sort_of s) (body s) y)
form_once tokens no_form no_word x y = absurd (y x.0.sort x.0.after x.0.begins)
form_once tokens no_form no_form x y = refl
form_once tokens no_form (written s) x y = absurd (x.1 s y)
form_once tokens (written s) no_word x y = absurd (y (sort_of s) (body s) x)
form_once tokens (written s) no_form x y = absurd (y.1 s x)
form_once tokens (written s) (written t) x y = ap written (statement_once s t (sym x ∙ y))

-- refusals

refused_fault : (one other : Fault) → stops.Refused one ≡ stops.Refused other → one ≡ other
refused_fault one other e = cc

refused_as_once : (m : Lists) (s : Statement) (f g : LineFault) → IsRefusedAs m s f → IsRefusedAs m s g → f ≡ g
refused_as_once m s (line_faults.Bad k) (line_faults.Bad l) x y =
    let same = refused_fault x.0 y.0 (refused_once m s (stops.Refused x.0) (stops.Refused y.0) x.1.0 y.1.0) in
    ap line_faults.Bad (x.1.1 ∙ (ap refusal_kind same ∙ sym y.1.1))
refused_as_once m s (line_faults.Bad k) (line_faults.Limit v) x y =
    let same = refused_once m s (stops.Refused x.0) (stops.Limit v) x.1.0 y in
    cc
refused_as_once m s (line_faults.Limit u) (line_faults.Bad l) x y =
    let same = refused_once m s (stops.Limit u) (stops.Refused y.0) x y.1.0 in
    cc
refused_as_once m s (line_faults.Limit u) (line_faults.Limit v) x y =
    let same = refused_once m s (stops.Limit u) (stops.Limit v) x y in
    cc

refused_as_not_allowed : (m : Lists) (s : Statement) (f : LineFault) → IsRefusedAs m s f → IsAllowed m s → ⊥
refused_as_not_allowed m s (line_faults.Bad k) x allowed = refused_not_allowed m s (stops.Refused x.0) x.1.0 allowed
refused_as_not_allowed m s (line_faults.Limit u) x allowed = refused_not_allowed m s (stops.Limit u) x allowed

-- verdicts

judged_once : (m : Lists) (s : Statement) (v w : Verdict) → IsJudged m s v → IsJudged m s w → v ≡ w
judged_once m s nothing w x y = absurd x
judged_once m s header w x y = absurd x
judged_once m s (says t) nothing x y = absurd y
judged_once m s (says t) header x y = absurd y
judged_once m s (says t) (says u) x y = ap says (x.0 ∙ sym y.0)
judged_once m s (says t) (faulty g) x y = absurd (refused_as_not_allowed m s g y x.1)
judged_once m s (faulty f) nothing x y = absurd y
judged_once m s (faulty f) header x y = absurd y
judged_once m s (faulty f) (says u) x y = absurd (refused_as_not_allowed m s f x y.1)
judged_once m s (faulty f) (faulty g) x y = ap faulty (refused_as_once m s f g x y)

named_judged_once : (bad : Option BadKind) (m : Lists) (s : Statement) (v w : Verdict) → IsNamedJudged bad m s v → IsNamedJudged bad m s w → v ≡ w
named_judged_once (Some kind) m s v w x y = x ∙ sym y
named_judged_once None m s v w x y = judged_once m s v w x y

form_judged_once : (m : Lists) (form : Form) (v w : Verdict) → IsFormJudged m form v → IsFormJudged m form w → v ≡ w
form_judged_once m no_word v w x y = x ∙ sym y
form_judged_once m no_form v w x y = x ∙ sym y
form_judged_once m (written s) v w x y = named_judged_once (first_name_fault m (statement_uses s)) m (statement_of m s) v w x y

are_judged_once : (m : Lists) (tokens : List Lexeme) (v w : Verdict) → AreJudged m tokens v → AreJudged m tokens w → v ≡ w
are_judged_once m tokens v w x y =
    let same = form_once tokens y.0 x.0 y.1.0 x.1.0 in
    form_judged_once m x.0 v w x.1.1 (subst (λ form. IsFormJudged m form w) same y.1.1)

first_once : (tokens : List Lexeme) (v w : Verdict) → AreFirst tokens v → AreFirst tokens w → v ≡ w
first_once tokens nothing w x y = absurd x
first_once tokens (says s) w x y = absurd x
first_once tokens header nothing x y = absurd y
first_once tokens header header x y = refl
first_once tokens header (says t) x y = absurd y
first_once tokens header (faulty g) x y = absurd (y.0 x)
first_once tokens (faulty f) nothing x y = absurd y
first_once tokens (faulty f) header x y = absurd (x.0 y)
first_once tokens (faulty f) (says t) x y = absurd y
first_once tokens (faulty f) (faulty g) x y = ap faulty (x.1 ∙ sym y.1)

shallow_once : (deep : Bool) (before : Option Lists) (tokens : List Lexeme) (v w : Verdict) → AreShallowJudged deep before tokens v → AreShallowJudged deep before tokens w → v ≡ w
shallow_once true before tokens v w x y = x ∙ sym y
shallow_once false None tokens v w x y = first_once tokens v w x y
shallow_once false (Some m) tokens v w x y = are_judged_once m tokens v w x y

lexemes_once : (before : Option Lists) (r : Result (List Lexeme) Flaw) (v w : Verdict) → AreLexemesJudged before r v → AreLexemesJudged before r w → v ≡ w
lexemes_once before (Err flaw) v w x y = x ∙ sym y
lexemes_once before (Ok []) v w x y = x ∙ sym y
lexemes_once before (Ok (token ∷ tokens)) v w x y =
    shallow_once (nests_too_deep (token ∷ tokens)) before (token ∷ tokens) v w x y

pub verdict_once : (before : Option Lists) (line : List ℕ) (v w : Verdict) → ComesTo before line v → ComesTo before line w → v ≡ w
verdict_once before line v w x y = lexemes_once before (line_lexemes line) v w x y

-- there is always a verdict

abbrev Never : (Verdict → Type 0) → Type 0
Never P = (v : Verdict) → ¬ P v

not_added_some : (m : Lists) (s : Statement) (stop : AddStop) → IsNotAdded m s stop → Never (IsJudged m s) → ⊥
not_added_some m s (stops.Refused f) refused none = none (faulty (line_faults.Bad (refusal_kind f))) (f, (refused, refl))
not_added_some m s (stops.Limit which) refused none = none (faulty (line_faults.Limit which)) refused
not_added_some m s stops.Memory allowed none = none (says s) (refl, allowed)

refused_some : (m : Lists) (s : Statement) (acyclic : Bool) (answer : Option AddStop) → refusal m s acyclic ≡ answer → IsTrue acyclic ↔ IsAcyclic (added m s).refinements → Never (IsJudged m s) → ⊥
refused_some m s acyclic None e decides none = none (says s) (refl, IsAllowed-passed m s acyclic decides e)
refused_some m s acyclic (Some stop) e decides none = not_added_some m s stop (IsNotAdded-refused m s acyclic stop decides e) none

statement_some : (m : Lists) (s : Statement) → Never (IsJudged m s) → ⊥
statement_some m s none =
    let cyclic : IsAcyclic (added m s).refinements → ⊥ =
    λ acyclic. refused_some m s true (refusal m s true) refl ((λ _. acyclic), (λ _. refl)) none in
    refused_some m s false (refusal m s false) refl ((λ e. absurd (true≢false (sym e))), (λ acyclic. absurd (cyclic acyclic))) none

named_some : (bad : Option BadKind) (m : Lists) (s : Statement) → Never (IsNamedJudged bad m s) → ⊥
named_some (Some kind) m s none = none (faulty (line_faults.Bad kind)) refl
named_some None m s none = statement_some m s none

form_judged_some : (m : Lists) (form : Form) → Never (IsFormJudged m form) → ⊥
form_judged_some m no_word none = none (faulty (line_faults.Bad kinds.Statement)) refl
form_judged_some m no_form none = none (faulty (line_faults.Bad kinds.Form)) refl
form_judged_some m (written s) none = named_some (first_name_fault m (statement_uses s)) m (statement_of m s) none

form_some : (tokens : List Lexeme) → ((form : Form) → ¬ HasForm tokens form) → ⊥
form_some tokens none =
    none no_word (λ sort after begins.
    none no_form (record { sort = sort; after = after; begins = begins }, λ s is. none (written s) is))

judged_some : (m : Lists) (tokens : List Lexeme) → Never (AreJudged m tokens) → ⊥
judged_some m tokens none =
    form_some tokens (λ form has. form_judged_some m form (λ v judged. none v (form, (has, judged))))

shallow_some : (deep : Bool) (before : Option Lists) (tokens : List Lexeme) → Never (AreShallowJudged deep before tokens) → ⊥
shallow_some true before tokens none = none (faulty (line_faults.Limit limits.FormulaDepth)) refl
shallow_some false None tokens none = none (faulty (line_faults.Bad kinds.Header)) ((λ is. none header is), refl)
shallow_some false (Some m) tokens none = judged_some m tokens none

lexemes_some : (before : Option Lists) (r : Result (List Lexeme) Flaw) → Never (AreLexemesJudged before r) → ⊥
lexemes_some before (Err flaw) none = none (faulty (line_faults.Bad (flaw_kind flaw))) refl
lexemes_some before (Ok []) none = none nothing refl
lexemes_some before (Ok (token ∷ tokens)) none = shallow_some (nests_too_deep (token ∷ tokens)) before (token ∷ tokens) none

pub verdict_some : (before : Option Lists) (line : List ℕ) → ((v : Verdict) → ¬ ComesTo before line v) → ⊥
verdict_some before line none = lexemes_some before (line_lexemes line) none
