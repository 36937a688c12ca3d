-- What one more line makes of what the reader has so far.
use Rattle.std.proofs.Common.{◌≡◌, ◌≢◌, ℕ, Bool, true, false, List, [], ◌∷◌, ◌++◌, Option, None, Some, Result, Ok, Err, OnOk, IfErr, refl, sym, ap, ◌∙◌, subst, true≢false}
use Rattle.std.specs.Option.{option_map}
use Rattle.std.proofs.lemmas.List.{append-nil, append_assoc}
use Rattle.cgm_base.specs.declared.fault.BadKind.TheVariants as kinds
use Rattle.cgm_base.specs.declared.limit.Which.TheVariants as limits
use Rattle.cgm_lex.specs.declared.stops.LineFault.{LineFault}
use Rattle.cgm_lex.specs.declared.stops.LineFault.TheVariants as line_faults
use Rattle.cgm_lex.specs.declared.stops.LineStop.{LineStop}
use Rattle.cgm_lex.specs.declared.stops.LineStop.TheVariants as line_stops
use Rattle.cgm_lex.specs.declared.stops.TextStop.{TextStop}
use Rattle.cgm_lex.specs.declared.stops.TextStop.TheVariants as stops
use Rattle.cgm_lex.specs.declared.token.Flaw.{Flaw}
use Rattle.cgm_lex.specs.declared.token.LexStop.{LexStop}
use Rattle.cgm_lex.specs.Lexemes.{Lexeme, IsLineStop, line_lexemes}
use Rattle.cgm_lex.specs.Readings.{gives, Comes, IsFlawed, IsNotReadAs, IsReadAs, IsStopBy, LineStep, LineStops, lacks_header, lexing_stop}
use Rattle.cgm_lex.proofs.Readings.{flawed, lacks_nothing, stop_by_more}
use Rattle.cgm_model.specs.declared.lists.Lists.{Lists}
use Rattle.cgm_model.specs.declared.lists.Statement.{Statement}
use Rattle.cgm_model.specs.declared.stop.AddStop.{AddStop}
use Rattle.cgm_model.specs.declared.stop.AddStop.TheVariants as add_stops
use Rattle.cgm_model.specs.Lists.{no_lists, added}
use Rattle.cgm_model.specs.Model.{lists_of}
use Rattle.cgm_model.specs.Statement.{IsNotAdded}
use Rattle.cgm_print.specs.Statements.{header_tokens}
use Rattle.cgm_text.specs.declared.draft.ModelDraft.{ModelDraft}
use Rattle.cgm_text.specs.declared.reader.Reading.{Reading}
use Rattle.cgm_text.specs.Line.{Verdict, nothing, header, says, faulty, written, IsFormJudged, IsNamedJudged, IsJudged, AreFirst, AreJudged, AreShallowJudged, AreLexemesJudged, ComesTo, nests_too_deep}
use Rattle.cgm_text.specs.Meaning.{statement_of}
use Rattle.cgm_text.specs.Progress.{IsStatementAdded, IsModelDraft, IsFinished, MakesStatement, IsStatementPut, IsStatementStep, IsFaultOrMemory, IsStopAfter, line_stop, tokens_come_to}
use Rattle.cgm_text.specs.Text.{LineComesTo, LineStatement, on_line, all_added, model_of, model_text, rule_line, rule_lines, HasFault, HasStatements, IsReading, IsNotRead}

-- lists

pub all_added_push : (m : Lists) (said : List LineStatement) (s : LineStatement) → all_added m (said ++ s ∷ []) ≡ added (all_added m said) s.statement
all_added_push m [] s = refl
all_added_push m (t ∷ said) s = all_added_push (added m t.statement) said s

pub rule_lines_push : (said : List LineStatement) (line : ℕ) (s : Statement) → rule_lines (said ++ on_line line s ∷ []) ≡ rule_lines said ++ rule_line line s
rule_lines_push [] line s = append-nil (rule_line line s)
rule_lines_push (t ∷ said) line s =
    ap (λ ls. rule_line t.line t.statement ++ ls) (rule_lines_push said line s) ∙ sym (append_assoc (rule_line t.line t.statement) (rule_lines said) (rule_line line s))

-- stops

pub stop_more : (P Q : Verdict → Type 0) (stop : LineStop) → ((fault : LineFault) → P (faulty fault) → Q (faulty fault)) → IsFaultOrMemory P stop → IsFaultOrMemory Q stop
stop_more P Q (line_stops.Faulty fault) more p = more fault p
stop_more P Q line_stops.Memory more p = tt

-- a statement that isn't added
pub not_added_stop : (m : Lists) (s : Statement) (stop : AddStop) → IsNotAdded m s stop → IsFaultOrMemory (IsJudged m s) (line_stop stop)
not_added_stop m s (add_stops.Refused fault) refused = (fault, (refused, refl))
not_added_stop m s (add_stops.Limit which) refused = refused
not_added_stop m s add_stops.Memory allowed = tt

-- tokens of a made statement are judged as the statement is
pub made_judged : (m : Lists) (tokens : List Lexeme) (s : Statement) (v : Verdict) → MakesStatement m tokens s → IsJudged m s v → AreJudged m tokens v
made_judged m tokens s v made judged =
    let named = subst (λ t. IsJudged m t v) (sym made.meaning) judged in
    let form : IsFormJudged m (written made.source) v =
    subst (λ bad. IsNamedJudged bad m (statement_of m made.source) v) (sym made.names) named in
    (written made.source, (made.spelled, form))

on_ok_more : {X : Type 0} (A B : Type 0) (r : Result X LineStop) → (A → B) → OnOk r A → OnOk r B
on_ok_more A B (Ok x) more a = more a
on_ok_more A B (Err stop) more a = tt

pub put_added : {X : Type 0} (tokens : List Lexeme) (line : ℕ) (s : Statement) (old new : ModelDraft) (r : Result X LineStop) → MakesStatement old.builder tokens s → OnOk r (IsStatementPut line s old new) → OnOk r (IsStatementAdded line tokens old new)
put_added tokens line s old new r made put =
    on_ok_more (IsStatementPut line s old new) (IsStatementAdded line tokens old new) r
    (λ is. record {
      statement = s;
      judged = made_judged old.builder tokens s (says s) made (refl, is.allowed);
      header = is.header;
      lists = is.lists;
      lines = is.lines;
    }) put

pub put_stop : {X : Type 0} (m : Lists) (tokens : List Lexeme) (s : Statement) (r : Result X LineStop) → MakesStatement m tokens s → IfErr r (IsFaultOrMemory (IsJudged m s)) → IfErr r (IsFaultOrMemory (AreJudged m tokens))
put_stop m tokens s (Ok x) made stopped = tt
put_stop m tokens s (Err stop) made stopped =
    stop_more (IsJudged m s) (AreJudged m tokens) stop (λ fault judged. made_judged m tokens s (faulty fault) made judged) stopped

-- tokens

there : (deep : Bool) (before : Option Lists) (tokens : List Lexeme) (v : Verdict) → tokens ≢ [] → nests_too_deep tokens ≡ deep → AreShallowJudged deep before tokens v → tokens_come_to tokens before v
there deep before [] v some e judged = absurd (some refl)
there deep before (token ∷ tokens) v some e judged = subst (λ b. AreShallowJudged b before (token ∷ tokens) v) (sym e) judged

pub nothing_step : (tokens : List Lexeme) (line : ℕ) (draft : ModelDraft) → tokens ≡ [] → IsStatementStep (tokens_come_to tokens) line draft draft
nothing_step tokens line draft e so_far is = record {
  verdict = nothing;
  judged = subst (λ ts. tokens_come_to ts (option_map model_of so_far) nothing) (sym e) refl;
  next = so_far;
  passes = refl;
  leaves = is;
}

pub deep_stop : (tokens : List Lexeme) (draft : ModelDraft) → tokens ≢ [] → nests_too_deep tokens ≡ true → IsStopAfter (tokens_come_to tokens) draft (line_stops.Faulty (line_faults.Limit limits.FormulaDepth))
deep_stop tokens draft some deep so_far is =
    there true (option_map model_of so_far) tokens (faulty (line_faults.Limit limits.FormulaDepth)) some deep refl

pub statement_step : (tokens : List Lexeme) (line : ℕ) (old new : ModelDraft) → tokens ≢ [] → nests_too_deep tokens ≡ false → old.has_header ≡ true → IsStatementAdded line tokens old new → IsStatementStep (tokens_come_to tokens) line old new
statement_step tokens line old new some shallow begun is_added None is = absurd (true≢false (sym begun ∙ is.header))
statement_step tokens line old new some shallow begun is_added (Some said) is =
    let s = is_added.statement in
    let judged = subst (λ m. AreJudged m tokens (says s)) is.lists is_added.judged in
    record {
      verdict = says s;
      judged = there false (Some (model_of said)) tokens (says s) some shallow judged;
      next = Some (said ++ on_line line s ∷ []);
      passes = refl;
      leaves = record {
        header = is_added.header ∙ begun;
        lists = is_added.lists ∙ (ap (λ m. added m s) is.lists ∙ sym (all_added_push no_lists said (on_line line s)));
        lines = is_added.lines ∙ (ap (λ ls. ls ++ rule_line line s) is.lines ∙ sym (rule_lines_push said line s));
      };
    }

pub added_step : {X : Type 0} (tokens : List Lexeme) (line : ℕ) (old new : ModelDraft) (r : Result X LineStop) → tokens ≢ [] → nests_too_deep tokens ≡ false → old.has_header ≡ true → OnOk r (IsStatementAdded line tokens old new) → OnOk r (IsStatementStep (tokens_come_to tokens) line old new)
added_step tokens line old new r some shallow begun is_added =
    on_ok_more (IsStatementAdded line tokens old new) (IsStatementStep (tokens_come_to tokens) line old new) r (statement_step tokens line old new some shallow begun) is_added

pub statement_stop : (tokens : List Lexeme) (draft : ModelDraft) (stop : LineStop) → tokens ≢ [] → nests_too_deep tokens ≡ false → draft.has_header ≡ true → IsFaultOrMemory (AreJudged draft.builder tokens) stop → IsStopAfter (tokens_come_to tokens) draft stop
statement_stop tokens draft stop some shallow begun judged None is = absurd (true≢false (sym begun ∙ is.header))
statement_stop tokens draft stop some shallow begun judged (Some said) is =
    stop_more (AreJudged draft.builder tokens) (tokens_come_to tokens (Some (model_of said))) stop
    (λ fault j. there false (Some (model_of said)) tokens (faulty fault) some shallow (subst (λ m. AreJudged m tokens (faulty fault)) is.lists j)) judged

pub header_step : (tokens : List Lexeme) (line : ℕ) (old new : ModelDraft) → tokens ≢ [] → nests_too_deep tokens ≡ false → old.has_header ≡ false → tokens ≡ header_tokens → new.has_header ≡ true → new.builder ≡ old.builder → new.rule_lines.items ≡ old.rule_lines.items → IsStatementStep (tokens_come_to tokens) line old new
header_step tokens line old new some shallow unbegun is_header begun lists_are lines_are None is = record {
  verdict = header;
  judged = there false None tokens header some shallow is_header;
  next = Some [];
  passes = refl;
  leaves = record { header = begun; lists = lists_are ∙ is.lists; lines = lines_are ∙ is.lines };
}
header_step tokens line old new some shallow unbegun is_header begun lists_are lines_are (Some said) is =
    absurd (true≢false (sym is.header ∙ unbegun))

pub begun_step : {X : Type 0} (tokens : List Lexeme) (line : ℕ) (old new : ModelDraft) (r : Result X LineStop) → tokens ≢ [] → nests_too_deep tokens ≡ false → old.has_header ≡ false → OnOk r (tokens ≡ header_tokens) → OnOk r (new.has_header ≡ true) → new.builder ≡ old.builder → new.rule_lines.items ≡ old.rule_lines.items → OnOk r (IsStatementStep (tokens_come_to tokens) line old new)
begun_step tokens line old new (Ok x) some shallow unbegun is_header begun lists_are lines_are =
    header_step tokens line old new some shallow unbegun is_header begun lists_are lines_are
begun_step tokens line old new (Err stop) some shallow unbegun is_header begun lists_are lines_are = tt

pub header_stop : (tokens : List Lexeme) (draft : ModelDraft) (stop : LineStop) → tokens ≢ [] → nests_too_deep tokens ≡ false → draft.has_header ≡ false → IsFaultOrMemory (AreFirst tokens) stop → IsStopAfter (tokens_come_to tokens) draft stop
header_stop tokens draft stop some shallow unbegun first None is =
    stop_more (AreFirst tokens) (tokens_come_to tokens None) stop (λ fault f. there false None tokens (faulty fault) some shallow f) first
header_stop tokens draft stop some shallow unbegun first (Some said) is = absurd (true≢false (sym is.header ∙ unbegun))

pub added_stop : {X : Type 0} (tokens : List Lexeme) (draft : ModelDraft) (r : Result X LineStop) → tokens ≢ [] → nests_too_deep tokens ≡ false → draft.has_header ≡ true → IfErr r (IsFaultOrMemory (AreJudged draft.builder tokens)) → IfErr r (IsStopAfter (tokens_come_to tokens) draft)
added_stop tokens draft (Ok x) some shallow begun stopped = tt
added_stop tokens draft (Err stop) some shallow begun stopped = statement_stop tokens draft stop some shallow begun stopped

pub begun_stop : {X : Type 0} (tokens : List Lexeme) (draft : ModelDraft) (r : Result X LineStop) → tokens ≢ [] → nests_too_deep tokens ≡ false → draft.has_header ≡ false → IfErr r (IsFaultOrMemory (AreFirst tokens)) → IfErr r (IsStopAfter (tokens_come_to tokens) draft)
begun_stop tokens draft (Ok x) some shallow unbegun stopped = tt
begun_stop tokens draft (Err stop) some shallow unbegun stopped = header_stop tokens draft stop some shallow unbegun stopped

-- lines

judged_line : (line : List ℕ) (tokens : List Lexeme) (before : Option Lists) (v : Verdict) → line_lexemes line ≡ Ok tokens → tokens_come_to tokens before v → ComesTo before line v
judged_line line tokens before v e judged = subst (λ (r : Result (List Lexeme) Flaw). AreLexemesJudged before r v) (sym e) judged

line_step : (line : List ℕ) (tokens : List Lexeme) (number : ℕ) (old new : ModelDraft) → line_lexemes line ≡ Ok tokens → IsStatementStep (tokens_come_to tokens) number old new → LineStep model_text IsModelDraft number line old new
line_step line tokens number old new e step so_far is =
    let s = step so_far is in
    (s.next, ((s.verdict, (judged_line line tokens (option_map model_of so_far) s.verdict e s.judged, sym s.passes)), s.leaves))

pub line_steps : {X : Type 0} (line : List ℕ) (tokens : List Lexeme) (number : ℕ) (old new : ModelDraft) (r : Result X LineStop) → line_lexemes line ≡ Ok tokens → OnOk r (IsStatementStep (tokens_come_to tokens) number old new) → OnOk r (LineStep model_text IsModelDraft number line old new)
line_steps line tokens number old new r e step =
    on_ok_more (IsStatementStep (tokens_come_to tokens) number old new) (LineStep model_text IsModelDraft number line old new) r (line_step line tokens number old new e) step

-- a faulty verdict is the fault of the line
stop_by_verdict : (P : Verdict → Type 0) (Q : LineFault → Type 0) (stop : LineStop) → ((fault : LineFault) → P (faulty fault) → Q fault) → IsFaultOrMemory P stop → IsStopBy Q stop
stop_by_verdict P Q (line_stops.Faulty fault) more p = more fault p
stop_by_verdict P Q line_stops.Memory more p = tt

line_stops_too : (line : List ℕ) (tokens : List Lexeme) (number : ℕ) (draft : ModelDraft) (stop : LineStop) → line_lexemes line ≡ Ok tokens → IsStopAfter (tokens_come_to tokens) draft stop → LineStops model_text IsModelDraft number line draft stop
line_stops_too line tokens number draft stop e stopped so_far is =
    stop_by_verdict (tokens_come_to tokens (option_map model_of so_far)) (λ fault. LineComesTo so_far number line (Err fault)) stop
    (λ fault judged. (faulty fault, (judged_line line tokens (option_map model_of so_far) (faulty fault) e judged, refl))) (stopped so_far is)

pub line_stopped : {X : Type 0} (line : List ℕ) (tokens : List Lexeme) (number : ℕ) (draft : ModelDraft) (r : Result X LineStop) → line_lexemes line ≡ Ok tokens → IfErr r (IsStopAfter (tokens_come_to tokens) draft) → IfErr r (LineStops model_text IsModelDraft number line draft)
line_stopped line tokens number draft (Ok x) e stopped = tt
line_stopped line tokens number draft (Err stop) e stopped = line_stops_too line tokens number draft stop e stopped

-- a line with a flaw
flawed_line : (line : List ℕ) (number : ℕ) (so_far : Option (List LineStatement)) (fault : LineFault) → IsFlawed line fault → LineComesTo so_far number line (Err fault)
flawed_line line number so_far fault (flaw, (e, is)) =
    let judged : AreLexemesJudged (option_map model_of so_far) (Err flaw) (faulty fault) = ap faulty is in
    (faulty fault, (subst (λ (r : Result (List Lexeme) Flaw). AreLexemesJudged (option_map model_of so_far) r (faulty fault)) (sym e) judged, refl))

pub flawed_stops : (line : List ℕ) (number : ℕ) (draft : ModelDraft) (stop : LexStop) → IsLineStop number line stop → LineStops model_text IsModelDraft number line draft (lexing_stop stop)
flawed_stops line number draft stop is so_far keeps =
    stop_by_more (IsFlawed line) (λ fault. LineComesTo so_far number line (Err fault)) (lexing_stop stop) (flawed_line line number so_far) (flawed number line stop is)

-- the end

pub nothing_lacks : (draft : ModelDraft) (so_far : Option (List LineStatement)) → draft.has_header ≡ true → IsModelDraft so_far draft → None ≡ lacks_header so_far
nothing_lacks draft None begun is = absurd (true≢false (sym begun ∙ is.header))
nothing_lacks draft (Some said) begun is = refl

pub header_lacks : (draft : ModelDraft) (so_far : Option (List LineStatement)) → draft.has_header ≡ false → IsModelDraft so_far draft → Some (line_faults.Bad kinds.Header) ≡ lacks_header so_far
header_lacks draft None unbegun is = refl
header_lacks draft (Some said) unbegun is = absurd (true≢false (sym is.header ∙ unbegun))

-- texts

pub not_read : (text : List ℕ) (stop : TextStop) → IsNotReadAs model_text text stop → IsNotRead text stop
unfolding HasFault
not_read text (stops.Bad line kind) is = is
not_read text (stops.Limit limit) is = is
not_read text stops.Memory is = tt

no_lack : (fault : LineFault) → Some fault ≡ None → ⊥
no_lack fault e = cc

finished_by : (text : List ℕ) (so_far : Option (List LineStatement)) (draft : ModelDraft) (reading : Reading) → Comes model_text text (gives so_far) → IsModelDraft so_far draft → IsFinished draft reading → IsReading text (lists_of reading.model) reading.rule_lines.items
unfolding HasStatements
finished_by text None draft reading comes is finished =
    absurd (no_lack (line_faults.Bad kinds.Header) (lacks_nothing model_text text None comes))
finished_by text (Some said) draft reading comes is finished = record {
  said = said;
  has = comes;
  model_is = finished.model ∙ is.lists;
  lines_are = finished.lines ∙ is.lines;
}

pub finished : (text : List ℕ) (draft : ModelDraft) (reading : Reading) → IsReadAs model_text IsModelDraft text draft → IsFinished draft reading → IsReading text (lists_of reading.model) reading.rule_lines.items
finished text draft reading read is = finished_by text read.said draft reading read.comes read.keeps is
