-- What one more line makes of what the reader has so far.
use Rattle.std.proofs.Common.{◌≡◌, ◌≢◌, ℕ, ◌++◌, Bool, true, false, cond, List, [], ◌∷◌, Option, None, Some, Result, Ok, Err, OnOk, IfErr, refl, sym, ap, ◌∙◌, subst, true≢false}
use Rattle.std.specs.Str.{bytes_eq}
use Rattle.cgm_base.specs.declared.fault.BadKind.TheVariants as kinds
use Rattle.cgm_lex.specs.declared.stops.LineFault.{LineFault}
use Rattle.cgm_lex.specs.declared.stops.LineFault.TheVariants as line_faults
use Rattle.cgm_lex.specs.declared.stops.LineStop.{LineStop}
use Rattle.cgm_lex.specs.declared.stops.TextStop.{TextStop}
use Rattle.cgm_lex.specs.declared.stops.TextStop.TheVariants as stops
use Rattle.cgm_lex.specs.declared.token.Flaw.{Flaw}
use Rattle.cgm_lex.specs.declared.token.LexStop.{LexStop}
use Rattle.cgm_lex.specs.Lexemes.{IsLineStop, Lexeme, line_lexemes}
use Rattle.cgm_lex.specs.Readings.{gives, Comes, IsFlawed, IsNotReadAs, IsReadAs, LineStep, LineStops, lacks_header, lexing_stop}
use Rattle.cgm_lex.proofs.Readings.{flawed, lacks_nothing, stop_by_more}
use Rattle.cgm_evolve.specs.declared.draft.EarlierDraft.{EarlierDraft}
use Rattle.cgm_evolve.specs.Index.{Indexes}
use Rattle.cgm_evolve.specs.Line.{AreFaulty, ArePairFault, IsFaulty, SayPair, header_tokens, name_fault}
use Rattle.cgm_evolve.specs.Pairs.{Pair}
use Rattle.cgm_evolve.specs.Progress.{IsEarlierDraft, HasDistinctPairs, IsPairAdded, IsPairStop, IsPairStep, IsStopAfter}
use Rattle.cgm_evolve.specs.Text.{Follows, HasFault, IsNotRead, IsTextOf, LineComesTo, earlier_text}
use Rattle.cgm_evolve.proofs.Giving.{gives_lines}
use Rattle.cgm_evolve.proofs.Pushing.{fits, truth_in-push}

on_ok_more : {X : Type 0} (A B : Type 0) (r : Result X LineStop) → (A → B) → OnOk r A → OnOk r B
on_ok_more A B (Ok x) more a = more a
on_ok_more A B (Err stop) more a = tt

abbrev TokensStep : List Lexeme → EarlierDraft → EarlierDraft → Type 0
TokensStep ts old new = IsPairStep (λ so_far next. Follows so_far ts next) old new

abbrev TokensStop : List Lexeme → EarlierDraft → LineStop → Type 0
TokensStop ts draft stop = IsStopAfter (λ so_far. AreFaulty so_far ts) draft stop

-- ---- pairs

follows_pair : (pairs : List Pair) (ts : List Lexeme) (p : Pair) → ts ≢ [] → SayPair ts p → name_fault pairs p.0 ≡ None → Follows (Some pairs) ts (Some (pairs ++ p ∷ []))
follows_pair pairs [] p some says fine = absurd (some refl)
follows_pair pairs (t ∷ ts) p some says fine = (p, (says, fine, refl))

draft_pushed : (pairs : List Pair) (ts : List Lexeme) (old new : EarlierDraft) → IsEarlierDraft (Some pairs) old → (added : IsPairAdded ts old new) → IsEarlierDraft (Some (pairs ++ added.pair ∷ [])) new
draft_pushed pairs ts old new is added =
    let p = added.pair in
    let free = fits pairs p.0 (added.fits pairs is.index) in
    record {
      header = added.put.header ∙ is.header;
      pairs = added.put.pairs ∙ ap (λ ps. ps ++ p ∷ []) is.pairs;
      index = λ q. added.put.index q ∙ (ap (λ (o : Option Bool). cond (bytes_eq q p.0) (Some p.1) o) (is.index q) ∙ sym (truth_in-push pairs p q free.fresh));
    }

pair_step : (ts : List Lexeme) (old new : EarlierDraft) → ts ≢ [] → old.has_header ≡ true → IsPairAdded ts old new → TokensStep ts old new
pair_step ts old new some begun added None is = absurd (true≢false (sym begun ∙ is.header))
pair_step ts old new some begun added (Some pairs) is =
    (Some (pairs ++ added.pair ∷ []), (follows_pair pairs ts added.pair some added.says (added.fits pairs is.index), draft_pushed pairs ts old new is added))

pub added_step : {X : Type 0} (ts : List Lexeme) (old new : EarlierDraft) (r : Result X LineStop) → ts ≢ [] → old.has_header ≡ true → OnOk r (IsPairAdded ts old new) → OnOk r (TokensStep ts old new)
added_step ts old new r some begun added = on_ok_more (IsPairAdded ts old new) (TokensStep ts old new) r (pair_step ts old new some begun) added

faulty_pair : (pairs : List Pair) (ts : List Lexeme) (fault : LineFault) → ts ≢ [] → ArePairFault pairs ts fault → AreFaulty (Some pairs) ts fault
faulty_pair pairs [] fault some is = absurd (some refl)
faulty_pair pairs (t ∷ ts) fault some is = is

pair_stop : (ts : List Lexeme) (draft : EarlierDraft) (stop : LineStop) → ts ≢ [] → draft.has_header ≡ true → IsPairStop ts draft.index stop → TokensStop ts draft stop
pair_stop ts draft stop some begun stopped None is = absurd (true≢false (sym begun ∙ is.header))
pair_stop ts draft stop some begun stopped (Some pairs) is =
    stop_by_more (ArePairFault pairs ts) (AreFaulty (Some pairs) ts) stop (λ fault f. faulty_pair pairs ts fault some f) (stopped pairs is.index)

pub added_stop : {X : Type 0} (ts : List Lexeme) (draft : EarlierDraft) (r : Result X LineStop) → ts ≢ [] → draft.has_header ≡ true → IfErr r (IsPairStop ts draft.index) → IfErr r (TokensStop ts draft)
added_stop ts draft (Ok x) some begun stopped = tt
added_stop ts draft (Err stop) some begun stopped = pair_stop ts draft stop some begun stopped

-- ---- the header

follows_header : (ts : List Lexeme) → ts ≢ [] → ts ≡ header_tokens → Follows None ts (Some [])
follows_header [] some is = absurd (some refl)
follows_header (t ∷ ts) some is = (is, refl)

header_step : (ts : List Lexeme) (old new : EarlierDraft) → ts ≢ [] → old.has_header ≡ false → new.has_header ≡ true → new.pairs.items ≡ old.pairs.items → new.index ≡ old.index → ts ≡ header_tokens → TokensStep ts old new
header_step ts old new some unbegun begun pairs index is_header None is =
    (Some [], (follows_header ts some is_header, record { header = begun; pairs = pairs ∙ is.pairs; index = subst (Indexes []) (sym index) is.index }))
header_step ts old new some unbegun begun pairs index is_header (Some said) is =
    absurd (true≢false (sym is.header ∙ unbegun))

pub begun_step : {X : Type 0} (ts : List Lexeme) (old new : EarlierDraft) (r : Result X LineStop) → ts ≢ [] → old.has_header ≡ false → OnOk r (new.has_header ≡ true) → new.pairs.items ≡ old.pairs.items → new.index ≡ old.index → OnOk r (ts ≡ header_tokens) → OnOk r (TokensStep ts old new)
begun_step ts old new (Ok x) some unbegun begun pairs index is = header_step ts old new some unbegun begun pairs index is
begun_step ts old new (Err stop) some unbegun begun pairs index is = tt

-- ---- lines

line_step : (line : List ℕ) (ts : List Lexeme) (number : ℕ) (old new : EarlierDraft) → line_lexemes line ≡ Ok ts → TokensStep ts old new → LineStep earlier_text IsEarlierDraft number line old new
line_step line ts number old new e step so_far is =
    let s = step so_far is in
    (s.0, (record { tokens = ts; lexed = e; follows = s.1.0 }, s.1.1))

pub line_steps : {X : Type 0} (line : List ℕ) (ts : List Lexeme) (number : ℕ) (old new : EarlierDraft) (r : Result X LineStop) → line_lexemes line ≡ Ok ts → OnOk r (TokensStep ts old new) → OnOk r (LineStep earlier_text IsEarlierDraft number line old new)
line_steps line ts number old new r e step =
    on_ok_more (TokensStep ts old new) (LineStep earlier_text IsEarlierDraft number line old new) r (line_step line ts number old new e) step

-- what is wrong with the tokens is wrong with the line
faulty_line : (line : List ℕ) (ts : List Lexeme) (number : ℕ) (so_far : Option (List Pair)) (fault : LineFault) → line_lexemes line ≡ Ok ts → AreFaulty so_far ts fault → LineComesTo so_far number line (Err fault)
faulty_line line ts number so_far fault e faulty =
    subst (λ (r : Result (List Lexeme) Flaw). IsFaulty so_far r fault) (sym e) faulty

pub line_stopped : {X : Type 0} (line : List ℕ) (ts : List Lexeme) (number : ℕ) (draft : EarlierDraft) (r : Result X LineStop) → line_lexemes line ≡ Ok ts → IfErr r (TokensStop ts draft) → IfErr r (LineStops earlier_text IsEarlierDraft number line draft)
line_stopped line ts number draft (Ok x) e stopped = tt
line_stopped line ts number draft (Err stop) e stopped = λ so_far is.
    stop_by_more (AreFaulty so_far ts) (λ fault. LineComesTo so_far number line (Err fault)) stop (λ fault faulty. faulty_line line ts number so_far fault e faulty) (stopped so_far is)

-- a line with a flaw
flawed_line : (line : List ℕ) (number : ℕ) (so_far : Option (List Pair)) (fault : LineFault) → IsFlawed line fault → LineComesTo so_far number line (Err fault)
flawed_line line number so_far fault (flaw, (e, is)) =
    subst (λ (r : Result (List Lexeme) Flaw). IsFaulty so_far r fault) (sym e) is

pub flawed_stops : (line : List ℕ) (number : ℕ) (draft : EarlierDraft) (stop : LexStop) → IsLineStop number line stop → LineStops earlier_text IsEarlierDraft number line draft (lexing_stop stop)
flawed_stops line number draft stop is so_far keeps =
    stop_by_more (IsFlawed line) (λ fault. LineComesTo so_far number line (Err fault)) (lexing_stop stop) (flawed_line line number so_far) (flawed number line stop is)

-- ---- the end

pub nothing_lacks : (draft : EarlierDraft) (so_far : Option (List Pair)) → draft.has_header ≡ true → IsEarlierDraft so_far draft → None ≡ lacks_header so_far
nothing_lacks draft None begun is = absurd (true≢false (sym begun ∙ is.header))
nothing_lacks draft (Some said) begun is = refl

pub header_lacks : (draft : EarlierDraft) (so_far : Option (List Pair)) → draft.has_header ≡ false → IsEarlierDraft so_far draft → Some (line_faults.Bad kinds.Header) ≡ lacks_header so_far
header_lacks draft None unbegun is = refl
header_lacks draft (Some said) unbegun is = absurd (true≢false (sym is.header ∙ unbegun))

-- ---- texts

pub not_read : (text : List ℕ) (stop : TextStop) → IsNotReadAs earlier_text text stop → IsNotRead text stop
unfolding HasFault
not_read text (stops.Bad line kind) is = is
not_read text (stops.Limit limit) is = is
not_read text stops.Memory is = tt

no_lack : (fault : LineFault) → Some fault ≡ None → ⊥
no_lack fault e = cc

-- the draft has the pairs of the text
pub record IsReadPairs (text : List ℕ) (draft : EarlierDraft) : Type 0 where
  pub pairs : List Pair
  pub comes : IsTextOf text pairs
  pub keeps : IsEarlierDraft (Some pairs) draft

read_pairs_by : (text : List ℕ) (so_far : Option (List Pair)) (draft : EarlierDraft) → Comes earlier_text text (gives so_far) → IsEarlierDraft so_far draft → IsReadPairs text draft
unfolding IsTextOf
read_pairs_by text None draft comes is =
    absurd (no_lack (line_faults.Bad kinds.Header) (lacks_nothing earlier_text text None comes))
read_pairs_by text (Some pairs) draft comes is = record { pairs = pairs; comes = comes; keeps = is }

read_pairs : (text : List ℕ) (draft : EarlierDraft) → IsReadAs earlier_text IsEarlierDraft text draft → IsReadPairs text draft
read_pairs text draft read = read_pairs_by text read.said draft read.comes read.keeps

pub kept : (text : List ℕ) (draft : EarlierDraft) → IsReadAs earlier_text IsEarlierDraft text draft → HasDistinctPairs draft
kept text draft read =
    let of = read_pairs text draft read in
    record { so_far = Some of.pairs; is = of.keeps; proper = (gives_lines text of.pairs of.comes).proper }

pub finished : (text : List ℕ) (draft : EarlierDraft) (pairs : List Pair) → IsReadAs earlier_text IsEarlierDraft text draft → pairs ≡ draft.pairs.items → IsTextOf text pairs
finished text draft pairs read same =
    let of = read_pairs text draft read in
    subst (IsTextOf text) (sym (same ∙ of.keeps.pairs)) of.comes
