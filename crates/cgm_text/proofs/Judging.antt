-- Why tokens make no statement, and that the names which a statement declares are text.
use Rattle.std.proofs.Common.{◌≡◌, ◌≢◌, ℕ, List, [], ◌∷◌, map, None, Some, Result, Ok, Err, IfOk, IfErr, IsErrAnd, refl, sym, subst}
use Rattle.std.specs.List.{All}
use Rattle.std.specs.Str.{IsUtf8}
use Rattle.std.proofs.lemmas.List.Elements.{All-from_recursion, recursion_from_All}
use Rattle.cgm_base.specs.declared.fault.BadKind.{BadKind}
use Rattle.cgm_base.specs.declared.fault.BadKind.TheVariants as kinds
use Rattle.cgm_lex.specs.Lexemes.{Lexeme, colon, number, word}
use Rattle.cgm_lex.specs.Spelling.{IsPlain}
use Rattle.cgm_lex.proofs.Plain.{run_is_utf8}
use Rattle.cgm_model.specs.declared.lists.Lists.{Lists}
use Rattle.cgm_model.specs.declared.lists.Statement.{Statement}
use Rattle.cgm_lex.specs.declared.stops.LineFault.TheVariants as line_faults
use Rattle.cgm_lex.specs.declared.stops.LineStop.{LineStop}
use Rattle.cgm_print.specs.declared.words.Sort.{Sort}
use Rattle.cgm_text.specs.Line.{Verdict, faulty, no_word, no_form, written, HasForm, IsNamedJudged, AreJudged}
use Rattle.cgm_text.specs.Meaning.{declared_words, statement_of}
use Rattle.cgm_text.specs.Progress.{IsFaultOrMemory, MakesStatement}
use Rattle.cgm_print.specs.Statements.{WrittenStatement, goal, named, refinement, pair, assertion, variable, value, weight, condition, requirement, objective, must_tokens, sort_of, sort_word, statement_tokens}
use Rattle.cgm_text.specs.Uses.{first_name_fault, statement_uses}
use Rattle.cgm_text.proofs.Forms.{no_statement}
use Rattle.cgm_text.specs.Parsed.{IsNoBody}

pub stop_exit : {T : Type 0} (P : Verdict → Type 0) (r : Result T LineStop) (stop : LineStop) → IsErrAnd r (λ e. e ≡ stop) → IsFaultOrMemory P stop → IfErr r (IsFaultOrMemory P)
stop_exit P (Ok x) stop is p = tt
stop_exit P (Err e) stop is p = subst (IsFaultOrMemory P) (sym is) p

pub word_stop : (m : Lists) (tokens : List Lexeme) → ((sort : Sort) (after : List Lexeme) → tokens ≢ word (sort_word sort) ∷ after) → AreJudged m tokens (faulty (line_faults.Bad kinds.Statement))
word_stop m tokens none = (no_word, (none, refl))

pub form_stop : (m : Lists) (tokens : List Lexeme) (sort : Sort) → IsNoBody tokens sort → AreJudged m (word (sort_word sort) ∷ tokens) (faulty (line_faults.Bad kinds.Form))
form_stop m tokens sort none =
    (no_form, ((record { sort = sort; after = tokens; begins = refl }, no_statement (word (sort_word sort) ∷ tokens) tokens sort refl none), refl))

pub name_stop : (m : Lists) (tokens : List Lexeme) (s : WrittenStatement) (kind : BadKind) → HasForm tokens (written s) → Some kind ≡ first_name_fault m (statement_uses s) → AreJudged m tokens (faulty (line_faults.Bad kind))
name_stop m tokens s kind has e =
    (written s, (has, subst (λ bad. IsNamedJudged bad m (statement_of m s) (faulty (line_faults.Bad kind))) e refl))

-- the second of the tokens is text, if it is a word
second_text : (one : Lexeme) (x : List ℕ) (others : List Lexeme) → All IsPlain (one ∷ word x ∷ others) → All IsUtf8 (x ∷ [])
second_text one x others plain =
    let parts = recursion_from_All IsPlain (one ∷ word x ∷ others) plain in
    All-from_recursion IsUtf8 (x ∷ []) (run_is_utf8 x parts.1.0.1.0, tt)

no_texts : All IsUtf8 []
no_texts = All-from_recursion IsUtf8 [] tt

abbrev statement_word : WrittenStatement → Lexeme
statement_word s = word (sort_word (sort_of s))

declared_text : (s : WrittenStatement) → All IsPlain (statement_tokens s) → All IsUtf8 (declared_words s)
declared_text (goal x must) plain = second_text (statement_word (goal x must)) x (must_tokens must) plain
declared_text (named what x) plain = second_text (statement_word (named what x)) x [] plain
declared_text (refinement r target first others) plain = second_text (statement_word (refinement r target first others)) r (word target ∷ colon ∷ word first ∷ map word others) plain
declared_text (pair what one other) plain = no_texts
declared_text (assertion x truth) plain = no_texts
declared_text (variable x lo hi) plain = second_text (statement_word (variable x lo hi)) x (number lo ∷ number hi ∷ []) plain
declared_text (value s x k) plain = no_texts
declared_text (weight what x k) plain = no_texts
declared_text (condition what x f) plain = no_texts
declared_text (requirement f) plain = no_texts
declared_text (objective direction quantity) plain = no_texts

pub declared_is_text : (tokens : List Lexeme) (s : WrittenStatement) → HasForm tokens (written s) → All IsPlain tokens → All IsUtf8 (declared_words s)
declared_is_text tokens s has plain = declared_text s (subst (All IsPlain) has plain)

-- a statement whose form, names and meaning are known
pub made : (m : Lists) (tokens : List Lexeme) (source : WrittenStatement) (s : Statement) → HasForm tokens (written source) → None ≡ first_name_fault m (statement_uses source) → s ≡ statement_of m source → MakesStatement m tokens s
made m tokens source s has names is = record { source = source; spelled = has; names = sym names; meaning = sym is }

-- what is said for each list of tokens that has a form, said of one
pub made_of : (m : Lists) (tokens : List Lexeme) (source : WrittenStatement) (r : Result Statement LineStop) → HasForm tokens (written source) → IfOk r (λ s. (tokens : List Lexeme) → HasForm tokens (written source) → MakesStatement m tokens s) → IfOk r (MakesStatement m tokens)
made_of m tokens source (Ok s) has f = f tokens has
made_of m tokens source (Err stop) has f = tt

pub stop_of : (m : Lists) (tokens : List Lexeme) (source : WrittenStatement) (r : Result Statement LineStop) → HasForm tokens (written source) → IfErr r (λ stop. (tokens : List Lexeme) → HasForm tokens (written source) → IsFaultOrMemory (AreJudged m tokens) stop) → IfErr r (IsFaultOrMemory (AreJudged m tokens))
stop_of m tokens source (Ok s) has f = tt
stop_of m tokens source (Err stop) has f = f tokens has
