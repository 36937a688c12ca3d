-- A text has a line for each rule of its model, and the first rule that fails is one of them.
use Rattle.std.proofs.Common.{◌≡◌, ℕ, ◌+◌, ◌<◌, List, [], ◌∷◌, length, get_or, sym, ap, subst, inl, inr, arith}
use Rattle.std.proofs.lemmas.List.{length-append}
use Rattle.std.proofs.lemmas.Option.{slice_get-get_or}
use Rattle.cgm_base.specs.declared.status.Status.{Status}
use Rattle.cgm_base.specs.declared.status.Status.TheVariants as statuses
use Rattle.cgm_encode.specs.Encoding.{number_box}
use Rattle.cgm_enc_formula.specs.Measures.{IsWithinMeasure}
use Rattle.cgm_model.specs.declared.lists.Lists.{Lists}
use Rattle.cgm_model.specs.declared.lists.Statement.{Statement}
use Rattle.cgm_model.specs.declared.lists.Statement.TheVariants as statements
use Rattle.cgm_model.specs.Lists.{no_lists, added}
use Rattle.cgm_base.specs.Place.{FirstFailsFrom, FirstFails}
use Rattle.cgm_text.specs.Text.{LineStatement, all_added, model_of, rule_line, rule_lines, IsReading}
use Rattle.cgm_shelf.specs.Sink.{SinkState}
use Rattle.cgm_cli.specs.Effects.{TellsOrLacksMemory}
use Rattle.cgm_cli.specs.Inputs.{HasNoProblem, row_limit}
use Rattle.cgm_cli.specs.FaultLines.{limit_fault}

one_more : (m : Lists) (line : ℕ) (s : Statement) → length (added m s).rules ≡ length m.rules + length (rule_line line s)
one_more m line (statements.Rule r) = length-append m.rules (r ∷ [])
one_more m line s = omega arith

all_more : (m : Lists) (said : List LineStatement) → length (all_added m said).rules ≡ length m.rules + length (rule_lines said)
all_more m [] = omega arith
all_more m (s ∷ rest) =
    omega (arith, one_more m s.line s.statement, all_more (added m s.statement) rest, length-append (rule_line s.line s.statement) (rule_lines rest))

pub line_for_each_rule : (text : List ℕ) (m : Lists) (lines : List ℕ) → IsReading text m lines → length lines ≡ length m.rules
line_for_each_rule text m lines r =
    let lines_are : length lines ≡ length (rule_lines r.said) = ap length r.lines_are in
    let rules_are : length m.rules ≡ length (model_of r.said).rules = ap (λ lists. length lists.rules) r.model_is in
    omega (arith, lines_are, rules_are, all_more no_lists r.said)

fails_within : {X : Type 0} (P : ℕ → X → Type 0) (place : ℕ) (xs : List X) (failing : ℕ) → FirstFailsFrom place P xs failing → failing < place + length xs
fails_within P place [] failing fails = elim fails [ ]
fails_within P place (x ∷ xs) failing (inl here) = omega (arith, here.0)
fails_within P place (x ∷ xs) failing (inr later) = omega (arith, fails_within P (place + 1) xs failing later.1)

-- the first rule past the limit has a line
pub has_line : (m : Lists) (lines : List ℕ) (rule : ℕ) → length lines ≡ length m.rules → FirstFails (IsWithinMeasure m (number_box m)) m.rules rule → rule < length lines
has_line m lines rule count first =
    omega (arith, count, fails_within (IsWithinMeasure m (number_box m)) 0 m.rules rule first)

-- its line was told, or there was no memory for that
pub no_problem : (m : Lists) (lines : List ℕ) (rule : ℕ) (old new : SinkState) (status : Status) → length lines ≡ length m.rules → FirstFails (IsWithinMeasure m (number_box m)) m.rules rule → TellsOrLacksMemory (limit_fault (row_limit (get_or lines rule 0))) statuses.Limit old new status → HasNoProblem m lines old new status
no_problem m lines rule old new status count first (inl told) =
    subst (λ s. HasNoProblem m lines old new s) (sym told.0)
    (record { rule = rule; line = get_or lines rule 0; first = first; line_is = slice_get-get_or lines rule 0 (has_line m lines rule count first); told = told.1 })
no_problem m lines rule old new status count first (inr memory) =
    subst (λ s. HasNoProblem m lines old new s) (sym memory.0) memory.1
