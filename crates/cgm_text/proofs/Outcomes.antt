-- A text has one outcome, and always one: its statements or its first fault.
use Rattle.std.proofs.Common.{◌≡◌, ℕ, List, Option, None, Some, Result, refl, sym, ap, ◌∙◌}
use Rattle.std.specs.Option.{option_map}
use Rattle.cgm_base.specs.declared.fault.BadKind.TheVariants as kinds
use Rattle.cgm_lex.specs.declared.stops.LineFault.{LineFault}
use Rattle.cgm_lex.specs.declared.stops.LineFault.TheVariants as line_faults
use Rattle.cgm_lex.specs.Readings.{gives, Comes, IsDecided}
use Rattle.cgm_lex.proofs.Readings.{lacks_nothing, one_first_fault, one_text, text_or_fault, text_or_fault_some}
use Rattle.cgm_model.specs.declared.lists.Lists.{Lists}
use Rattle.cgm_text.specs.Text.{LineComesTo, LineStatement, after_line, model_of, model_text, rule_lines, HasStatements, HasFault, IsReading, IsTextOf}
use Rattle.cgm_text.proofs.Verdicts.{verdict_once, verdict_some}

line_once : (so_far : Option (List LineStatement)) (line : ℕ) (bytes : List ℕ) (a b : Result (Option (List LineStatement)) LineFault) → LineComesTo so_far line bytes a → LineComesTo so_far line bytes b → a ≡ b
line_once so_far line bytes a b (v, (comes, is)) (w, (comes_too, is_too)) =
    is ∙ (ap (after_line so_far line) (verdict_once (option_map model_of so_far) bytes v w comes comes_too) ∙ sym is_too)

line_some : (so_far : Option (List LineStatement)) (line : ℕ) (bytes : List ℕ) → ((r : Result (Option (List LineStatement)) LineFault) → ¬ LineComesTo so_far line bytes r) → ⊥
line_some so_far line bytes none =
    verdict_some (option_map model_of so_far) bytes (λ v comes. none (after_line so_far line v) (v, (comes, refl)))

pub model_text_decided : IsDecided model_text
model_text_decided = record { one = line_once; some = line_some }

said_once : (one other : List LineStatement) → Some one ≡ Some other → one ≡ other
said_once one other e = cc

statements_once : (text : List ℕ) (one other : List LineStatement) → HasStatements text one → HasStatements text other → one ≡ other
unfolding HasStatements
statements_once text one other a b = said_once one other (one_text model_text model_text_decided text (Some one) (Some other) a b)

pub one_model : (text : List ℕ) (one other : Lists) → IsTextOf text one → IsTextOf text other → one ≡ other
one_model text one other a b =
    a.1.1 ∙ (ap model_of (statements_once text a.0 b.0 a.1.0 b.1.0) ∙ sym b.1.1)

pub one_reading : (text : List ℕ) (one other : Lists) (rules other_rules : List ℕ) → IsReading text one rules → IsReading text other other_rules → rules ≡ other_rules
one_reading text one other rules other_rules a b =
    a.lines_are ∙ (ap rule_lines (statements_once text a.said b.said a.has b.has) ∙ sym b.lines_are)

pub never_both : (text : List ℕ) (m : Lists) (line : ℕ) (fault : LineFault) → IsTextOf text m → HasFault text line fault → ⊥
unfolding HasStatements HasFault
never_both text m line fault a b = text_or_fault model_text model_text_decided text (Some a.0) line fault a.1.0 b

no_lack : (fault : LineFault) → Some fault ≡ None → ⊥
no_lack fault e = cc

no_text : (text : List ℕ) → ((m : Lists) → ¬ IsTextOf text m) → (so_far : Option (List LineStatement)) → ¬ Comes model_text text (gives so_far)
unfolding HasStatements
no_text text no_model None comes = no_lack (line_faults.Bad kinds.Header) (lacks_nothing model_text text None comes)
no_text text no_model (Some said) comes = no_model (model_of said) (said, (comes, refl))

pub never_neither : (text : List ℕ) → ((m : Lists) → ¬ IsTextOf text m) → ((line : ℕ) (fault : LineFault) → ¬ HasFault text line fault) → ⊥
unfolding HasFault
never_neither text no_model no_fault = text_or_fault_some model_text model_text_decided text (no_text text no_model) no_fault

pub one_fault : (text : List ℕ) (line other : ℕ) (fault other_fault : LineFault) → HasFault text line fault → HasFault text other other_fault → (line ≡ other) × (fault ≡ other_fault)
unfolding HasFault
one_fault text line other fault other_fault a b = one_first_fault model_text model_text_decided text line other fault other_fault a b
