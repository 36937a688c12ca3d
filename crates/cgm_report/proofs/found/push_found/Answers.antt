use Rattle.std.proofs.Common.{◌∙◌, length, ap, sym, ◌≡◌, ◌++◌, ℕ, List, ap₂, append_assoc}
use Rattle.std.proofs.lemmas.Result.{on_ok_weaker}
use Rattle.cgm_model.specs.Model.{lists_of}
use Rattle.cgm_model.specs.Sums.{sums_of}
use Rattle.cgm_report.specs.Report.{element_lines, refinement_lines, sum_lines, variable_lines}
use Rattle.cgm_report.specs.Shown.{vector_lines}
use Rattle.cgm_report.proofs.Showing.{sums_length}
use Rattle.cgm_report.proofs.found.push_found.Goals as goal

pub push_sums-requires : goal.push_sums-requires
push_sums-requires c =
    ap length (c.as_slice-10.ensures.value ∙ c.in_ok-values.ensures) ∙ sums_length (lists_of c.args.model.now) c.args.found.now.assignment
    ∙ sym (ap length c.as_slice-9.ensures)

behind : (p q r x y : List ℕ) → q ≡ p ++ x → r ≡ q ++ y → r ≡ p ++ (x ++ y)
behind p q r x y first second = second ∙ ap (λ (bs : List ℕ). bs ++ y) first ∙ append_assoc p x y

pub returns : goal.returns
returns c =
    let m = lists_of c.args.model.now in
    let found = c.args.found.now in
    let a = found.assignment in
    let start = c.args.report.now.items in
    let one = c.push_objectives.new.report.items in
    let two = c.push_elements.new.report.items in
    let three = c.push_refinements.new.report.items in
    let four = c.push_variables.new.report.items in
    let objectives = vector_lines m m.objectives found.vector in
    let elements = element_lines m.elements a.elements in
    let refinements = refinement_lines m.refinements a.refinements in
    let variables = variable_lines m.vars a.vars in
    let sums = sum_lines m.sums (sums_of m a) in
    let first : one ≡ start ++ objectives = c.in_ok-push_objectives.ensures ∙ ap (λ (bs : List ℕ). start ++ bs) (ap₂ (vector_lines m) c.as_slice.ensures c.as_slice-2.ensures) in
    let second : two ≡ one ++ elements = c.in_ok-push_elements.ensures ∙ ap (λ (bs : List ℕ). one ++ bs) (ap₂ element_lines c.as_slice-3.ensures c.as_slice-4.ensures) in
    let third : three ≡ two ++ refinements = c.in_ok-push_refinements.ensures ∙ ap (λ (bs : List ℕ). two ++ bs) (ap₂ refinement_lines c.as_slice-5.ensures c.as_slice-6.ensures) in
    let fourth : four ≡ three ++ variables = c.in_ok-push_variables.ensures ∙ ap (λ (bs : List ℕ). three ++ bs) (ap₂ variable_lines c.as_slice-7.ensures c.as_slice-8.ensures) in
    let last = ap₂ sum_lines c.as_slice-9.ensures (c.as_slice-10.ensures.value ∙ c.in_ok-values.ensures) in
    let new = c.push_sums.new.report.items in
    let upto_two = behind start one two objectives elements first second in
    let upto_three = behind start two three (objectives ++ elements) refinements upto_two third in
    let upto_four = behind start three four (objectives ++ elements ++ refinements) variables upto_three fourth in
    on_ok_weaker c.push_sums.result
    (λ h. behind start four new (objectives ++ elements ++ refinements ++ variables) sums upto_four (h ∙ ap (λ (bs : List ℕ). four ++ bs) last))
    c.push_sums.ensures
