use Rattle.std.proofs.Common.{◌≡◌, ◌∙◌, ℕ, List, ap, sym, subst, IfOk}
use Rattle.cgm_model.specs.declared.lists.ElementKind.TheVariants as element_kinds
use Rattle.cgm_text.specs.Meaning.{element_with, statement_of}
use Rattle.cgm_text.specs.Parsed.{statement_in}
use Rattle.cgm_text.specs.declared.written.Written.{Written}
use Rattle.cgm_text.proofs.meaning.statement.Goals as goal

pub returns-in-Goal : goal.returns-in-Goal
returns-in-Goal c =
    let m = c.args.builder.now in
    let line = c.args.line.now in
    let named = subst (λ (x : List ℕ). IfOk c.declared.result (λ s. s ≡ element_with x element_kinds.Goal c.in-Goal.must)) c.bytes_in.ensures c.declared.ensures in
    subst (λ (w : Written). IfOk c.declared.result (λ s. s ≡ statement_of m (statement_in line w))) (sym c.in-Goal.is) named

pub returns-in-Name : goal.returns-in-Name
returns-in-Name c =
    let m = c.args.builder.now in
    let line = c.args.line.now in
    subst (λ (w : Written). IfOk c.named.result (λ s. s ≡ statement_of m (statement_in line w))) (sym c.in-Name.is) c.named.ensures

pub returns-in-Condition : goal.returns-in-Condition
returns-in-Condition c =
    let m = c.args.builder.now in
    let line = c.args.line.now in
    subst (λ (w : Written). IfOk c.conditional.result (λ s. s ≡ statement_of m (statement_in line w))) (sym c.in-Condition.is) c.conditional.ensures

pub returns-in-Require : goal.returns-in-Require
returns-in-Require c =
    let m = c.args.builder.now in
    let line = c.args.line.now in
    subst (λ (w : Written). IfOk c.requirement.result (λ s. s ≡ statement_of m (statement_in line w))) (sym c.in-Require.is) c.requirement.ensures

pub returns-in-Pair : goal.returns-in-Pair
returns-in-Pair c =
    let m = c.args.builder.now in
    let line = c.args.line.now in
    c.pair.ensures ∙ ap (λ (w : Written). statement_of m (statement_in line w)) (sym c.in-Pair.is)

pub returns-in-Assert : goal.returns-in-Assert
returns-in-Assert c =
    let m = c.args.builder.now in
    let line = c.args.line.now in
    c.assertion.ensures ∙ ap (λ (w : Written). statement_of m (statement_in line w)) (sym c.in-Assert.is)

pub returns-in-Objective : goal.returns-in-Objective
returns-in-Objective c =
    let m = c.args.builder.now in
    let line = c.args.line.now in
    c.objective.ensures ∙ ap (λ (w : Written). statement_of m (statement_in line w)) (sym c.in-Objective.is)
