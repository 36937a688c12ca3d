use Rattle.std.proofs.Common.{◌≡◌, List, Some, ◌∙◌, subst}
use Rattle.std.specs.Option.{option_or}
use Rattle.cgm_text.specs.Trees.{formula_in}
use Rattle.cgm_text.specs.Uses.{NameUse, first_name_fault, formula_uses}
use Rattle.cgm_text.proofs.Right.{formula_fails, formula_passes, formulas_end, pair_comes}
use Rattle.cgm_text.proofs.names.+fault.Goals as goal

pub formula_fault-returns-in-None-formula_fault : goal.formula_fault-returns-in-None-formula_fault
formula_fault-returns-in-None-formula_fault t c =
    let m = c.args.builder.now in
    let line = c.args.line.now in
    let fault = c.formula_fault-in-None-formula_fault.result in
    let first = subst (λ f. (after : List NameUse) → first_name_fault m (formula_uses (formula_in line f) after) ≡ first_name_fault m after) c.get-in-Pair.ensures c.in-None-formula_fault.ensures in
    let second = subst (λ f. (after : List NameUse) → first_name_fault m (formula_uses (formula_in line f) after) ≡ option_or fault (first_name_fault m after)) c.get-in-None-formula_fault.ensures c.formula_fault-in-None-formula_fault.ensures in
    pair_comes m line c.in-Pair.field-0 c.args.tree.now c.in-Pair.one c.in-Pair.other fault c.in-Pair.is first second

pub formulas_fault-returns-in-Some : goal.formulas_fault-returns-in-Some
formulas_fault-returns-in-Some t c = λ after.
    let m = c.args.builder.now in
    let line = c.args.line.now in
    let fails = subst (λ tree. (others : List NameUse) → first_name_fault m (formula_uses (formula_in line tree) others) ≡ Some c.in-Some.kind) c.tree-item.is c.in-Some.ensures in
    c.loop-tree.invariant after ∙ formula_fails m line c.args.trees.now c.loop-tree.tree-index c.tree-item.result c.in-Some.kind c.loop-tree-test.true fails after

pub formulas_fault-loop-tree-preserved : goal.formulas_fault-loop-tree-preserved
formulas_fault-loop-tree-preserved t c = λ after.
    let m = c.args.builder.now in
    let line = c.args.line.now in
    let passes = subst (λ tree. (others : List NameUse) → first_name_fault m (formula_uses (formula_in line tree) others) ≡ first_name_fault m others) c.tree-item.is c.in-None.ensures in
    c.loop-tree.invariant after ∙ formula_passes m line c.args.trees.now c.loop-tree.tree-index c.tree-item.result c.loop-tree-test.true passes after

pub formulas_fault-returns : goal.formulas_fault-returns
formulas_fault-returns t c = λ after.
    c.loop-tree.invariant after ∙ formulas_end c.args.builder.now c.args.line.now c.args.trees.now c.loop-tree.tree-index c.loop-tree-test.false after
