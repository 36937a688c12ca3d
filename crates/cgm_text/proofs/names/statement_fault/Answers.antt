use Rattle.cgm_text.specs.Trees.{formula_in, word_in}
use Rattle.cgm_text.proofs.Right.{comes_whole, condition_comes}
use Rattle.cgm_text.proofs.names.statement_fault.Goals as goal

pub returns-in-None-word_fault : goal.returns-in-None-word_fault
returns-in-None-word_fault c =
    let line = c.args.line.now in
    rw c.in-Condition.is (condition_comes c.args.builder.now c.in-Condition.what (word_in line c.in-Condition.name) (formula_in line c.in-Condition.formula) c.formula_fault.result c.in-None-word_fault.ensures c.formula_fault.ensures)

pub returns-in-Require : goal.returns-in-Require
returns-in-Require c =
    let line = c.args.line.now in
    rw c.in-Require.is (comes_whole c.args.builder.now (formula_in line c.in-Require.formula) c.formula_fault-in-Require.result c.formula_fault-in-Require.ensures)
