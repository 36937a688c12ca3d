use Rattle.cgm_text.specs.Meaning.{formula_of}
use Rattle.cgm_text.specs.Trees.{formula_in}
use Rattle.cgm_text.proofs.Meanings.{formulas_all, pushed_more}
use Rattle.cgm_text.proofs.meaning.+meaning.Goals as goal

pub push_formulas-loop-tree-preserved : goal.push_formulas-loop-tree-preserved
push_formulas-loop-tree-preserved t c =
    pushed_more (formula_of c.args.builder.now) (formula_in c.args.line.now) c.args.trees.now c.loop-tree.tree-index c.tree-item.result c.args.first c.in-Ok-formula.part c.loop-tree.formulas.items _ c.loop-tree-test.true c.tree-item.is c.in-Ok-formula.ensures c.loop-tree.invariant c.in-Ok-push.ensures

pub push_formulas-returns : goal.push_formulas-returns
push_formulas-returns t c =
    formulas_all c.args.builder.now c.args.line.now c.args.trees.now c.loop-tree.tree-index c.args.first c.loop-tree.formulas.items c.loop-tree-test.false c.loop-tree.invariant
