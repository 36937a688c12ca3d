use Rattle.std.proofs.Common.{◌≡◌, ◌∷◌, take, map}
use Rattle.cgm_text.specs.Meaning.{formula_of}
use Rattle.cgm_text.specs.Trees.{formula_in}
use Rattle.cgm_text.proofs.meaning.+meaning.Given as goal

abbrev pub invariant-push_formulas-loop-tree : goal.invariant-push_formulas-loop-tree
invariant-push_formulas-loop-tree l =
    l.formulas.items ≡ l.fn.first ∷ map (formula_of l.builder) (map (formula_in l.line) (take l.tree-index l.trees))
