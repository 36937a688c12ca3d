use Rattle.std.proofs.Common.{◌≡◌, List, drop, map}
use Rattle.cgm_print.specs.Written.{formulas_of}
use Rattle.cgm_text.specs.Trees.{formula_in}
use Rattle.cgm_text.specs.Uses.{NameUse, first_name_fault, formulas_uses}
use Rattle.cgm_text.proofs.names.+fault.Given as goal

abbrev pub invariant-formulas_fault-loop-tree : goal.invariant-formulas_fault-loop-tree
invariant-formulas_fault-loop-tree l =
    (after : List NameUse) → first_name_fault l.builder (formulas_uses (formulas_of (map (formula_in l.line) l.trees)) after)
    ≡ first_name_fault l.builder (formulas_uses (formulas_of (map (formula_in l.line) (drop l.tree-index l.trees))) after)
