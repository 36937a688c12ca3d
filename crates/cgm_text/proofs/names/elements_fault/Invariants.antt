use Rattle.std.proofs.Common.{◌≡◌, drop, map}
use Rattle.cgm_text.specs.declared.names.Wanted.TheVariants as wants
use Rattle.cgm_text.specs.Trees.{word_in}
use Rattle.cgm_text.specs.Uses.{first_name_fault, use_as}
use Rattle.cgm_text.proofs.names.elements_fault.Given as goal

abbrev pub invariant-loop-w : goal.invariant-loop-w
invariant-loop-w l =
    first_name_fault l.builder (map (use_as wants.Element) (map (word_in l.line) l.words))
    ≡ first_name_fault l.builder (map (use_as wants.Element) (map (word_in l.line) (drop l.w-index l.words)))
