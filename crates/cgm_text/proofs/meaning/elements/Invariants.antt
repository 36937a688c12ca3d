use Rattle.std.proofs.Common.{◌≡◌, ◌∷◌, take, map}
use Rattle.cgm_text.specs.Meaning.{element_named}
use Rattle.cgm_text.specs.Trees.{word_in}
use Rattle.cgm_text.proofs.meaning.elements.Given as goal

abbrev pub invariant-loop-w : goal.invariant-loop-w
invariant-loop-w l =
    l.numbers.items ≡ map (element_named l.builder) (word_in l.line l.fn.first ∷ map (word_in l.line) (take l.w-index l.others))
