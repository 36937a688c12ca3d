use Rattle.std.proofs.Common.{◌≡◌, ◌∷◌, take, map}
use Rattle.cgm_text.specs.Meaning.{term_of}
use Rattle.cgm_text.specs.Trees.{term_in}
use Rattle.cgm_text.proofs.meaning.terms.Given as goal

abbrev pub invariant-loop-other : goal.invariant-loop-other
invariant-loop-other l =
    l.terms.items ≡ term_of l.builder (term_in l.line l.first) ∷ map (term_of l.builder) (map (term_in l.line) (take l.other-index l.others))
