use Rattle.std.proofs.Common.{◌≡◌, List, drop, map}
use Rattle.cgm_text.specs.Trees.{term_in}
use Rattle.cgm_text.specs.Uses.{NameUse, first_name_fault, terms_uses}
use Rattle.cgm_text.proofs.names.terms_fault.Given as goal

abbrev pub invariant-loop-term : goal.invariant-loop-term
invariant-loop-term l =
    (after : List NameUse) → first_name_fault l.builder (terms_uses (map (term_in l.line) l.terms) after)
    ≡ first_name_fault l.builder (terms_uses (map (term_in l.line) (drop l.term-index l.terms)) after)
