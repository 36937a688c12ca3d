use Rattle.std.proofs.Common.{◌++◌, ◌∷◌, List, codes, ap, ◌∙◌}
use Rattle.std.specs.List.{flat_map}
use Rattle.std.proofs.lemmas.List.{take_all}
use Rattle.cgm_evolve.specs.Pairs.{Pair}
use Rattle.cgm_evolve.specs.Text.{canonical_text, pair_line}
use Rattle.cgm_evolve.proofs.printer.print_earlier.Goals as goal

pub returns : goal.returns
unfolding canonical_text
returns c =
    let all = take_all c.loop-pair.pair-index c.as_slice-pair-items.result.now c.loop-pair-test.false ∙ c.as_slice-pair-items.ensures in
    c.loop-pair.invariant ∙ ap (λ (ps : List Pair). codes "earlier 1" ++ 10 ∷ flat_map pair_line ps) all
