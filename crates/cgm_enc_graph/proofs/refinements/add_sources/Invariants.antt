use Rattle.std.proofs.Common.{map, drop}
use Rattle.cgm_atom.specs.Literals.{implication}
use Rattle.cgm_atom.proofs.Additions.{AreLeft, mapped}
use Rattle.cgm_enc_graph.proofs.refinements.add_sources.Given as goal

abbrev pub invariant-loop-source : goal.invariant-loop-source
invariant-loop-source l =
    AreLeft l.fn.builder (map (implication l.x) l.sources) l.builder (mapped (implication l.x) l.source-index (drop l.source-index l.sources))
