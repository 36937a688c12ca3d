use Rattle.std.proofs.Common.{map, drop}
use Rattle.cgm_atom.proofs.Additions.{AreLeft, mapped}
use Rattle.cgm_enc_graph.specs.GraphClauses.{contrib_clause}
use Rattle.cgm_enc_graph.proofs.edges.add_contribs.Given as goal

abbrev pub invariant-loop-e : goal.invariant-loop-e
invariant-loop-e l =
    AreLeft l.fn.builder (map contrib_clause l.contribs) l.builder (mapped contrib_clause l.e-index (drop l.e-index l.contribs))
