use Rattle.std.proofs.Common.{map, drop}
use Rattle.cgm_atom.proofs.Additions.{AreLeft, mapped}
use Rattle.cgm_enc_graph.specs.GraphClauses.{conflict_clause}
use Rattle.cgm_enc_graph.proofs.edges.add_conflicts.Given as goal

abbrev pub invariant-loop-e : goal.invariant-loop-e
invariant-loop-e l =
    AreLeft l.fn.builder (map conflict_clause l.conflicts) l.builder (mapped conflict_clause l.e-index (drop l.e-index l.conflicts))
