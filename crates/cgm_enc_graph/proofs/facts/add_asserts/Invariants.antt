use Rattle.std.proofs.Common.{map, drop}
use Rattle.cgm_atom.proofs.Additions.{AreLeft, mapped}
use Rattle.cgm_enc_graph.specs.GraphClauses.{assertion_clause}
use Rattle.cgm_enc_graph.proofs.facts.add_asserts.Given as goal

abbrev pub invariant-loop-a : goal.invariant-loop-a
invariant-loop-a l =
    AreLeft l.fn.builder (map assertion_clause l.asserts) l.builder (mapped assertion_clause l.a-index (drop l.a-index l.asserts))
