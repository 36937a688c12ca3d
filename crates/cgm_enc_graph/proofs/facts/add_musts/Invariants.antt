use Rattle.std.proofs.Common.{drop}
use Rattle.std.specs.List.{enumerate_from, flat_map}
use Rattle.cgm_atom.proofs.Additions.{AreLeft, numbered}
use Rattle.cgm_enc_graph.specs.GraphClauses.{must_clauses}
use Rattle.cgm_enc_graph.proofs.facts.add_musts.Given as goal

abbrev pub invariant-loop-number : goal.invariant-loop-number
invariant-loop-number l =
    AreLeft l.fn.builder (flat_map must_clauses (enumerate_from 0 l.elements)) l.builder
    (numbered must_clauses 0 l.number (drop l.number l.elements))
