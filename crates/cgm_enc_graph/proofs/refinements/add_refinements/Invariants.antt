use Rattle.std.proofs.Common.{drop}
use Rattle.std.specs.List.{enumerate_from, flat_map}
use Rattle.cgm_atom.proofs.Additions.{AreLeft, numbered}
use Rattle.cgm_enc_graph.specs.GraphClauses.{refinement_clauses}
use Rattle.cgm_enc_graph.proofs.refinements.add_refinements.Given as goal

abbrev pub invariant-loop-number : goal.invariant-loop-number
invariant-loop-number l =
    AreLeft l.fn.builder (flat_map refinement_clauses (enumerate_from l.first l.refinements)) l.builder
    (numbered refinement_clauses l.first l.number (drop l.number l.refinements))
