use Rattle.std.proofs.Common.{drop}
use Rattle.std.specs.List.{enumerate_from, flat_map}
use Rattle.cgm_atom.proofs.Additions.{AreLeft, numbered}
use Rattle.cgm_enc_graph.specs.GraphClauses.{element_clauses}
use Rattle.cgm_enc_graph.proofs.refinements.add_elements.Given as goal

abbrev pub invariant-loop-element : goal.invariant-loop-element
invariant-loop-element l =
    AreLeft l.fn.builder (flat_map (λ e. element_clauses e.0 e.1) (enumerate_from 0 l.refinements)) l.builder
    (numbered (λ e. element_clauses e.0 e.1) 0 l.element (drop l.element l.refinements))
