use Rattle.std.proofs.Common.{drop}
use Rattle.std.specs.List.{flat_map}
use Rattle.cgm_atom.proofs.Additions.{AreLeft, flattened}
use Rattle.cgm_model.specs.Model.{lists_of}
use Rattle.cgm_enc_graph.specs.GraphClauses.{bind_clauses}
use Rattle.cgm_enc_graph.proofs.edges.add_binds.Given as goal

abbrev pub invariant-loop-e : goal.invariant-loop-e
invariant-loop-e l =
    AreLeft l.fn.builder (flat_map (bind_clauses (lists_of l.model)) l.binds) l.builder
    (flattened (bind_clauses (lists_of l.model)) l.e-index (drop l.e-index l.binds))
