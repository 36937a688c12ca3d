use Rattle.cgm_enc_graph.proofs.GraphSizes.{graph_clauses_known}
use Rattle.cgm_enc_graph.proofs.laws.graph_clauses_are_known.Goals as goal

pub returns : goal.returns
returns c = graph_clauses_known
