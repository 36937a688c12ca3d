use Rattle.cgm_enc_graph.proofs.GraphSizes.{graph_clauses_few}
use Rattle.cgm_enc_graph.proofs.laws.graph_clauses_are_few.Goals as goal

pub returns : goal.returns
returns c = graph_clauses_few
