use Rattle.cgm_enc_graph.proofs.GraphTruths.{graph_means}
use Rattle.cgm_enc_graph.proofs.laws.graph_clauses_mean_rules.Goals as goal

pub returns : goal.returns
returns c = graph_means
