use Rattle.cgm_enc_graph.proofs.GraphTruths.{realization_keeps}
use Rattle.cgm_enc_graph.proofs.laws.realizations_keep_graphs.Goals as goal

pub returns : goal.returns
returns c = realization_keeps
