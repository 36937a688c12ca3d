use Rattle.cgm_enc_graph.proofs.VariableLists.{AreSoFar}
use Rattle.cgm_enc_graph.proofs.targets.by_target.Given as goal

abbrev pub invariant-loop-number : goal.invariant-loop-number
invariant-loop-number l = AreSoFar l.count l.first l.refinements l.lists.items l.number
