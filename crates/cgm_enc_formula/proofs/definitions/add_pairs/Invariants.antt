use Rattle.std.proofs.Common.{drop}
use Rattle.cgm_atom.proofs.Additions.{AreLeft}
use Rattle.cgm_enc_formula.specs.Definitions.{pairs}
use Rattle.cgm_enc_formula.proofs.definitions.add_pairs.Given as goal

abbrev pub invariant-loop-l : goal.invariant-loop-l
invariant-loop-l l = AreLeft l.fn.builder (pairs l.first l.literals) l.builder (pairs l.first (drop l.l-index l.literals))
