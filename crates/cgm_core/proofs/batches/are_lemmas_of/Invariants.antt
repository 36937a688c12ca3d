use Rattle.std.specs.List.{AllWithin}
use Rattle.cgm_log.specs.Landing.{IsLemmaOf}
use Rattle.cgm_core.proofs.batches.are_lemmas_of.Given as goal

abbrev pub invariant-loop-lemma : goal.invariant-loop-lemma
invariant-loop-lemma l = AllWithin (IsLemmaOf l.worker l.before) l.lemmas 0 l.lemma-index
