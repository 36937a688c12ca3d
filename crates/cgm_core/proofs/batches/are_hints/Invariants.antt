use Rattle.std.specs.List.{AllWithin}
use Rattle.cgm_atom.specs.Ranges.{IsHintInRange}
use Rattle.cgm_atom.specs.Placing.{IsBefore}
use Rattle.cgm_core.proofs.batches.are_hints.Given as goal

abbrev pub invariant-loop-hint : goal.invariant-loop-hint
invariant-loop-hint l = AllWithin IsHintInRange l.hints 0 l.hint-index × AllWithin (IsBefore l.before) l.hints 0 l.hint-index
