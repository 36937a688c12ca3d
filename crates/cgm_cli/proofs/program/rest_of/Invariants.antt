use Rattle.std.proofs.Common.{◌≡◌, ◌++◌}
use Rattle.std.specs.Vec.Iter.{into_iter_items}
use Rattle.cgm_cli.proofs.program.rest_of.Given as goal

-- the words so far and the arguments left are all that were left at first
abbrev pub invariant-loop-word : goal.invariant-loop-word
invariant-loop-word l = l.words.items ++ into_iter_items l.word-iterator ≡ into_iter_items l.initial.word-iterator
