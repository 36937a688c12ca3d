use Rattle.std.proofs.Common.{◌≡◌, ◌++◌, length, map, All}
use Rattle.std.specs.Fmt.{signed_decimal}
use Rattle.cgm_atom.specs.Limits.{IsBound}
use Rattle.cgm_cert.specs.Spelling.{further_words}
use Rattle.cgm_cert.proofs.word_lists.values_of.Given as goal

abbrev pub invariant-loop-word : goal.invariant-loop-word
invariant-loop-word l = record {
  spelled : further_words l.fn.rest ≡ map signed_decimal l.values.items ++ further_words l.left;
  within : All IsBound l.values.items;
}

abbrev pub decreases-loop-word : goal.decreases-loop-word
decreases-loop-word l = length l.left
