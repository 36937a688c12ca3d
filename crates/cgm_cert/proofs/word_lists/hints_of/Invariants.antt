use Rattle.std.proofs.Common.{◌≡◌, ◌++◌, length, map, All}
use Rattle.cgm_cert.specs.Printable.{IsHintPrintable}
use Rattle.cgm_cert.specs.Spelling.{hint_word, further_words}
use Rattle.cgm_cert.proofs.word_lists.hints_of.Given as goal

abbrev pub invariant-loop-word : goal.invariant-loop-word
invariant-loop-word l = record {
  spelled : further_words l.fn.rest ≡ map hint_word l.hints.items ++ further_words l.left;
  within : All IsHintPrintable l.hints.items;
}

abbrev pub decreases-loop-word : goal.decreases-loop-word
decreases-loop-word l = length l.left
