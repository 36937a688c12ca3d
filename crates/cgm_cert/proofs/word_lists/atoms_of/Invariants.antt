use Rattle.std.proofs.Common.{◌≡◌, ◌++◌, length, map, All}
use Rattle.cgm_atom.specs.Ranges.{IsAtomInRange}
use Rattle.cgm_atom.specs.AtomWords.{atom_word}
use Rattle.cgm_cert.specs.Spelling.{further_words}
use Rattle.cgm_cert.proofs.word_lists.atoms_of.Given as goal

abbrev pub invariant-loop-word : goal.invariant-loop-word
invariant-loop-word l = record {
  spelled : further_words l.fn.rest ≡ map atom_word l.atoms.items ++ further_words l.left;
  within : All IsAtomInRange l.atoms.items;
}

abbrev pub decreases-loop-word : goal.decreases-loop-word
decreases-loop-word l = length l.left
