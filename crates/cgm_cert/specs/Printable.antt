-- Hints that a certificate can write.
use Rattle.cgm_atom.specs.declared.entries.Hint.{Hint}
use Rattle.cgm_atom.specs.Ranges.{IsHintInRange, IsPlaced}

-- its numbers are within their ranges, and it is none to a lemma that has no place yet
abbrev pub IsHintPrintable : Hint → Type 0
IsHintPrintable h = IsHintInRange h × IsPlaced h
