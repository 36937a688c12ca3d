-- The words that a fault line has for the test that an entry fails, with what it tells.
use Rattle.std.specs.Prelude.{ℕ, List, ◌++◌, codes}
use Rattle.std.specs.Fmt.{decimal}
use Rattle.cgm_atom.specs.declared.entries.BadStep.{BadStep}
use Rattle.cgm_atom.specs.declared.entries.BadStep.TheVariants as steps

abbrev pub step_words : BadStep → List ℕ
step_words steps.AfterEnd = codes "after-end"
step_words (steps.Values given) = codes "values " ++ decimal given
step_words (steps.Bounds var) = codes "bounds " ++ decimal var
step_words (steps.Clause number) = codes "clause " ++ decimal number
step_words (steps.Row number) = codes "row " ++ decimal number
step_words steps.NotLess = codes "not-less"
step_words (steps.Atom place) = codes "atom " ++ decimal place
step_words (steps.Hint place) = codes "hint " ++ decimal place
step_words (steps.Bound found) = codes "bound " ++ decimal found
step_words steps.NoConflict = codes "no-conflict"
