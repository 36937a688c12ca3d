-- Laws over the definitions: what the lines of a found realization show.
use Rattle.std.specs.Prelude.{◌≡◌, List}
use Rattle.cgm_model.specs.declared.lists.Lists.{Lists}
use Rattle.cgm_evolve.specs.Pairs.{Pair}
use Rattle.cgm_obj.specs.Vector.{vector_of}
use Rattle.cgm_encode.specs.declared.answer.Found.{Found}
use Rattle.cgm_report.specs.Report.{found_lines, realized}
use Rattle.cgm_report.specs.Shown.{shown_lines, shown_report}

-- where the vector is that of the assignment, the lines are those of the quantities themselves
abbrev pub FoundReportsShowQuantities : Type 0
FoundReportsShowQuantities =
    (m : Lists) (pairs : List Pair) (found : Found)
    → found.vector ≡ vector_of m pairs found.assignment
    → (shown_lines m found ≡ found_lines m pairs found.assignment)
    × (shown_report m found ≡ realized m pairs found.assignment)
