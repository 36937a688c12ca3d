-- The exit status that each way of ending has.
use Rattle.std.specs.Prelude.{ℕ}
use Rattle.cgm_base.specs.declared.status.Status.{Status}
use Rattle.cgm_base.specs.declared.status.Status.TheVariants.{Done, Unrealizable, Usage, Text, Earlier, Limit, Certificate, Open, Read, Write, Memory}

abbrev pub code_of : Status → ℕ
code_of Done = 0
code_of Unrealizable = 1
code_of Usage = 2
code_of Text = 3
code_of Earlier = 4
code_of Limit = 5
code_of Certificate = 6
code_of Open = 7
code_of Read = 8
code_of Write = 9
code_of Memory = 10
