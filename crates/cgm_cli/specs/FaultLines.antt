-- The one line that the program prints for each fault.
use Rattle.std.specs.Prelude.{ℕ, List, ◌++◌, codes}
use Rattle.std.specs.Fmt.{decimal}
use Rattle.cgm_base.specs.declared.fault.BadKind.{BadKind}
use Rattle.cgm_base.specs.declared.limit.Limit.{Limit}
use Rattle.cgm_base.specs.Words.{kind_word, limit_word, limit_number}
use Rattle.cgm_base.specs.Printed.{line}
use Rattle.cgm_atom.specs.declared.entries.BadStep.{BadStep}
use Rattle.cgm_atom.specs.StepWords.{step_words}
use Rattle.cgm_cert.specs.declared.stop.CertKind.{CertKind}
use Rattle.cgm_cert.specs.Words.{certificate_word}

abbrev pub usage_fault : List ℕ
usage_fault = line (codes "fault usage")

abbrev pub text_fault : ℕ → BadKind → List ℕ
text_fault number kind = line (codes "fault text " ++ decimal number ++ codes " " ++ kind_word kind)

abbrev pub earlier_fault : ℕ → BadKind → List ℕ
earlier_fault number kind =
    line (codes "fault earlier " ++ decimal number ++ codes " " ++ kind_word kind)

-- the quantity, its limit, and the line at which it is passed
abbrev pub limit_fault : Limit → List ℕ
limit_fault limit =
    line (codes "fault limit " ++ limit_word limit.which ++ codes " "
    ++ decimal (limit_number limit.which) ++ codes " " ++ decimal limit.line)

-- what is wrong with a line of a certificate
abbrev pub certificate_fault : ℕ → CertKind → List ℕ
certificate_fault number kind =
    line (codes "fault certificate line " ++ decimal number ++ codes " " ++ certificate_word kind)

-- the test that an entry fails, with what it tells
abbrev pub entry_fault : ℕ → BadStep → List ℕ
entry_fault number why =
    line (codes "fault certificate entry " ++ decimal number ++ codes " " ++ step_words why)

abbrev pub read_fault : List ℕ
read_fault = line (codes "fault read")

abbrev pub write_fault : List ℕ
write_fault = line (codes "fault write")

abbrev pub memory_fault : List ℕ
memory_fault = line (codes "fault memory")
