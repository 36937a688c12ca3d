-- What is read can be printed.
use Rattle.std.proofs.Common.{List, All, subst, sym}
use Rattle.cgm_atom.specs.declared.entries.Entry.{Entry}
use Rattle.cgm_atom.specs.Ranges.{IsPrintable}
use Rattle.cgm_cert.specs.Fault.{IsTextOf}
use Rattle.cgm_rows_problems.proofs.cert_rows.printed_again.Goals as goal

pub print_cert-requires : goal.print_cert-requires
unfolding IsTextOf
print_cert-requires c =
    subst (λ (xs : List Entry). All IsPrintable xs) (sym c.as_slice.ensures.value) c.in_ok-entries.ensures.read.1
