use Rattle.std.proofs.Common.{◌≡◌, ℕ, ◌+◌, ◌≤◌, ◌++◌, length, All}
use Rattle.cgm_cert.specs.declared.stop.CertKind.{CertKind}
use Rattle.cgm_atom.specs.Ranges.{IsPrintable}
use Rattle.cgm_cert.specs.Spelling.{lines, lines_of}
use Rattle.cgm_cert.specs.Fault.{FailsAt}
use Rattle.cgm_cert.proofs.reader.read_entries.Given as goal

-- the text is the lines of the entries and the rest; where the rest fails the text fails
abbrev pub invariant-loop-line : goal.invariant-loop-line
invariant-loop-line l = record {
  read : l.fn.text ≡ lines_of l.entries.items ++ l.rest;
  printable : All IsPrintable l.entries.items;
  fails : (faulty : ℕ) (kind : CertKind) → FailsAt l.number (lines l.rest) faulty kind → FailsAt 2 (lines l.fn.text) faulty kind;
  counted : l.number + length l.rest ≤ 2 + length l.fn.text;
}

abbrev pub decreases-loop-line : goal.decreases-loop-line
decreases-loop-line l = length l.rest
