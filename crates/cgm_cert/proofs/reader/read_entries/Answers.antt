use Rattle.std.proofs.Common.{◌≡◌, ◌++◌, sym, subst, arith, All}
use Rattle.std.proofs.lemmas.List.Elements.{All-push}
use Rattle.cgm_cert.specs.declared.stop.CertKind.TheVariants as kinds
use Rattle.cgm_atom.specs.Ranges.{IsPrintable}
use Rattle.cgm_cert.specs.Spelling.{lines, lines_of}
use Rattle.cgm_cert.specs.Fault.{FailsAt}
use Rattle.cgm_cert.proofs.Steps.{line_added, lines_there, fails_step, fails_here}
use Rattle.cgm_cert.proofs.reader.read_entries.Goals as goal

pub returns-in-Ok-None-clause-faulty : goal.returns-in-Ok-None-clause-faulty
returns-in-Ok-None-clause-faulty c =
    let number = c.loop-line.number in
    let after = c.in-Some.after.now in
    let none = rw c.in-Ok-None.field-0-is at c.in-Ok-None.ensures.none in
    let here = fails_here number c.in-Some.line.now (lines after) (lines_there after) none in
    c.loop-line.invariant.fails number kinds.Entry (subst (λ list. FailsAt number list number kinds.Entry) (sym c.in-Some.ensures.0) here)

pub loop-line-preserved : goal.loop-line-preserved
loop-line-preserved c =
    let number = c.loop-line.number in
    let after = c.in-Some.after.now in
    let line = c.in-Some.line.now in
    let e = c.in-Ok-Some.entry in
    let entries = c.loop-line.entries.items in
    let found = rw c.in-Ok-Some.field-0-is at c.in-Ok-Some.ensures.found in
    let more = line_added c.args.text.now c.loop-line.rest.now line after entries e c.loop-line.invariant.read c.in-Some.ensures.1 found.0 in
    let printable = All-push IsPrintable entries e c.loop-line.invariant.printable found.1 in
    record {
      read = subst (λ list. c.args.text.now ≡ lines_of list ++ after) (sym c.in-Ok.ensures.items) more;
      printable = subst (λ list. All IsPrintable list) (sym c.in-Ok.ensures.items) printable;
      fails = λ faulty kind fails.
          c.loop-line.invariant.fails faulty kind (subst (λ list. FailsAt number list faulty kind) (sym c.in-Some.ensures.0) (fails_step number faulty kind line (lines after) e found fails));
      counted = omega (arith, c.in-Some.ensures.2, c.loop-line.invariant.counted);
    }
