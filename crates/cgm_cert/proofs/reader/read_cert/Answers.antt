use Rattle.std.proofs.Common.{refl}
use Rattle.cgm_cert.specs.Spelling.{lines}
use Rattle.cgm_cert.proofs.Steps.{lines_there}
use Rattle.cgm_cert.proofs.Whole.{is_text, no_header, is_not_read, if_ok, if_err}
use Rattle.cgm_cert.proofs.reader.read_cert.Goals as goal

pub returns-else-is-clause-faulty : goal.returns-else-is-clause-faulty
returns-else-is-clause-faulty c =
    let false_is_true = c.if-is.false in
    rw c.fault_of_first-else-is.ensures
    (no_header c.args.bytes.now c.in-Some.first.now (lines c.in-Some.rest.now) c.in-Some.ensures.0 (lines_there c.in-Some.rest.now) (λ e. let t = c.if-is.ensures.1 e in absurd (cc)))

pub returns-then-is-clause-read : goal.returns-then-is-clause-read
returns-then-is-clause-read c =
    if_ok c.read_entries.result
    (λ entries read. is_text c.args.bytes.now c.in-Some.first.now c.in-Some.rest.now entries.items c.in-Some.ensures.1 (c.if-is.ensures.0 refl) read.0 read.1)
    c.read_entries.ensures.read

pub returns-then-is-clause-faulty : goal.returns-then-is-clause-faulty
returns-then-is-clause-faulty c =
    if_err c.read_entries.result
    (λ stop stopped. is_not_read c.args.bytes.now c.in-Some.first.now (lines c.in-Some.rest.now) stop c.in-Some.ensures.0 (c.if-is.ensures.0 refl) (lines_there c.in-Some.rest.now) stopped)
    c.read_entries.ensures.faulty
