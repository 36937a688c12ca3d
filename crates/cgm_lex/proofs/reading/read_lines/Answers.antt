use Rattle.std.proofs.Common.{sym}
use Rattle.cgm_lex.proofs.Readings.{not_whole, read_whole}
use Rattle.cgm_lex.proofs.reading.read_lines.Goals as goal

pub returns-in-None-clause-read : goal.returns-in-None-clause-read
returns-in-None-clause-read g c =
    read_whole g.D.Draft.form g.D.Draft.holds c.args.bytes.now c.add_lines.new.draft c.in-Ok.ensures.read (λ said holds. sym (c.in-None.ensures said holds))

pub returns-in-Some-clause-stop : goal.returns-in-Some-clause-stop
returns-in-Some-clause-stop g c =
    rw c.text_stop.ensures (not_whole g.D.Draft.form g.D.Draft.holds c.args.bytes.now c.add_lines.new.draft c.in-Some.fault c.in-Ok.ensures.read (λ said holds. sym (c.in-Some.ensures said holds)))
