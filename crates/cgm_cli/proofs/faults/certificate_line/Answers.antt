use Rattle.std.proofs.Common.{append_assoc}
use Rattle.cgm_cli.proofs.faults.certificate_line.Goals as goal

pub returns : goal.returns
returns c = simp append_assoc (rw (← c.word-word.ensures) c.format.ensures.ok)
