use Rattle.std.proofs.Common.{append_assoc}
use Rattle.cgm_cli.proofs.faults.entry_line.Goals as goal

pub returns : goal.returns
returns c = simp append_assoc (rw (← c.in_ok-words.ensures, ← c.as_str-told.ensures.value) c.format.ensures.ok)
