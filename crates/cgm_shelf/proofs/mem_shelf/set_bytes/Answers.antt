use Rattle.cgm_shelf.proofs.Memory.{files-put}
use Rattle.cgm_shelf.proofs.mem_shelf.set_bytes.Goals as goal

pub returns-clause-ok : goal.returns-clause-ok
returns-clause-ok c =
    rw (← c.in_ok-key.ensures.ok, ← c.in_ok-held.ensures.items) (files-put _ c.args.files.now c.insert.new.self c.in_ok-held.held c.in_ok-insert.ensures.updates)
