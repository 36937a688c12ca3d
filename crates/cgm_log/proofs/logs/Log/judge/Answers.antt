use Rattle.cgm_log.proofs.Printing.{bests_fit}
use Rattle.cgm_log.proofs.logs.Log.judge.Goals as goal

pub judge-requires-clause-room : goal.judge-requires-clause-room
judge-requires-clause-room c =
    rw c.indexed.ensures.state (bests_fit c.args.self.now.entries c.indexed.ensures.valid.count)
