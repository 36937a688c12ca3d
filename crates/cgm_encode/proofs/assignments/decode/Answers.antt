use Rattle.cgm_encode.proofs.Promises.{decoded_promise}
use Rattle.cgm_encode.proofs.assignments.decode.Goals as goal

pub returns : goal.returns
returns c = decoded_promise c.args.enc.now c.args.values.now c.in_ok-a.a c.in_ok-a.ensures c.requires
