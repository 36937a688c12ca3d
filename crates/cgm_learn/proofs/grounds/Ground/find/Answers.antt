use Rattle.std.proofs.Common.{subst, sym}
use Rattle.cgm_learn.specs.Grounds.{GroundState, IsKnownOn}
use Rattle.cgm_learn.proofs.Pending.{found_in_whole}
use Rattle.cgm_learn.proofs.grounds.Ground.find.Goals as goal

pub returns-in-None : goal.returns-in-None
returns-in-None c =
    let inside : GroundState = record { problem = c.self.inside.problem.now; state = c.self.inside.log.now; pending = c.self.inside.pending.now } in
    let known : IsKnownOn inside c.args.hint.now = subst (λ (g : GroundState). IsKnownOn g c.args.hint.now) (sym c.self.view_is) c.requires in
    rw (← c.self.view_is) (found_in_whole inside c.args.hint.now c.find.result c.self.invariant known c.in-None.ensures c.find.ensures)
