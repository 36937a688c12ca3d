use Rattle.cgm_trail.proofs.Renaming.{led_landed}
use Rattle.cgm_trail.proofs.paths.Path.land.Goals as goal

pub invariant_of-self : goal.invariant_of-self
invariant_of-self c = record {
  problem = c.self.invariant.problem;
  led = led_landed c.args.first _ _ _ _ _ c.self.invariant.led c.land_all.ensures;
}
