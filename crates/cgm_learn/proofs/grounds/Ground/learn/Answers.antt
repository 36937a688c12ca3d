use Rattle.cgm_learn.proofs.grounds.Ground.learn.Goals as goal

pub returns-in-None : goal.returns-in-None
returns-in-None c = c.learn_end.ensures c.args.trail.now
