use Rattle.cgm_learn.proofs.RowNeeds.{affords}
use Rattle.cgm_learn.proofs.rows.affordable.Goals as goal

pub returns-clause-cost : goal.returns-clause-cost
returns-clause-cost c = affords c.args.slack c.args.size c.args.most c.min.result c.requires c.min.ensures
