use Rattle.cgm_atom.proofs.RowLimits.{IsRowOf-inside}
use Rattle.cgm_learn.proofs.rows.slack_with.Goals as goal

pub row_slack-requires : goal.row_slack-requires
row_slack-requires c = IsRowOf-inside c.args.work.now c.in_ok-under.under c.args.row.now c.in_ok-under.ensures.within c.requires.row
