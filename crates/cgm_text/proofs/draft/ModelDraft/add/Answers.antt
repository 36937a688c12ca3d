use Rattle.cgm_text.proofs.Drafts.{not_added_stop}
use Rattle.cgm_text.proofs.draft.ModelDraft.add.Goals as goal

pub returns-in-Err-clause-stop : goal.returns-in-Err-clause-stop
returns-in-Err-clause-stop c =
    rw c.add_stop.ensures (not_added_stop c.args.self.now.builder c.args.statement c.in-Err.stop c.in-Err.ensures.refused)
