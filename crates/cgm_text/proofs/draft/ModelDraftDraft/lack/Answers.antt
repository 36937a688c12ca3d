use Rattle.cgm_text.proofs.Drafts.{header_lacks, nothing_lacks}
use Rattle.cgm_text.proofs.draft.ModelDraftDraft.lack.Goals as goal

pub returns-then-self : goal.returns-then-self
returns-then-self c = λ so_far is. nothing_lacks c.args.self.now so_far c.if-self.true is

pub returns-else-self : goal.returns-else-self
returns-else-self c = λ so_far is. header_lacks c.args.self.now so_far c.if-self.false is
