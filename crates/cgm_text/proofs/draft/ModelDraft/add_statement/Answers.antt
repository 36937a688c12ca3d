use Rattle.cgm_text.specs.Line.{AreJudged}
use Rattle.cgm_text.specs.Trees.{seen_all}
use Rattle.cgm_text.proofs.Drafts.{put_added, put_stop}
use Rattle.cgm_text.proofs.Judging.{stop_exit}
use Rattle.cgm_text.proofs.Proper.{made_proper}
use Rattle.cgm_text.proofs.draft.ModelDraft.add_statement.Goals as goal

pub add-requires : goal.add-requires
add-requires c =
    made_proper c.args.self.now.builder (seen_all c.args.line.now c.args.tokens.now) c.in_ok-statement.statement c.in_ok-statement.ensures.made c.requires.shallow

pub returns-in_err-statement-clause-stop : goal.returns-in_err-statement-clause-stop
returns-in_err-statement-clause-stop c =
    let tokens = seen_all c.args.line.now c.args.tokens.now in
    stop_exit (AreJudged c.args.self.now.builder tokens) c.from_residual.result c.in_err-statement.field-0.0 c.from_residual.ensures.1 c.in_err-statement.ensures.stop

pub returns-clause-added : goal.returns-clause-added
returns-clause-added c =
    put_added (seen_all c.args.line.now c.args.tokens.now) c.args.number c.in_ok-statement.statement c.args.self.now c.add.new.self c.add.result c.in_ok-statement.ensures.made c.add.ensures.put

pub returns-clause-stop : goal.returns-clause-stop
returns-clause-stop c =
    put_stop c.args.self.now.builder (seen_all c.args.line.now c.args.tokens.now) c.in_ok-statement.statement c.add.result c.in_ok-statement.ensures.made c.add.ensures.stop
