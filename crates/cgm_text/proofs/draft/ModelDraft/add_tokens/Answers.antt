use Rattle.std.proofs.Common.{sym, ◌∙◌, true≢false}
use Rattle.cgm_text.specs.Trees.{seen_all}
use Rattle.cgm_text.proofs.Drafts.{added_step, added_stop, begun_step, begun_stop}
use Rattle.cgm_text.proofs.draft.ModelDraft.add_tokens.Goals as goal

pub returns-then-self-clause-step : goal.returns-then-self-clause-step
returns-then-self-clause-step c =
    let line = c.args.line.now in
    added_step (seen_all line c.args.tokens.now) c.args.number c.args.self.now c.add_statement.new.self c.add_statement.result (λ e. true≢false (sym ((c.is_end.ensures line).1 e) ∙ c.if-is_end.false)) (sym (c.nests_deeper.ensures line) ∙ c.if-nests_deeper.false) c.if-self.true c.add_statement.ensures.added

pub returns-else-self-clause-step : goal.returns-else-self-clause-step
returns-else-self-clause-step c =
    let line = c.args.line.now in
    begun_step (seen_all line c.args.tokens.now) c.args.number c.args.self.now c.begin.new.self c.begin.result (λ e. true≢false (sym ((c.is_end.ensures line).1 e) ∙ c.if-is_end.false)) (sym (c.nests_deeper.ensures line) ∙ c.if-nests_deeper.false) c.if-self.false c.begin.ensures.begun c.begin.ensures.header c.begin.ensures.lists c.begin.ensures.lines

pub returns-then-self-clause-stop : goal.returns-then-self-clause-stop
returns-then-self-clause-stop c =
    let line = c.args.line.now in
    added_stop (seen_all line c.args.tokens.now) c.args.self.now c.add_statement.result (λ e. true≢false (sym ((c.is_end.ensures line).1 e) ∙ c.if-is_end.false)) (sym (c.nests_deeper.ensures line) ∙ c.if-nests_deeper.false) c.if-self.true c.add_statement.ensures.stop

pub returns-else-self-clause-stop : goal.returns-else-self-clause-stop
returns-else-self-clause-stop c =
    let line = c.args.line.now in
    begun_stop (seen_all line c.args.tokens.now) c.args.self.now c.begin.result (λ e. true≢false (sym ((c.is_end.ensures line).1 e) ∙ c.if-is_end.false)) (sym (c.nests_deeper.ensures line) ∙ c.if-nests_deeper.false) c.if-self.false c.begin.ensures.stop
