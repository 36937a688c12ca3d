use Rattle.std.proofs.Common.{map, sym, ◌∙◌, true≢false}
use Rattle.cgm_lex.specs.Lexemes.{token_seen}
use Rattle.cgm_evolve.proofs.Drafts.{added_step, added_stop, begun_step}
use Rattle.cgm_evolve.proofs.draft.EarlierDraft.add_tokens.Goals as goal

pub returns-then-self-clause-step : goal.returns-then-self-clause-step
returns-then-self-clause-step c =
    let line = c.args.line.now in
    added_step (map (token_seen line) c.args.tokens.now) c.args.self.now c.add_pair.new.self c.add_pair.result (λ e. true≢false (sym ((c.is_end.ensures line).1 e) ∙ c.if-is_end.false)) c.if-self.true c.add_pair.ensures.added

pub returns-then-self-clause-stop : goal.returns-then-self-clause-stop
returns-then-self-clause-stop c =
    let line = c.args.line.now in
    added_stop (map (token_seen line) c.args.tokens.now) c.args.self.now c.add_pair.result (λ e. true≢false (sym ((c.is_end.ensures line).1 e) ∙ c.if-is_end.false)) c.if-self.true c.add_pair.ensures.stop

pub returns-else-self-clause-step : goal.returns-else-self-clause-step
returns-else-self-clause-step c =
    let line = c.args.line.now in
    begun_step (map (token_seen line) c.args.tokens.now) c.args.self.now c.begin.new.self c.begin.result (λ e. true≢false (sym ((c.is_end.ensures line).1 e) ∙ c.if-is_end.false)) c.if-self.false c.begin.ensures.header c.begin.ensures.pairs c.begin.ensures.index c.begin.ensures.begun
