use Rattle.std.proofs.Common.{List, Ok, map, sym, ap, ◌∙◌}
use Rattle.cgm_lex.specs.declared.token.Token.{Token}
use Rattle.cgm_lex.specs.Lexemes.{token_seen}
use Rattle.cgm_evolve.proofs.Drafts.{flawed_stops, line_steps, line_stopped}
use Rattle.cgm_evolve.proofs.draft.EarlierDraftDraft.add_line.Goals as goal

pub returns-in-Ok-clause-step : goal.returns-in-Ok-clause-step
returns-in-Ok-clause-step c =
    let line = c.args.line.now in
    line_steps line (map (token_seen line) c.as_slice.result.now) c.args.number c.args.self.now c.add_tokens.new.self c.add_tokens.result (c.in-Ok.ensures.lexemes ∙ ap (λ (ts : List Token). Ok (map (token_seen line) ts)) (sym c.as_slice.ensures.value)) c.add_tokens.ensures.step

pub returns-in-Ok-clause-stop : goal.returns-in-Ok-clause-stop
returns-in-Ok-clause-stop c =
    let line = c.args.line.now in
    line_stopped line (map (token_seen line) c.as_slice.result.now) c.args.number c.args.self.now c.add_tokens.result (c.in-Ok.ensures.lexemes ∙ ap (λ (ts : List Token). Ok (map (token_seen line) ts)) (sym c.as_slice.ensures.value)) c.add_tokens.ensures.stop

pub returns-in-Err-clause-stop : goal.returns-in-Err-clause-stop
returns-in-Err-clause-stop c =
    rw c.lexing_stop.ensures (flawed_stops c.args.line.now c.args.number c.args.self.now c.in-Err.stop c.in-Err.ensures.stop)
