use Rattle.cgm_lex.proofs.Passing.{numbered_alone, said_alone}
use Rattle.cgm_lex.proofs.lexer.tokens_of_line.Goals as goal

pub returns-in-Ok-None-clause-lexemes : goal.returns-in-Ok-None-clause-lexemes
returns-in-Ok-None-clause-lexemes c =
    let added = rw c.in-Ok-None.field-0-is at c.in-Ok-None.ensures.added in
    said_alone c.args.line.now c.args.number c.new-tokens.result.items c.add_tokens.new.tokens.items c.new-tokens.ensures.items added

pub returns-in-Ok-None-clause-numbered : goal.returns-in-Ok-None-clause-numbered
returns-in-Ok-None-clause-numbered c =
    let added = rw c.in-Ok-None.field-0-is at c.in-Ok-None.ensures.added in
    numbered_alone c.args.line.now c.args.number c.new-tokens.result.items c.add_tokens.new.tokens.items c.new-tokens.ensures.items added
