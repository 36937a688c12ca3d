use Rattle.std.proofs.Common.{◌+◌, ◌≤◌, ◌-◌, ◌≡◌, length, slice_range, subst, sym, arith}
use Rattle.std.proofs.lemmas.List.Edits.{length-between}
use Rattle.cgm_lex.specs.Lexemes.{TokensStandInOrder}
use Rattle.cgm_lex.proofs.Adding.{going_none, going_on, order_wider}
use Rattle.cgm_lex.proofs.lexer.add_tokens.Goals as goal

pub loop-piece-init : goal.loop-piece-init
loop-piece-init c = going_none c.args.text.now c.content-words.result.now c.args.line c.args.start c.args.tokens.now.items

pub loop-piece-preserved : goal.loop-piece-preserved
loop-piece-preserved c =
    let text = c.args.text.now in
    let size : length (slice_range text c.args.start c.args.end) ≡ c.args.end - c.args.start =
    length-between text c.args.start c.args.end c.requires.inside in
    let short = c.content-words.ensures.short in
    let fits : c.args.start + length c.content-words.result.now ≤ length text = omega (arith, short, size) in
    let going = going_on text c.content-words.result.now c.args.line c.args.start c.args.end c.loop-piece.at c.in-Some.piece.from c.in-Some.piece.to c.in-Ok.kind c.args.tokens.now.items c.loop-piece.tokens.items c.token_at.result c.loop-piece.invariant (record {
      line_is = c.token_at.ensures.line;
      from_is = c.token_at.ensures.from;
      to_is = c.token_at.ensures.to;
      kind_is = c.token_at.ensures.kind;
    }) c.content-words.ensures.content c.requires.order c.requires.inside short fits c.in-Some.ensures.order c.in-Some.ensures.piece.2 c.in-Some.ensures.piece.3 c.in-Some.ensures.piece.0 c.in-Ok.ensures (c.in-Some.ensures.spans c.args.start) in
    rw c.in_ok-push-in-Ok.ensures.items going

pub returns-clause-order : goal.returns-clause-order
returns-clause-order c = λ before.
    let size = length-between c.args.text.now c.args.start c.args.end c.requires.inside in
    let short = c.content-words.ensures.short in
    let inside = c.loop-piece.invariant.inside in
    let order = c.requires.order in
    order_wider c.args.text.now 0 (c.args.start + c.loop-piece.at) c.args.end c.loop-piece.tokens.items (c.loop-piece.invariant.order before) (omega (arith, size, short, inside, order))

pub returns-in-Err-clause-order : goal.returns-in-Err-clause-order
returns-in-Err-clause-order c = λ before.
    let kept : c.truncate.new.self.items ≡ c.args.tokens.now.items = cc (c.truncate.ensures.items, c.len-count.ensures, c.loop-piece.invariant.front) in
    order_wider c.args.text.now 0 c.args.start c.args.end c.truncate.new.self.items (subst (λ ts. TokensStandInOrder c.args.text.now 0 c.args.start ts) (sym kept) before) c.requires.order
