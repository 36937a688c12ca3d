use Rattle.std.proofs.Common.{◌<◌, subst, sym, ◌∙◌}
use Rattle.cgm_search.specs.declared.searches.Search.{Search}
use Rattle.cgm_search.specs.Searching.{IsReady}
use Rattle.cgm_search.proofs.UnitParts.{unit_jumped}
use Rattle.cgm_search.proofs.Readiness.{even_cut, ready_raised, ready_traded}
use Rattle.cgm_search.proofs.TakenLemmas.{given_after_cut, open_after_cut, open_placed}
use Rattle.cgm_search.proofs.searches.Search.resolve.Goals as goal
use Rattle.cgm_trail.specs.TrailState.{IsOpenIn, TrailState, box_of, cut_trail, level_of}

pub trade_lemma-requires-clause-ready : goal.trade_lemma-requires-clause-ready
trade_lemma-requires-clause-ready g c = λ _ _.
    ready_raised c.args.self.now c.raise_resolved.new.self c.requires.ready c.raise_resolved.ensures.order c.raise_resolved.ensures.count c.raise_resolved.ensures.variables

pub jump-requires-clause-ready : goal.jump-requires-clause-ready
jump-requires-clause-ready g c =
    let raised : Search = record c.args.self.now { choice = c.raise_resolved.new.self } in
    let ready : IsReady raised = ready_raised c.args.self.now c.raise_resolved.new.self c.requires.ready c.raise_resolved.ensures.order c.raise_resolved.ensures.count c.raise_resolved.ensures.variables in
    ready_traded raised c.trade_lemma.new.self ready c.trade_lemma.ensures.traded
    c.in_ok-trade_lemma.ensures.known (sym c.is_closed.ensures ∙ c.if-is_closed.false) c.in_ok-trade_lemma.ensures.longer

pub jump-requires-clause-given : goal.jump-requires-clause-given
jump-requires-clause-given g c = (
  c.in_ok-lemma.lemma.clause,
  open_placed c.trade_lemma.new.self.known c.in_ok-lemma.lemma.clause c.in_ok-trade_lemma.ensures.taken (sym c.is_closed.ensures ∙ c.if-is_closed.false),
  rw c.trade_lemma.ensures.traded.trail
      (given_after_cut c.args.self.now.trail c.in_ok-lemma.lemma c.in-Some.atom (even_cut c.args.self.now c.in_ok-lemma.lemma.level c.requires.ready) c.in_ok-lemma.ensures.unit
      (c.in-Some.ensures.last.0, sym c.as_slice.ensures ∙ c.in-Some.ensures.last.1)),
)

pub jump-requires-clause-earlier : goal.jump-requires-clause-earlier
jump-requires-clause-earlier g c =
    subst (λ (t : TrailState). c.in_ok-lemma.lemma.level < level_of t.changes) (sym c.trade_lemma.ensures.traded.trail)
    (open_after_cut c.args.self.now.trail c.in_ok-lemma.lemma c.in-Some.atom c.in_ok-lemma.ensures.unit
    (c.in-Some.ensures.last.0, sym c.as_slice.ensures ∙ c.in-Some.ensures.last.1)).0

pub jump-requires-clause-undecided : goal.jump-requires-clause-undecided
jump-requires-clause-undecided g c =
    subst (λ (t : TrailState). IsOpenIn (box_of (cut_trail c.in_ok-lemma.lemma.level t)) c.in-Some.atom) (sym c.trade_lemma.ensures.traded.trail)
    (open_after_cut c.args.self.now.trail c.in_ok-lemma.lemma c.in-Some.atom c.in_ok-lemma.ensures.unit
    (c.in-Some.ensures.last.0, sym c.as_slice.ensures ∙ c.in-Some.ensures.last.1)).1

pub returns-clause-unit : goal.returns-clause-unit
returns-clause-unit g c =
    let raised : Search = record c.args.self.now { choice = c.raise_resolved.new.self } in
    unit_jumped raised c.trade_lemma.new.self c.jump.new.self (g.T.Trader.seat c.args.trader.now) (g.T.Trader.seat c.trade_lemma.new.trader)
    c.trade_lemma.ensures.traded c.in_ok-trade_lemma.ensures.told c.in_ok-jump-in-Some.ensures.ready c.jump.ensures.known c.jump.ensures.kept.worker
    c.in_ok-jump-in-Some.ensures.moves c.in_ok-jump-in-Some.ensures.need c.in_ok-trade_lemma.ensures.once
