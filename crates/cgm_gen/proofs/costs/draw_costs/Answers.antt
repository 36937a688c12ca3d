use Rattle.std.proofs.Common.{◌≡◌, ℕ, suc, ◌+◌, ◌-◌, List, [], ◌∷◌, ◌++◌, length, subst, sym, ap, ◌∙◌, arith, length-append}
use Rattle.cgm_gen.specs.declared.costs.Costs.{Costs}
use Rattle.cgm_gen.specs.Draws.{costs_from, costs_of, cost_generator}
use Rattle.cgm_gen.proofs.Drawing.{all_drawn, begun, one_more}
use Rattle.cgm_gen.proofs.costs.draw_costs.Goals as goal

pub loop-place-init : goal.loop-place-init
loop-place-init c = record {
  within = omega arith;
  so_far = begun c.args.goals (c.args.goals - 0) c.new-words.result c.new-costs.result.items c.new-costs.ensures.items (omega arith)
      (c.new-words.ensures ∙ ap (λ (n : ℕ). cost_generator n) c.from-state.ensures);
  count = ap (λ (xs : List Costs). length xs) c.new-costs.ensures.items;
}

pub loop-place-preserved : goal.loop-place-preserved
loop-place-preserved c =
    let place = c.loop-place.place in
    let goals = c.args.goals in
    let old = c.loop-place.costs.items in
    let more : goals - place ≡ suc (goals - (place + 1)) = omega (arith, c.loop-place-test.true) in
    record {
      within = omega (arith, c.loop-place-test.true);
      so_far = subst (λ (xs : List Costs). xs ++ costs_from (place + 1) (goals - (place + 1)) c.costs_at-next.new.words ≡ costs_of goals) (sym c.in_ok-push.ensures.items)
          (one_more place (goals - (place + 1)) (goals - place) c.loop-place.words c.costs_at-next.new.words c.costs_at-next.result old (costs_of goals) more c.loop-place.invariant.so_far c.costs_at-next.ensures);
      count = omega (arith, ap (λ (xs : List Costs). length xs) c.in_ok-push.ensures.items, length-append old (c.costs_at-next.result ∷ []), c.loop-place.invariant.count);
    }

pub returns-clause-costs : goal.returns-clause-costs
returns-clause-costs c =
    all_drawn c.loop-place.place (c.args.goals - c.loop-place.place) c.loop-place.words c.loop-place.costs.items (costs_of c.args.goals) (omega (arith, c.loop-place-test.false)) c.loop-place.invariant.so_far

pub returns-clause-count : goal.returns-clause-count
returns-clause-count c =
    omega (arith, c.loop-place.invariant.count, c.loop-place.invariant.within, c.loop-place-test.false)
