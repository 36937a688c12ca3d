use Rattle.std.proofs.Common.{ℕ, List, ap, ◌∙◌}
use Rattle.std.specs.Prelude.{filter}
use Rattle.std.proofs.lemmas.List.{take_all}
use Rattle.cgm_model.specs.Model.{lists_of}
use Rattle.cgm_encode.specs.Quantities.{is_possible_work}
use Rattle.cgm_encode.proofs.Kept.{items_kept}
use Rattle.cgm_encode.proofs.interest.work_among.Goals as goal

pub loop-element-preserved : goal.loop-element-preserved
loop-element-preserved c =
    let m = lists_of c.args.model.now in
    items_kept (is_possible_work m c.args.earlier.now.pairs) c.args.elements.now c.loop-element.element-index 0
    c.loop-element.tasks.items c.push_possible_work.new.tasks.items c.loop-element-test.true c.loop-element.invariant c.in_ok-push_possible_work.ensures

pub returns : goal.returns
returns c =
    c.loop-element.invariant
    ∙ ap (λ (xs : List ℕ). filter (is_possible_work (lists_of c.args.model.now) c.args.earlier.now.pairs) xs) (take_all c.loop-element.element-index c.args.elements.now c.loop-element-test.false)
