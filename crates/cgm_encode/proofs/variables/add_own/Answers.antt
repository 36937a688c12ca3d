use Rattle.std.proofs.Common.{◌+◌, ◌≡◌, ◌∙◌, ap, arith, drop, get_or, length, map}
use Rattle.std.proofs.lemmas.List.{length-map}
use Rattle.std.proofs.lemmas.List.Elements.{All-map}
use Rattle.cgm_atom.specs.Building.{with_var}
use Rattle.cgm_atom.proofs.RowSums.{rest_at}
use Rattle.cgm_model.specs.declared.lists.Variable.{Variable}
use Rattle.cgm_encode.specs.Problem.{own_range}
use Rattle.cgm_encode.proofs.AddedVariables.{AreRangesLeft, IsOrderedRange, ranges_all, ranges_more}
use Rattle.cgm_encode.proofs.variables.add_own.Goals as goal

pub loop-v-init : goal.loop-v-init
loop-v-init c =
    let vars = c.args.vars.now in
    let same : length (map own_range vars) ≡ length vars = length-map vars own_range in
    ranges_all c.args.builder.now (map own_range vars) (All-map IsOrderedRange own_range vars c.requires.ordered) (omega (arith, same, c.requires.room))

pub loop-v-preserved : goal.loop-v-preserved
loop-v-preserved c =
    let vars = c.args.vars.now in
    let i = c.loop-v.v-index in
    let v = c.v-item.result in
    let p = c.loop-v.builder in
    ranges_more c.args.builder.now p c.add_one_own.new.builder (map own_range vars) (own_range (get_or vars i v)) (map own_range (drop (i + 1) vars))
    (rest_at (λ rest. AreRangesLeft c.args.builder.now (map own_range vars) p (map own_range rest)) vars i v c.loop-v-test.true c.loop-v.invariant)
    (c.in_ok-add_one_own.ensures ∙ ap (λ (w : Variable). with_var p w.lo w.hi) c.v-item.is)
