use Rattle.std.proofs.Common.{rules, w64, ◌∙◌}
use Rattle.std.proofs.lemmas.Int.{to_z-of_z}
use Rattle.cgm_atom.specs.declared.constraints.Var.{Var}
use Rattle.cgm_atom.specs.Bounds.{value_of}
use Rattle.cgm_atom.specs.Instance.{values_at}
use Rattle.cgm_enc_formula.proofs.Mapped.{rest_by, rest_all}
use Rattle.cgm_encode.proofs.solutions.objective_values.Goals as goal

pub loop-v-preserved : goal.loop-v-preserved
loop-v-preserved c =
    let values = c.args.values.now in
    let objectives = c.args.objectives.now in
    let d : Var = record { 0 = 0 } in
    rest_by (λ (v : Var). value_of values v.0) objectives c.loop-v.v-index d _ c.loop-v.vector.items c.push.new.self.items (values_at values objectives)
    c.loop-v-test.true c.loop-v.invariant (to_z-of_z w64 c.value_at.result (search rules) ∙ c.value_at.ensures) c.in_ok-push.ensures.items

pub returns : goal.returns
returns c =
    let values = c.args.values.now in
    let objectives = c.args.objectives.now in
    rest_all (λ (v : Var). value_of values v.0) objectives c.loop-v.v-index c.loop-v.vector.items (values_at values objectives) c.loop-v-test.false c.loop-v.invariant
