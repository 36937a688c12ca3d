use Rattle.std.proofs.Common.{◌++◌, ℕ, List, refl}
use Rattle.std.specs.Prelude.{flat_map}
use Rattle.cgm_atom.specs.declared.constraints.Var.{Var}
use Rattle.cgm_enc_formula.proofs.Mapped.{all_done}
use Rattle.cgm_encode.specs.ProblemText.{objective_line}
use Rattle.cgm_encode.proofs.Lines.{flat_more}
use Rattle.cgm_encode.proofs.printer.push_objectives.Goals as goal

pub loop-v-preserved : goal.loop-v-preserved
loop-v-preserved c =
    let d : Var = record { 0 = 0 } in
    flat_more objective_line c.args.objectives.now c.loop-v.v-index d c.loop-v.out.items c.push_objective.new.out.items (c.args.out.now.items ++ flat_map objective_line c.args.objectives.now)
    c.loop-v-test.true c.loop-v.invariant c.in_ok-push_objective.ensures

pub returns : goal.returns
returns c =
    let text : List Var → List ℕ = λ xs. flat_map objective_line xs in
    all_done text c.args.objectives.now c.loop-v.v-index c.loop-v.out.items (c.args.out.now.items ++ text c.args.objectives.now) refl c.loop-v-test.false c.loop-v.invariant
