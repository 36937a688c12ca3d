use Rattle.std.proofs.Common.{is_ok}
use Rattle.cgm_model.specs.declared.aids.Aids.{Aids}
use Rattle.cgm_model.proofs.Aiding.{AreFor-graph, AreFor-marks}
use Rattle.cgm_model.proofs.builder.make_room.Goals as goal

pub returns-in_err-grow-clause-kept : goal.returns-in_err-grow-clause-kept
returns-in_err-grow-clause-kept c = λ m h. AreFor-graph m c.args.aids.now c.grow.new.graph c.grow.ensures.kept c.grow.ensures.room h

pub returns-clause-kept : goal.returns-clause-kept
returns-clause-kept c = λ m h.
    let grown : Aids = record c.args.aids.now { graph = c.grow.new.graph } in
    AreFor-marks m grown c.push.new.self (is_ok c.push.result) c.push.ensures.items (AreFor-graph m c.args.aids.now c.grow.new.graph c.grow.ensures.kept c.grow.ensures.room h)
